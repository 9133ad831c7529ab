use Rattle.ea_search.specs.Frontiers.{KeepsWaiting}
use Rattle.ea_search.specs.Underway.{bound_of}
use Rattle.ea_search.proofs.buckets.frontier.Frontier.draw.Given as goal

abbrev pub invariant-drawing : goal.invariant-drawing
invariant-drawing g l = KeepsWaiting (bound_of (g.L.Table.labels l.table)) l.initial.self l.self
