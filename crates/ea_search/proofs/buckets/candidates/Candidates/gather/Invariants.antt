use Rattle.std.proofs.Common.{◌≤◌, ◌+◌, length, take}
use Rattle.ea_road.specs.Roads.{leaving}
use Rattle.ea_search.specs.Candidates.{Gathered}
use Rattle.ea_search.proofs.buckets.candidates.Candidates.gather.Given as goal

-- the arcs so far were gathered
abbrev pub invariant-loop-place : goal.invariant-loop-place
invariant-loop-place g l = record {
  gathered : Gathered l.network (g.T.TravelTimes.answers l.times) l.node l.departure (take l.place (leaving l.network l.node)) (g.L.Table.labels l.table) l.initial.self l.self;
  room : length l.self ≤ length l.initial.self + l.place;
}
