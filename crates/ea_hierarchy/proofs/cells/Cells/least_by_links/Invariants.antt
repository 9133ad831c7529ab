use Rattle.ea_hierarchy.specs.Cells.{bound_at}
use Rattle.ea_hierarchy.proofs.Trimming.{IsLeastSoFar}
use Rattle.ea_hierarchy.proofs.cells.Cells.least_by_links.Given as goal

abbrev pub invariant-loop-link : goal.invariant-loop-link
invariant-loop-link l = IsLeastSoFar (bound_at l.self.aim l.self.list.items) l.links l.reach l.bound l.link-index
