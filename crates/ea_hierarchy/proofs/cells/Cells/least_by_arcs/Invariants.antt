use Rattle.std.proofs.Common.{◌≡◌, ◌-◌}
use Rattle.std.specs.Prelude.{slice_index}
use Rattle.ea_hierarchy.specs.Cells.{reach_of, worth_of}
use Rattle.ea_hierarchy.specs.Numbers.{plus}
use Rattle.ea_hierarchy.specs.Potentials.{least_over}
use Rattle.ea_hierarchy.proofs.cells.Cells.least_by_arcs.Given as goal

abbrev pub invariant-loop-place : goal.invariant-loop-place
invariant-loop-place l =
    l.bound ≡ least_over (λ place. plus (slice_index l.numbers.ups.items place) (worth_of l.upward.firsts.items l.upward.heads.items l.numbers.ups.items l.self.aim l.self.list.items (slice_index l.upward.heads.items place))) (reach_of l.self.aim l.self.list.items l.rank) (slice_index l.upward.firsts.items l.rank) (l.place - slice_index l.upward.firsts.items l.rank)
