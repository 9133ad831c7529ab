use Rattle.std.proofs.Common.{ℕ, ◌+◌, ◌<◌}
use Rattle.std.specs.Prelude.{slice_index}
use Rattle.ea_hierarchy.specs.Hierarchies.{AreOver, IsFrom, Lowers}
use Rattle.ea_hierarchy.proofs.customize.relax.Given as goal

abbrev pub invariant-loop-rank : goal.invariant-loop-rank
invariant-loop-rank l = record {
  lowers : Lowers 0 l.initial.numbers.ups.items l.initial.numbers.downs.items l.numbers.ups.items l.numbers.downs.items;
  triangles : (rank place : ℕ) → rank < l.rank → IsFrom l.upward.firsts.items rank place → AreOver l.upward.firsts.items l.upward.heads.items l.numbers.ups.items l.numbers.downs.items rank place (slice_index l.upward.firsts.items (rank + 1));
}
