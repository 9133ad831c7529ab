use Rattle.std.proofs.Common.{ℕ, ◌+◌, ◌<◌}
use Rattle.std.specs.Prelude.{slice_index}
use Rattle.ea_hierarchy.specs.Hierarchies.{AreOver, IsFrom, Lowers}
use Rattle.ea_hierarchy.proofs.customize.relax_rank.Given as goal

abbrev pub invariant-loop-place : goal.invariant-loop-place
invariant-loop-place l = record {
  lowers : Lowers (slice_index l.upward.firsts.items (l.rank + 1)) l.initial.numbers.ups.items l.initial.numbers.downs.items l.numbers.ups.items l.numbers.downs.items;
  triangles : (place : ℕ) → place < l.place → IsFrom l.upward.firsts.items l.rank place → AreOver l.upward.firsts.items l.upward.heads.items l.numbers.ups.items l.numbers.downs.items l.rank place (slice_index l.upward.firsts.items (l.rank + 1));
}
