use Rattle.std.proofs.Common.{ap, arith, List, ℕ, length, ◌-◌}
use Rattle.std.specs.Prelude.{slice_index}
use Rattle.std.proofs.lemmas.List.FromFn.{get_or-range_with_len, length-range_with_len}
use Rattle.ea_hierarchy.proofs.ranks.Ranks.of.Goals as goal

pub returns-in-None : goal.returns-in-None
returns-in-None c =
    let nodes = c.self.inside.nodes in
    let slot : ℕ = c.args.node - 1 in
    let same = rw c.in-None.is at c.self.view_is in
    let count = ap (λ (xs : List ℕ). length xs) same in
    let here = ap (λ (xs : List ℕ). slice_index xs slot) same in
    omega (arith, here, get_or-range_with_len 0 nodes slot 0 (omega (arith, count, length-range_with_len 0 nodes, c.requires.from_one, c.requires.to_last)))
