-- Upward arcs in their order.
use Rattle.std.proofs.Common.{◌≡◌, ℕ, zero, suc, ◌+◌, ◌-◌, ◌<◌, ◌≤◌, inl, inr, ap, sym, ◌∙◌, arith, List, length, get_or}
use Rattle.std.specs.Prelude.{slice_index}
use Rattle.std.proofs.lemmas.Bool.Decides.{leb_tells}
use Rattle.std.proofs.lemmas.List.{get_or_default}
use Rattle.ea_hierarchy.specs.Hierarchies.{IsFrom, IsLowest, IsUpward}

module _ (nodes : ℕ) (firsts heads : List ℕ) (are : IsUpward nodes firsts heads) where
  -- the lower of two heads comes first
  pub comes_first : (rank place other : ℕ) → rank < nodes → IsFrom firsts rank place → IsFrom firsts rank other → slice_index heads place < slice_index heads other → place < other
  comes_first rank place other below from from_other less = elim (leb_tells other place) [
    | inr before ↦ before.1
    | inl after ↦ elim (leb_tells place other) [
      | inl also ↦ let same : place ≡ other = omega (arith, after.1, also.1) in absurd (omega (arith, ap (slice_index heads) same, less))
      | inr strict ↦ let falls = are.ascend rank other place below from_other from strict.1 in absurd (omega (arith, falls, less))
    ]
  ]

  -- a head that isn't higher than another doesn't come after it
  pub comes_not_after : (rank place other : ℕ) → rank < nodes → IsFrom firsts rank place → IsFrom firsts rank other → slice_index heads place ≤ slice_index heads other → place ≤ other
  comes_not_after rank place other below from from_other low = elim (leb_tells place other) [
    | inl is ↦ is.1
    | inr after ↦ let rises = are.ascend rank other place below from_other from after.1 in absurd (omega (arith, rises, low))
  ]

  pub firsts_rise : (rank steps : ℕ) → rank + steps ≤ nodes → slice_index firsts rank ≤ slice_index firsts (rank + steps)
  firsts_rise rank zero to = let same : rank + 0 ≡ rank = omega arith in omega (arith, ap (slice_index firsts) same)
  firsts_rise rank (suc steps) to =
      let before = firsts_rise rank steps (omega (arith, to)) in
      let step = are.rises (rank + steps) (omega (arith, to)) in
      let same : rank + suc steps ≡ rank + steps + 1 = omega arith in
      omega (arith, ap (slice_index firsts) same, before, step)

  -- the arcs of a higher rank lie behind those of a lower one
  pub lie_behind : (low high : ℕ) → low < high → high < nodes → slice_index firsts (low + 1) ≤ slice_index firsts high
  lie_behind low high order below =
      let rise = firsts_rise (low + 1) (high - (low + 1)) (omega (arith, order, below)) in
      let same : low + 1 + (high - (low + 1)) ≡ high = omega (arith, order) in
      omega (arith, rise, ap (slice_index firsts) same)

  -- the lowest head of a rank is a higher rank
  pub lowest_up : (rank head : ℕ) → rank < nodes → IsLowest firsts heads rank head → (rank < head) × (head < nodes)
  lowest_up rank head below lowest =
      let up = are.upward rank (slice_index firsts rank) below (record { from = omega arith; before = lowest.some }) in
      (omega (arith, up.0, lowest.is), omega (arith, up.1, lowest.is))

  pub inside : (rank place : ℕ) → rank < nodes → IsFrom firsts rank place → place < length heads
  inside rank place below from = omega (arith, from.before, are.within (rank + 1) (omega (arith, below)))

-- what was read at a place
pub read_at : (xs : List ℕ) (place x : ℕ) → place < length xs → x ≡ get_or xs place x → slice_index xs place ≡ x
read_at xs place x inside is = sym (is ∙ get_or_default xs place x 0 inside)
