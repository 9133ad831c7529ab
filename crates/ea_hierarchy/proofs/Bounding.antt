-- Bounds are found from those of the heads.
use Rattle.std.proofs.Common.{◌≡◌, ℕ, zero, suc, ◌+◌, ◌-◌, ◌<◌, ◌≤◌, inl, inr, refl, ap, sym, subst, ◌∙◌, arith, List, length, set, min}
use Rattle.std.specs.Prelude.{nat_le, nat_lt, slice_index, if◌then◌else◌}
use Rattle.std.proofs.lemmas.Bool.Decides.{leb_tells, nat_tests}
use Rattle.std.proofs.lemmas.List.{get_or-set_other, get_or-set_same, length-set}
use Rattle.ea_hierarchy.specs.Cells.{AreFound, FindsMore, IsBegun, IsFinal, IsHighest, bound_at, cell_at, reach_of, worth_of}
use Rattle.ea_hierarchy.specs.Hierarchies.{AreUpward, IsFrom}
use Rattle.ea_hierarchy.specs.Numbers.{plus}
use Rattle.ea_hierarchy.specs.Potentials.{least_over, potential}
use Rattle.ea_hierarchy.specs.declared.cells.Aim.{Aim}
use Rattle.ea_hierarchy.specs.declared.cells.Cell.{Cell}
use Rattle.ea_hierarchy.specs.declared.numbers.TheConstants.{NONE}
use Rattle.ea_hierarchy.proofs.Reaching.{far_sum, same_or_not}

least_alike : (of other : ℕ → ℕ) (base other_base first count : ℕ) → base ≡ other_base → ((k : ℕ) → k < count → of (first + k) ≡ other (first + k)) → least_over of base first count ≡ least_over other other_base first count
least_alike of other base other_base first zero same alike = same
least_alike of other base other_base first (suc count) same alike =
    let before = least_alike of other base other_base first count same (λ k inside. alike k (omega (arith, inside))) in
    omega (arith, before, alike count (omega arith))

-- what is reached decides on the potentials
pub potential_same : (firsts heads ups : List ℕ) (reach other : ℕ → ℕ) → ((rank : ℕ) → reach rank ≡ other rank) → (steps rank : ℕ) → potential firsts heads ups reach steps rank ≡ potential firsts heads ups other steps rank
unfolding potential
potential_same firsts heads ups reach other same zero rank = same rank
potential_same firsts heads ups reach other same (suc steps) rank =
    least_alike (λ place. plus (slice_index ups place) (potential firsts heads ups reach steps (slice_index heads place))) (λ place. plus (slice_index ups place) (potential firsts heads ups other steps (slice_index heads place))) (reach rank) (other rank) (slice_index firsts rank) (slice_index firsts (rank + 1) - slice_index firsts rank) (same rank)
    (λ k inside. ap (plus (slice_index ups (slice_index firsts rank + k))) (potential_same firsts heads ups reach other same steps (slice_index heads (slice_index firsts rank + k))))

-- one more place of those that a least number is over
pub least_more : (of : ℕ → ℕ) (base first place bound value : ℕ) → first ≤ place → bound ≡ least_over of base first (place - first) → value ≡ of place → min bound value ≡ least_over of base first (place + 1 - first)
least_more of base first place bound value from so_far is =
    let next : place + 1 - first ≡ suc (place - first) = omega (arith, from) in
    let here : first + (place - first) ≡ place = omega (arith, from) in
    rw next (omega (arith, so_far, is, ap of here))

-- what the cell of a rank says
tells : Aim → Cell → ℕ
tells aim cell = if nat_le aim.stamp cell.stamp then cell.reach else aim.far

tells_final : (aim : Aim) (reach bound : ℕ) → tells aim (record { stamp = aim.stamp + 1; reach = reach; bound = bound }) ≡ reach
unfolding tells
tells_final aim reach bound = grind (arith, nat_tests)

-- the bound of a rank up to the highest that is reached
shows : Aim → ℕ → Cell → ℕ
shows aim rank cell = if nat_lt aim.top rank then aim.far else cell.bound

shows_low : (aim : Aim) (rank : ℕ) (cell : Cell) → rank ≤ aim.top → shows aim rank cell ≡ cell.bound
unfolding shows
shows_low aim rank cell low = grind (arith, nat_tests, low)

shows_high : (aim : Aim) (rank : ℕ) (cell : Cell) → aim.top < rank → shows aim rank cell ≡ aim.far
unfolding shows
shows_high aim rank cell high = grind (arith, nat_tests, high)

-- above the highest rank that is reached within, all potentials are the end of the look
least_far : (of : ℕ → ℕ) (far first count : ℕ) → ((k : ℕ) → k < count → far ≤ of (first + k)) → least_over of far first count ≡ far
least_far of far first zero all = refl
least_far of far first (suc count) all =
    let before = least_far of far first count (λ k inside. all k (omega (arith, inside))) in
    omega (arith, before, all count (omega arith))

pub far_above : (firsts heads ups : List ℕ) → AreUpward firsts heads → (aim : Aim) (list : List Cell) → IsHighest aim list aim.top → aim.far ≤ NONE → (steps rank : ℕ) → rank < length firsts - 1 → aim.top < rank → potential firsts heads ups (reach_of aim list) steps rank ≡ aim.far
unfolding potential
far_above firsts heads ups are aim list highest few zero rank below high = highest rank high
far_above firsts heads ups are aim list highest few (suc steps) rank below high =
    ap (λ base. least_over of base (slice_index firsts rank) (slice_index firsts (rank + 1) - slice_index firsts rank)) (highest rank high) ∙ least_far of aim.far (slice_index firsts rank) (slice_index firsts (rank + 1) - slice_index firsts rank)
    (λ k inside.
    let is : IsFrom firsts rank (slice_index firsts rank + k) = record { from = omega arith; before = omega (arith, inside) } in
    let up = are.upward rank (slice_index firsts rank + k) below is in
    let there = far_above firsts heads ups are aim list highest few steps (slice_index heads (slice_index firsts rank + k)) up.1 (omega (arith, high, up.0)) in
    omega (arith, ap (plus (slice_index ups (slice_index firsts rank + k))) there, far_sum (slice_index ups (slice_index firsts rank + k)) aim.far few))
  where
    of : ℕ → ℕ
    of place = plus (slice_index ups place) (potential firsts heads ups (reach_of aim list) steps (slice_index heads place))

module _ (firsts heads ups : List ℕ) (aim : Aim) (list : List Cell) (are : AreUpward firsts heads) (found : AreFound firsts heads ups aim list) (rank reach bound : ℕ) (below : rank < length firsts - 1)
    (heads_found : (place : ℕ) → IsFrom firsts rank place → IsFinal aim list (slice_index heads place))
    (reached : reach ≡ reach_of aim list rank) (worth : bound ≡ worth_of firsts heads ups aim list rank)
  where
    abbrev it : Cell
    it = record { stamp = aim.stamp + 1; reach = reach; bound = bound }

    abbrev after : List Cell
    after = set list rank it

    here : (other : ℕ) → other ≡ rank → cell_at after other ≡ it
    here other same = ap (cell_at after) same ∙ get_or-set_same list rank it _ (omega (arith, below, found.count))

    elsewhere : (other : ℕ) → (other ≡ rank → ⊥) → cell_at after other ≡ cell_at list other
    elsewhere other differs = get_or-set_other list rank other it _ differs

    pub found_here : IsFinal aim after rank
    found_here = let at = ap (λ (c : Cell). c.stamp) (here rank refl) in inl (omega (arith, at))

    same_reach : (other : ℕ) → reach_of aim after other ≡ reach_of aim list other
    unfolding tells
    same_reach other = elim (same_or_not other rank) [
      | inl same ↦ ap (tells aim) (here other same) ∙ tells_final aim reach bound ∙ reached ∙ ap (reach_of aim list) (sym same)
      | inr differs ↦ ap (tells aim) (elsewhere other differs)
    ]

    still : (other : ℕ) → IsFinal aim list other → IsFinal aim after other
    still other is = elim (same_or_not other rank) [
      | inl same ↦ subst (λ n. IsFinal aim after n) (sym same) found_here
      | inr differs ↦
          let at = ap (λ (c : Cell). c.stamp) (elsewhere other differs) in
          elim is [
            | inl low ↦ inl (omega (arith, at, low))
            | inr high ↦ inr high
          ]
    ]

    pub finds_more : FindsMore aim list after
    finds_more = record { reach = same_reach; kept = still }

    same_worth : (other : ℕ) → worth_of firsts heads ups aim after other ≡ worth_of firsts heads ups aim list other
    same_worth other = potential_same firsts heads ups (reach_of aim after) (reach_of aim list) same_reach (length firsts - 1) other

    -- a bound that is found now was found before, or is the new one
    was_final : (other : ℕ) → (other ≡ rank → ⊥) → IsFinal aim after other → IsFinal aim list other
    was_final other differs is =
        let at = ap (λ (c : Cell). c.stamp) (elsewhere other differs) in
        elim is [
          | inl low ↦ inl (omega (arith, at, low))
          | inr high ↦ inr high
        ]

    -- and it is the bound that is worth
    bound_here : (other : ℕ) → other ≡ rank → bound_at aim after other ≡ worth_of firsts heads ups aim after other
    unfolding shows
    bound_here other same = elim (leb_tells other aim.top) [
      | inl low ↦ shows_low aim other (cell_at after other) low.1 ∙ ap (λ (c : Cell). c.bound) (here other same) ∙ worth ∙ ap (worth_of firsts heads ups aim list) (sym same) ∙ sym (same_worth other)
      | inr high ↦ shows_high aim other (cell_at after other) high.1 ∙ sym (far_above firsts heads ups are aim after (λ above over. same_reach above ∙ found.above above over) found.far_few (length firsts - 1) other (subst (λ n. n < length firsts - 1) (sym same) below) high.1)
    ]

    bound_elsewhere : (other : ℕ) → (other ≡ rank → ⊥) → bound_at aim after other ≡ bound_at aim list other
    unfolding shows
    bound_elsewhere other differs = ap (shows aim other) (elsewhere other differs)

    pub found_more : AreFound firsts heads ups aim after
    found_more = record {
      few = found.few;
      far_few = found.far_few;
      count = length-set list rank it ∙ found.count;
      stamps = λ other. elim (same_or_not other rank) [
        | inl same ↦ let at = ap (λ (c : Cell). c.stamp) (here other same) in omega (arith, at)
        | inr differs ↦ let at = ap (λ (c : Cell). c.stamp) (elsewhere other differs) in omega (arith, at, found.stamps other)
      ];
      above = λ other over. same_reach other ∙ found.above other over;
      final = λ other inside is. elim (same_or_not other rank) [
        | inl same ↦ bound_here other same
        | inr differs ↦ bound_elsewhere other differs ∙ found.final other inside (was_final other differs is) ∙ sym (same_worth other)
      ];
      closed = λ other place inside is from. elim (same_or_not other rank) [
        | inl same ↦ still (slice_index heads place) (heads_found place (subst (λ r. IsFrom firsts r place) same from))
        | inr differs ↦ still (slice_index heads place) (found.closed other place inside (was_final other differs is) from)
      ];
    }

-- before any bound is found, those above the highest rank that is reached within are known
pub found_none : (firsts heads ups downs : List ℕ) (target : ℕ) (aim : Aim) (list : List Cell) → AreUpward firsts heads → IsBegun firsts heads downs target aim list → AreFound firsts heads ups aim list
unfolding shows
found_none firsts heads ups downs target aim list are begun = record {
  few = begun.few;
  far_few = begun.far_few;
  count = begun.count;
  stamps = λ rank. omega (arith, begun.reached rank);
  above = begun.above;
  final = λ rank below is. elim is [
    | inl low ↦ absurd (omega (arith, low, begun.reached rank))
    | inr high ↦ shows_high aim rank (cell_at list rank) high ∙ sym (far_above firsts heads ups are aim list begun.above begun.far_few (length firsts - 1) rank below high)
  ];
  closed = λ rank place below is from. elim is [
    | inl low ↦ absurd (omega (arith, low, begun.reached rank))
    | inr high ↦ let up = are.upward rank place below from in inr (omega (arith, high, up.0))
  ];
}
