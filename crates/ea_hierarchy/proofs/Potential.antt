-- Potentials are consistent: along an arc upward by definition, and along one downward since two arcs of a rank have a third over them.
use Rattle.std.proofs.Common.{◌≡◌, ℕ, zero, suc, ◌+◌, ◌-◌, ◌<◌, ◌≤◌, ◌⊎◌, inl, inr, ap, sym, subst, ◌∙◌, arith, leb, List, true, false}
use Rattle.std.specs.Prelude.{slice_index}
use Rattle.std.proofs.lemmas.Bool.Decides.{leb_tells}
use Rattle.ea_hierarchy.specs.Hierarchies.{AreTriangles, IsFrom, IsUpward}
use Rattle.ea_hierarchy.specs.Numbers.{plus}
use Rattle.ea_hierarchy.specs.Potentials.{IsReach, least_over, potential}
use Rattle.ea_hierarchy.specs.declared.numbers.TheConstants.{NONE}
use Rattle.ea_hierarchy.proofs.LeastOver.{least_is_one, least_same, least_to_base, least_to_each}
use Rattle.ea_hierarchy.proofs.Sums.{plus_there_and_back, plus_through}

module _ (nodes : ℕ) (firsts heads ups : List ℕ) (are : IsUpward nodes firsts heads) (reach : ℕ → ℕ) where
  -- a place among those from a rank
  placed : (rank place : ℕ) → IsFrom firsts rank place → (slice_index firsts rank + (place - slice_index firsts rank) ≡ place) × (place - slice_index firsts rank < slice_index firsts (rank + 1) - slice_index firsts rank)
  placed rank place is = (omega (arith, is.from), omega (arith, is.from, is.before))

  at_place : (rank k : ℕ) → k < slice_index firsts (rank + 1) - slice_index firsts rank → IsFrom firsts rank (slice_index firsts rank + k)
  at_place rank k inside = record { from = omega arith; before = omega (arith, inside) }

  -- looked at over as many arcs as there are ranks above, a potential doesn't change any more
  stays : (steps more rank : ℕ) → rank < nodes → nodes ≤ rank + steps → nodes ≤ rank + more → potential firsts heads ups reach steps rank ≡ potential firsts heads ups reach more rank
  unfolding potential
  stays zero more rank below far also = absurd (omega (arith, below, far))
  stays (suc steps) zero rank below far also = absurd (omega (arith, below, also))
  stays (suc steps) (suc more) rank below far also =
      least_same (λ place. plus (slice_index ups place) (potential firsts heads ups reach steps (slice_index heads place))) (λ place. plus (slice_index ups place) (potential firsts heads ups reach more (slice_index heads place))) (reach rank) (slice_index firsts rank) (slice_index firsts (rank + 1) - slice_index firsts rank)
      (λ k inside.
      let higher = are.upward rank (slice_index firsts rank + k) below (at_place rank k inside) in
      ap (plus (slice_index ups (slice_index firsts rank + k))) (stays steps more (slice_index heads (slice_index firsts rank + k)) higher.1 (omega (arith, far, higher.0)) (omega (arith, also, higher.0))))

  abbrev pub worth : ℕ → ℕ
  worth rank = potential firsts heads ups reach nodes rank

  pub worth_is : (rank : ℕ) → rank < nodes → worth rank ≡ least_over (λ place. plus (slice_index ups place) (worth (slice_index heads place))) (reach rank) (slice_index firsts rank) (slice_index firsts (rank + 1) - slice_index firsts rank)
  unfolding potential
  worth_is rank below = stays nodes (suc nodes) rank below (omega arith) (omega arith)

  pub to_reach : (rank : ℕ) → rank < nodes → worth rank ≤ reach rank
  to_reach rank below = rw (worth_is rank below) (least_to_base (λ place. plus (slice_index ups place) (worth (slice_index heads place))) (reach rank) (slice_index firsts rank) (slice_index firsts (rank + 1) - slice_index firsts rank))

  pub to_arc : (rank place : ℕ) → rank < nodes → IsFrom firsts rank place → worth rank ≤ plus (slice_index ups place) (worth (slice_index heads place))
  to_arc rank place below is =
      let k = placed rank place is in
      let few = least_to_each (λ place. plus (slice_index ups place) (worth (slice_index heads place))) (reach rank) (slice_index firsts rank) (slice_index firsts (rank + 1) - slice_index firsts rank) (place - slice_index firsts rank) k.1 in
      let same : plus (slice_index ups (slice_index firsts rank + (place - slice_index firsts rank))) (worth (slice_index heads (slice_index firsts rank + (place - slice_index firsts rank)))) ≡ plus (slice_index ups place) (worth (slice_index heads place)) =
      ap (λ n. plus (slice_index ups n) (worth (slice_index heads n))) k.0 in
      omega (arith, worth_is rank below, few, same)

  -- a potential is what is reached, or that over an upward arc
  pub record IsOver (rank place : ℕ) : Type 0 where
    pub is_from : IsFrom firsts rank place
    pub is : worth rank ≡ plus (slice_index ups place) (worth (slice_index heads place))

  pub attained : (rank : ℕ) → rank < nodes → (worth rank ≡ reach rank) ⊎ ((place : ℕ) × IsOver rank place)
  attained rank below = elim (least_is_one (λ place. plus (slice_index ups place) (worth (slice_index heads place))) (reach rank) (slice_index firsts rank) (slice_index firsts (rank + 1) - slice_index firsts rank)) [
    | inl is ↦ inl (worth_is rank below ∙ is)
    | inr found ↦ inr (slice_index firsts rank + found.0, record { is_from = at_place rank found.0 found.1; is = worth_is rank below ∙ found.2 })
  ]

  module _ (downs : List ℕ) (triangles : AreTriangles nodes firsts heads ups downs) (target : ℕ) (reached : IsReach nodes firsts heads downs target reach) where
    worth_to_none : (rank : ℕ) → rank < nodes → worth rank ≤ NONE
    worth_to_none rank below = omega (arith, to_reach rank below, reached.to_none rank)

    -- the head of a downward arc that comes from a rank whose potential is that over the arc at a place
    over_place : (steps rank place other : ℕ) → nodes ≤ rank + suc steps → rank < nodes → IsFrom firsts rank place → IsOver rank other
        → ((low at : ℕ) → nodes ≤ low + steps → low < nodes → IsFrom firsts low at → worth (slice_index heads at) ≤ plus (slice_index downs at) (worth low))
        → worth (slice_index heads place) ≤ plus (slice_index downs place) (worth rank)
    over_place steps rank place other far below is over higher = rw over.is (by_order (leb_tells place other) (leb_tells other place))
      where
        high : slice_index heads place < nodes
        high = (are.upward rank place below is).1

        by_order : ((leb place other ≡ true) × (place ≤ other)) ⊎ ((leb place other ≡ false) × (other < place)) → ((leb other place ≡ true) × (other ≤ place)) ⊎ ((leb other place ≡ false) × (place < other))
            → worth (slice_index heads place) ≤ plus (slice_index downs place) (plus (slice_index ups other) (worth (slice_index heads other)))
        by_order (inl low) (inl also) =
            let same : other ≡ place = omega (arith, low.1, also.1) in
            let back = plus_there_and_back (worth (slice_index heads place)) (slice_index downs place) (slice_index ups other) (worth_to_none (slice_index heads place) high) in
            subst (λ n. worth (slice_index heads place) ≤ plus (slice_index downs place) (plus (slice_index ups other) (worth (slice_index heads n)))) (sym same) back
        by_order (inl low) (inr after) =
            let third = triangles rank place other below is over.is_from after.1 in
            let up = to_arc (slice_index heads place) third.0 high third.1.joins.is_from in
            let up_to : worth (slice_index heads place) ≤ plus (slice_index ups third.0) (worth (slice_index heads other)) = subst (λ n. worth (slice_index heads place) ≤ plus (slice_index ups third.0) (worth n)) third.1.joins.head up in
            plus_through (worth (slice_index heads place)) (slice_index ups third.0) (worth (slice_index heads other)) (slice_index downs place) (slice_index ups other) up_to third.1.up
        by_order (inr before) _ =
            let third = triangles rank other place below over.is_from is before.1 in
            let lower = are.upward rank other below over.is_from in
            let down = higher (slice_index heads other) third.0 (omega (arith, far, lower.0)) lower.1 third.1.joins.is_from in
            let down_to : worth (slice_index heads place) ≤ plus (slice_index downs third.0) (worth (slice_index heads other)) = subst (λ n. worth n ≤ plus (slice_index downs third.0) (worth (slice_index heads other))) third.1.joins.head down in
            plus_through (worth (slice_index heads place)) (slice_index downs third.0) (worth (slice_index heads other)) (slice_index downs place) (slice_index ups other) down_to third.1.down

    downward : (steps rank place : ℕ) → nodes ≤ rank + steps → rank < nodes → IsFrom firsts rank place → worth (slice_index heads place) ≤ plus (slice_index downs place) (worth rank)
    downward zero rank place far below is = absurd (omega (arith, far, below))
    downward (suc steps) rank place far below is = elim (attained rank below) [
      | inl by ↦
          let high = (are.upward rank place below is).1 in
          let over = reached.over rank place below is in
          rw by (omega (arith, to_reach (slice_index heads place) high, over))
      | inr found ↦ over_place steps rank place found.0 far below is found.1 (λ low at more low_below at_low. downward steps low at more low_below at_low)
    ]

    -- along an upward arc against its direction, a potential grows by at most the arc's number for walks down
    pub to_arc_down : (rank place : ℕ) → rank < nodes → IsFrom firsts rank place → worth (slice_index heads place) ≤ plus (slice_index downs place) (worth rank)
    to_arc_down rank place below is = downward nodes rank place (omega arith) below is
