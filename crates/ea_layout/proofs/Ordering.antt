-- Giving nodes their numbers in an order.
use Rattle.std.proofs.Common.{Bool, true, false, eqb-true, ◌≡◌, ◌≢◌, ℕ, suc, ◌+◌, ◌-◌, ◌<◌, ◌≤◌, ◌==◌, List, [], ◌∷◌, length, get_or, set, replicate, refl, sym, ◌∙◌, ap, subst, inl, inr, arith}
use Rattle.std.specs.Prelude.{if◌then◌else◌}
use Rattle.std.proofs.lemmas.Bool.{cases_eq}
use Rattle.std.proofs.lemmas.List.{get_or-replicate, get_or-set_same, get_or-set_other, length-replicate, length-set}
use Rattle.std.proofs.lemmas.List.Folds.{sum_by-replicate}
use Rattle.std.proofs.lemmas.List.Sums.{sum_by-cons, sum_by-set}
use Rattle.ea_road.specs.Roads.{IsNode}
use Rattle.ea_layout.specs.Orders.{AreAllPlaced, IsOrder, Ordered, unplaced}
use Rattle.ea_layout.specs.Renamed.{AreReverse, number_of}

-- 1 for a node without a number
abbrev one_if : Bool → ℕ
one_if b = if b then 1 else 0

abbrev bit : ℕ → ℕ
bit place = one_if (place == 0)

bit-some : (place : ℕ) → place ≢ 0 → bit place ≡ 0
bit-some place some = by_test (place == 0) refl
  where
    by_test : (b : Bool) → (place == 0) ≡ b → one_if b ≡ 0
    by_test true same = absurd (some (eqb-true _ _ same))
    by_test false differs = refl

-- a number read at the place of another node
number_of-set_other : (numbers : List ℕ) (node other new : ℕ) → 0 < node → 0 < other → other ≢ node → number_of (set numbers (node - 1) new) other ≡ number_of numbers other
number_of-set_other numbers node other new is is_other differ = get_or-set_other numbers (node - 1) (other - 1) new 0 (λ same. differ (omega (arith, same)))

pub none_placed : (nodes : ℕ) → nodes ≤ 67108864 → IsOrder (record { places = replicate nodes 0; nodes = replicate nodes 0; count = 0 })
none_placed nodes few = record {
  lengths = refl;
  few = rw (length-replicate {A = ℕ} nodes 0) few;
  counted = rw (length-replicate {A = ℕ} nodes 0, sum_by-replicate bit nodes 0) (omega arith);
  placed = λ node is some.
      let low = is.from_one in
      let high = is.to_last in
      absurd (some (get_or-replicate nodes (node - 1) 0 0 (omega (arith, low, high, length-replicate {A = ℕ} nodes 0))));
  noded = λ place is. let low = is.from_one in let high = is.to_last in absurd (omega (arith, low, high));
}

module _ (places nodes : List ℕ) (count node : ℕ) (order : IsOrder (record { places = places; nodes = nodes; count = count })) (is : IsNode (length places) node) (none : number_of places node ≡ 0) where
  inside : node - 1 < length places
  inside = let low = is.from_one in let high = is.to_last in omega (arith, low, high)

  pub one_fewer : unplaced (set places (node - 1) (count + 1)) + 1 ≡ unplaced places
  one_fewer =
      let step = sum_by-set bit places (node - 1) (count + 1) 0 inside in
      let before : bit (get_or places (node - 1) 0) ≡ 1 = rw none refl in
      let after : bit (count + 1) ≡ 0 = bit-some (count + 1) (λ same. omega (arith, same)) in
      omega (arith, step, before, after)

  pub is_room : count < length places
  is_room = let all = order.counted in omega (arith, one_fewer, all)

  here : number_of (set places (node - 1) (count + 1)) node ≡ count + 1
  here = get_or-set_same places (node - 1) (count + 1) 0 inside

  back_here : number_of (set nodes count node) (count + 1) ≡ node
  back_here =
      let same : count + 1 - 1 ≡ count = omega arith in
      let as_long = order.lengths in
      rw same (get_or-set_same nodes count node 0 (omega (arith, is_room, as_long)))

  other_place : (place : ℕ) → IsNode count place → number_of (set nodes count node) place ≡ number_of nodes place
  other_place place at =
      let low = at.from_one in
      let high = at.to_last in
      get_or-set_other nodes count (place - 1) node 0 (λ same. omega (arith, same, low, high))

  as_long : length (set places (node - 1) (count + 1)) ≡ length places
  as_long = length-set places (node - 1) (count + 1)

  placed_one : (other : ℕ) → IsNode (length places) other → number_of (set places (node - 1) (count + 1)) other ≢ 0
      → IsNode (count + 1) (number_of (set places (node - 1) (count + 1)) other) × (number_of (set nodes count node) (number_of (set places (node - 1) (count + 1)) other) ≡ other)
  placed_one other at some = elim (cases_eq other node) [
    | inl same ↦ (let it : IsNode (count + 1) (number_of (set places (node - 1) (count + 1)) node) × (number_of (set nodes count node) (number_of (set places (node - 1) (count + 1)) node) ≡ node) = rw here (record { from_one = omega arith; to_last = omega arith }, back_here) in
        subst (λ n. IsNode (count + 1) (number_of (set places (node - 1) (count + 1)) n) × (number_of (set nodes count node) (number_of (set places (node - 1) (count + 1)) n) ≡ n)) (sym same) it)
    | inr differ ↦ (let as_was = number_of-set_other places node other (count + 1) is.from_one at.from_one differ in
        let was = order.placed other at (λ zero. some (as_was ∙ zero)) in
        let high = was.0.to_last in
        rw as_was (record { from_one = was.0.from_one; to_last = omega (arith, high) }, other_place (number_of places other) was.0 ∙ was.1))
  ]

  noded_one : (place : ℕ) → IsNode (count + 1) place
      → IsNode (length places) (number_of (set nodes count node) place) × (number_of (set places (node - 1) (count + 1)) (number_of (set nodes count node) place) ≡ place)
  noded_one place at = elim (cases_eq place (count + 1)) [
    | inl same ↦ (let it : IsNode (length places) (number_of (set nodes count node) (count + 1)) × (number_of (set places (node - 1) (count + 1)) (number_of (set nodes count node) (count + 1)) ≡ count + 1) = rw back_here (is, here) in
        subst (λ n. IsNode (length places) (number_of (set nodes count node) n) × (number_of (set places (node - 1) (count + 1)) (number_of (set nodes count node) n) ≡ n)) (sym same) it)
    | inr differ ↦ (let high = at.to_last in
        let below : IsNode count place = record { from_one = at.from_one; to_last = below_of place differ high } in
        let was = order.noded place below in
        let low = at.from_one in
        let apart : number_of nodes place ≢ node = λ same. let zero = sym was.1 ∙ ap (λ n. number_of places n) same ∙ none in omega (arith, zero, low) in
        rw (other_place place below) (was.0, number_of-set_other places node (number_of nodes place) (count + 1) is.from_one was.0.from_one apart ∙ was.1))
  ]
    where
      below_of : (place : ℕ) → place ≢ count + 1 → place ≤ count + 1 → place ≤ count
      below_of place differ high = elim (cases_eq place (count + 1)) [ inl same ↦ absurd (differ same) | inr other ↦ omega (arith, other, high) ]

  pub places_one : IsOrder (record { places = set places (node - 1) (count + 1); nodes = set nodes count node; count = count + 1 })
  places_one = record {
    lengths = length-set nodes count node ∙ order.lengths ∙ sym as_long;
    few = rw as_long order.few;
    counted = (let all = order.counted in omega (arith, one_fewer, as_long, all));
    placed = λ other at some. placed_one other (rw as_long at at) some;
    noded = λ place at. rw as_long (noded_one place at);
  }

none_left : (places : List ℕ) → ((place : ℕ) → place < length places → get_or places place 0 ≢ 0) → unplaced places ≡ 0
none_left [] each = refl
none_left (place ∷ places) each =
    let first = bit-some place (each 0 (omega arith)) in
    let rest = none_left places (λ at inside. each (suc at) (omega (arith, inside))) in
    let whole = sum_by-cons bit place places in
    omega (arith, first, rest, whole)

pub all_placed : (order : Ordered) → IsOrder order → AreAllPlaced order.places → AreReverse (length order.places) order.places order.nodes
all_placed order is all =
    let zero = none_left order.places (λ at inside. subst (λ n. get_or order.places n 0 ≢ 0) (omega arith) (all (at + 1) (record { from_one = omega arith; to_last = omega (arith, inside) }))) in
    let counted = is.counted in
    let every : order.count ≡ length order.places = omega (arith, zero, counted) in
    record {
      there_length = refl;
      back_length = is.lengths;
      there_node = λ node at. subst (λ n. IsNode n (number_of order.places node)) every (is.placed node at (all node at)).0;
      back_node = λ place at. (is.noded place (subst (λ n. IsNode n place) (sym every) at)).0;
      back_there = λ node at. (is.placed node at (all node at)).1;
      there_back = λ place at. (is.noded place (subst (λ n. IsNode n place) (sym every) at)).1;
    }
