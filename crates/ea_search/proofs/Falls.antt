-- Labels that fall by arcs that are left in time.
use Rattle.std.proofs.Common.{◌≡◌, ℕ, ◌≤◌, List, Option, Some, None, length, refl, subst, inl, inr, arith}
use Rattle.std.proofs.lemmas.Bool.{cases_lt}
use Rattle.ea_road.specs.Roads.{Roads, IsNode}
use Rattle.ea_road.specs.Labels.{label_of, limit}
use Rattle.ea_search.specs.Underway.{bound_of}
use Rattle.ea_search.specs.Scans.{IsLeftBy, FallsBy, Scanned}
use Rattle.ea_search.proofs.Entries.{bound_of_label}

module _ (roads : Roads) (answers : ℕ → ℕ → ℕ → ℕ → Type 0) where
  pub FallsBy-same : (last : ℕ) (label : ℕ → ℕ) → FallsBy roads answers last label label
  FallsBy-same last label = record {
    lower = λ node is. omega arith;
    fallen = λ node is falls. absurd (omega (arith, falls));
  }

  left_by : (last last' node arrival : ℕ) → last' ≤ last → IsLeftBy roads answers last' node arrival → IsLeftBy roads answers last node arrival
  left_by last last' node arrival less by = record { from = by.from; departure = by.departure; number = by.number; in_time = omega (arith, less, by.in_time); step = by.step }

  -- what fell and then fell
  pub FallsBy-then : (last last' : ℕ) (f g h : ℕ → ℕ) → FallsBy roads answers last f g → FallsBy roads answers last' g h → last' ≤ last → FallsBy roads answers last f h
  FallsBy-then last last' f g h a b less = record {
    lower = λ node is. omega (arith, a.lower node is, b.lower node is);
    fallen = λ node is falls. elim (cases_lt (h node) (g node)) [
      | inl again ↦ left_by last last' node (h node) less (b.fallen node is again)
      | inr stays ↦ (
          let same : g node ≡ h node = omega (arith, stays, b.lower node is) in
          subst (λ time. IsLeftBy roads answers last node time) same (a.fallen node is (omega (arith, same, falls))))
    ];
  }

  -- a node was scanned
  pub FallsBy-scanned : (u departure : ℕ) (numbers table table' : List ℕ) (waits waits' : ℕ → Type 0) (met met' : ℕ → ℕ → ℕ → Type 0) → Scanned roads answers u departure numbers table waits met table' waits' met' → FallsBy roads answers departure (bound_of table) (bound_of table')
  FallsBy-scanned u departure numbers table table' waits waits' met met' scanned = record {
    lower = λ node is. scanned.lower node;
    fallen = λ node is falls.
        let by = scanned.fallen node falls in
        record { from = u; departure = departure; number = by.1.0; in_time = omega arith; step = by.1.1 };
  }

  -- the target's label falls too
  pub limit_falls : (last : ℕ) (f g : ℕ → ℕ) (target : Option ℕ) → FallsBy roads answers last f g → ((node : ℕ) → target ≡ Some node → IsNode roads.nodes node) → limit target g ≤ limit target f
  limit_falls last f g None falls are = omega arith
  limit_falls last f g (Some node) falls are = falls.lower node (are node refl)

  -- by bounds and by labels it is the same
  pub FallsBy-labels : (last : ℕ) (table table' : List ℕ) → length table ≡ roads.nodes → length table' ≡ roads.nodes → FallsBy roads answers last (bound_of table) (bound_of table') → FallsBy roads answers last (label_of table) (label_of table')
  FallsBy-labels last table table' places places' falls =
      let same : (t : List ℕ) → length t ≡ roads.nodes → (node : ℕ) → IsNode roads.nodes node → bound_of t node ≡ label_of t node = λ t many node is. bound_of_label t node (record { from_one = is.from_one; to_last = omega (arith, is.to_last, many) }) in
      record {
        lower = λ node is. omega (arith, same table places node is, same table' places' node is, falls.lower node is);
        fallen = λ node is less.
            let by = falls.fallen node is (omega (arith, same table places node is, same table' places' node is, less)) in
            subst (λ time. IsLeftBy roads answers last node time) (same table' places' node is) by;
      }
