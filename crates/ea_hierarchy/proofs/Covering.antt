-- The arcs of a network and the numbers that cover them.
use Rattle.std.proofs.Common.{◌≡◌, ℕ, ◌+◌, ◌-◌, ◌≤◌, inl, inr, ap, sym, subst, ◌∙◌, arith, List, length}
use Rattle.std.specs.Prelude.{Option, Some, slice_get}
use Rattle.std.proofs.lemmas.Bool.Decides.{leb_tells}
use Rattle.ea_road.specs.Roads.{IsArc, Roads}
use Rattle.ea_road.specs.declared.arc.Arc.{Arc}
use Rattle.ea_road.proofs.Arcs.{arc_inside}
use Rattle.ea_travel_times.specs.Lows.{IsLowerBound}
use Rattle.ea_hierarchy.specs.Growth.{IsJoined}
use Rattle.ea_hierarchy.specs.Hierarchies.{IsCovered, Lowers}
use Rattle.ea_hierarchy.specs.Preparations.{IsLowCovered}

same_arc : (a b : Arc) → ◌≡◌ {A = Option Arc} (Some a) (Some b) → a ≡ b
same_arc a b is = cc

module _ (answers : ℕ → ℕ → ℕ → ℕ → Type 0) (ranks firsts heads : List ℕ) where
  pub stays_covered : (from : ℕ) (ups downs new_ups new_downs : List ℕ) (arc : Arc) → Lowers from ups downs new_ups new_downs → IsLowCovered answers ranks firsts heads ups downs arc → IsLowCovered answers ranks firsts heads new_ups new_downs arc
  stays_covered from ups downs new_ups new_downs arc lowers is = record {
    low = is.low;
    bounds = is.bounds;
    covered = record {
      up = λ rises. let found = is.covered.up rises in (found.0, found.1, omega (arith, found.2, (lowers.fall found.0).0));
      down = λ falls. let found = is.covered.down falls in (found.0, found.1, omega (arith, found.2, (lowers.fall found.0).1));
    };
  }

  -- one more arc
  pub covered_more : (roads : Roads) (ups downs new_ups new_downs : List ℕ) (to : ℕ) (here : Arc) (low : ℕ) → slice_get roads.arcs to ≡ Some here → Lowers 0 ups downs new_ups new_downs
      → IsLowerBound answers here.class here.weight low → IsCovered ranks firsts heads new_ups new_downs here low
      → ((number : ℕ) (arc : Arc) → number ≤ to → IsArc roads number arc → IsLowCovered answers ranks firsts heads ups downs arc)
      → (number : ℕ) (arc : Arc) → number ≤ to + 1 → IsArc roads number arc → IsLowCovered answers ranks firsts heads new_ups new_downs arc
  covered_more roads ups downs new_ups new_downs to here low found lowers bounds covered before number arc below is = elim (leb_tells number to) [
    | inl early ↦ stays_covered 0 ups downs new_ups new_downs arc lowers (before number arc early.1 is)
    | inr last ↦
        let at : number - 1 ≡ to = omega (arith, last.1, below) in
        let same : here ≡ arc = same_arc here arc (sym found ∙ ap (λ n. slice_get roads.arcs n) (sym at) ∙ is.found) in
        let it : IsLowCovered answers ranks firsts heads new_ups new_downs here = record { low = low; bounds = bounds; covered = covered } in
        subst (λ a. IsLowCovered answers ranks firsts heads new_ups new_downs a) same it
  ]

-- one more arc is joined
pub joined_more : (roads : Roads) (ranks firsts heads : List ℕ) (to : ℕ) (here : Arc) → slice_get roads.arcs to ≡ Some here → IsJoined ranks firsts heads here
    → ((number : ℕ) (arc : Arc) → number ≤ to → IsArc roads number arc → IsJoined ranks firsts heads arc)
    → (number : ℕ) (arc : Arc) → number ≤ to + 1 → IsArc roads number arc → IsJoined ranks firsts heads arc
joined_more roads ranks firsts heads to here found joined before number arc below is = elim (leb_tells number to) [
  | inl early ↦ before number arc early.1 is
  | inr last ↦
      let at : number - 1 ≡ to = omega (arith, last.1, below) in
      subst (λ a. IsJoined ranks firsts heads a) (same_arc here arc (sym found ∙ ap (λ n. slice_get roads.arcs n) (sym at) ∙ is.found)) joined
]

pub number_to : (roads : Roads) (number : ℕ) (arc : Arc) → IsArc roads number arc → number ≤ length roads.arcs
number_to roads number arc is = let inside = arc_inside roads.arcs (number - 1) arc is.found in omega (arith, inside)
