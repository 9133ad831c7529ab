-- Parts of a network's arcs, which are judged one beside another.
use Rattle.std.proofs.Common.{◌≡◌, ◌∙◌, ◌⊎◌, inl, inr, refl, ℕ, zero, suc, ◌+◌, ◌-◌, ◌<◌, ◌≤◌, Bool, List, [], ◌∷◌, ◌++◌, length, get_or, min, arith, ap, sym, subst, length-append}
use Rattle.std.proofs.lemmas.Bool.Decides.{eqb_tells, leb_tells}
use Rattle.std.proofs.lemmas.List.{get_or_append_left}
use Rattle.ea_base.specs.declared.limits.TheConstants.{HORIZON}
use Rattle.ea_road.specs.declared.arc.Arc.{Arc}
use Rattle.ea_road.specs.declared.source.Source.{Source}
use Rattle.ea_road.specs.Roads.{Roads, IsArc}
use Rattle.ea_road.proofs.Arcs.{arc_inside}
use Rattle.ea_check.specs.declared.judge.part.ArcRange.{ArcRange}
use Rattle.ea_check.specs.declared.judge.part.Part.{Part}
use Rattle.ea_check.specs.Parts.{AreGathered, AreJudged, AreParts, IsInPart, IsJudged, IsLowest, IsPart, IsRange}
use Rattle.ea_check.specs.Supported.{AreSupported}
use Rattle.ea_check.specs.Verdicts.{Said, Improves, reported_time}

-- ---- one more part

at_last : (old : List Part) (new part : Part) → get_or (old ++ new ∷ []) (length old) part ≡ new
at_last [] new part = refl
at_last (first ∷ old) new part = at_last old new part

module _ (old grown : List Part) (new : Part) (pushed : grown ≡ old ++ new ∷ []) where
  longer : length grown ≡ length old + 1
  longer = ap (λ (ps : List Part). length ps) pushed ∙ length-append old (new ∷ [])

  before : (place : ℕ) (part : Part) → place < length old → get_or grown place part ≡ get_or old place part
  before place part inside = ap (λ (ps : List Part). get_or ps place part) pushed ∙ get_or_append_left old (new ∷ []) part place inside

  last : (part : Part) → get_or grown (length old) part ≡ new
  last part = ap (λ (ps : List Part). get_or ps (length old) part) pushed ∙ at_last old new part

  pub each_more : (roads : Roads) → ((place : ℕ) (part : Part) → place < length old → IsPart roads (get_or old place part)) → IsPart roads new → (place : ℕ) (part : Part) → place < length grown → IsPart roads (get_or grown place part)
  each_more roads each here place part inside = elim (eqb_tells place (length old)) [
    | inl same ↦ rw same.1 (subst (IsPart roads) (sym (last part)) here)
    | inr other ↦ subst (IsPart roads) (sym (before place part (omega (arith, other.1, longer, inside)))) (each place part (omega (arith, other.1, longer, inside)))
  ]

  in_more : (number : ℕ) → IsInPart old number → IsInPart grown number
  in_more number is = record {
    place = is.place;
    inside = omega (arith, is.inside, longer);
    from = λ part. subst (λ (p : Part). p.arcs.from ≤ number) (sym (before is.place part is.inside)) (is.from part);
    to = λ part. subst (λ (p : Part). number < p.arcs.to) (sym (before is.place part is.inside)) (is.to part);
  }

  in_last : (number : ℕ) → new.arcs.from ≤ number → number < new.arcs.to → IsInPart grown number
  in_last number low high = record {
    place = length old;
    inside = omega (arith, longer);
    from = λ part. subst (λ (p : Part). p.arcs.from ≤ number) (sym (last part)) low;
    to = λ part. subst (λ (p : Part). number < p.arcs.to) (sym (last part)) high;
  }

  pub cover_more : (from to : ℕ) → ((number : ℕ) → 0 < number → number < from → IsInPart old number) → new.arcs ≡ record { from = from; to = to } → (number : ℕ) → 0 < number → number < to → IsInPart grown number
  cover_more from to cover arcs number some low =
      let begins : new.arcs.from ≡ from = ap (λ (r : ArcRange). r.from) arcs in
      let ends : new.arcs.to ≡ to = ap (λ (r : ArcRange). r.to) arcs in
      elim (leb_tells from number) [
        | inl high ↦ in_last number (omega (arith, begins, high.1)) (omega (arith, ends, low))
        | inr less ↦ in_more number (cover number some (omega (arith, less.1)))
      ]

pub is_part : (roads : Roads) (part : Part) (from to : ℕ) → part.arcs ≡ record { from = from; to = to } → 0 < from → to ≤ length roads.arcs + 1 → length part.marks.items ≡ roads.nodes → IsPart roads part
is_part roads part from to arcs some low each = record {
  range = record {
    from_one = omega (arith, ap (λ (r : ArcRange). r.from) arcs, some);
    to_last = omega (arith, ap (λ (r : ArcRange). r.to) arcs, low);
  };
  each_node = each;
}

-- ---- the lowest node

pub item_is : (parts : List Part) (place : ℕ) (item : Part) → place < length parts → item ≡ get_or parts place item → (part : Part) → get_or parts place part ≡ item
item_is [] place item inside is part = absurd (omega arith)
item_is (first ∷ parts) zero item inside is part = sym is
item_is (first ∷ parts) (suc place) item inside is part = item_is parts place item (omega arith) is part

module _ (parts : List Part) (count above lowest next : ℕ) (here : Part) (inside : count < length parts) (is : (part : Part) → get_or parts count part ≡ here) where
  same : (part : Part) → (get_or parts count part).lowest ≡ here.lowest
  same part = ap (λ (p : Part). p.lowest) (is part)

  pub found_more : next ≡ min lowest here.lowest → (lowest ≡ above) ⊎ ((place : ℕ) × (place < count) × ((part : Part) → (get_or parts place part).lowest ≡ lowest)) → (next ≡ above) ⊎ ((place : ℕ) × (place < count + 1) × ((part : Part) → (get_or parts place part).lowest ≡ next))
  found_more least found = elim (leb_tells lowest here.lowest) [
    | inl low ↦
        let stays : next ≡ lowest = omega (arith, least, low.1) in
        elim found [ inl none ↦ inl (stays ∙ none) | inr some ↦ inr (some.0, omega (arith, some.1), λ part. some.2 part ∙ sym stays) ]
    | inr high ↦ inr (count, omega arith, λ part. same part ∙ sym (omega (arith, least, high.1)))
  ]

  pub least_more : next ≡ min lowest here.lowest → ((place : ℕ) (part : Part) → place < count → lowest ≤ (get_or parts place part).lowest) → (place : ℕ) (part : Part) → place < count + 1 → next ≤ (get_or parts place part).lowest
  least_more least was place part low = elim (eqb_tells place count) [
    | inl at ↦ rw at.1 (omega (arith, same part, least))
    | inr other ↦ omega (arith, was place part (omega (arith, other.1, low)), least)
  ]

-- ---- parts that were judged

some_part : (parts : List Part) (place : ℕ) → place < length parts → Part
some_part [] place inside = absurd (omega arith)
some_part (first ∷ parts) place inside = first

module _ (roads : Roads) (answers : ℕ → ℕ → ℕ → ℕ → Type 0) (sources : List Source) (reported : List Said) (above : ℕ) (old new : List Part) (sizes : length new ≡ length old) (judged : AreJudged roads answers sources reported above old new) where
  abbrev label : ℕ → ℕ
  label = reported_time reported

  judged_at : (place : ℕ) → (part : Part) → place < length new → IsJudged roads answers sources reported above (get_or old place part) (get_or new place part)
  judged_at place part inside = judged place part (omega (arith, sizes, inside))

  pub each_marked : (place : ℕ) (part : Part) → place < length new → length (get_or new place part).marks.items ≡ roads.nodes
  each_marked place part inside = let is = judged_at place part inside in let marks = is.marks in marks.each_node

  -- the same arcs are in them
  pub parts_after : AreParts roads old → AreParts roads new
  parts_after parts = record {
    each = λ place part inside.
        let is = judged_at place part inside in
        let was = parts.each place part (omega (arith, sizes, inside)) in
        let arcs = is.same in
        let range : IsRange roads (get_or new place part).arcs = subst (IsRange roads) (sym arcs) was.range in
        record { range = range; each_node = each_marked place part inside };
    cover = λ number some low.
        let at = parts.cover number some low in
        let inside : at.place < length new = omega (arith, sizes, at.inside) in
        record {
          place = at.place;
          inside = inside;
          from = λ part. let is = judged_at at.place part inside in subst (λ (r : ArcRange). r.from ≤ number) (sym is.same) (at.from part);
          to = λ part. let is = judged_at at.place part inside in subst (λ (r : ArcRange). number < r.to) (sym is.same) (at.to part);
        };
  }

  pub found_in_parts : (lowest : ℕ) → IsLowest new above lowest → (lowest ≡ above) ⊎ Improves roads answers sources label lowest
  found_in_parts lowest is = elim is.found [
    | inl none ↦ inl none
    | inr some ↦
        let part = some_part new some.0 some.1 in
        let here = judged_at some.0 part some.1 in
        elim here.found [
          | inl none ↦ inl (sym (some.2 part) ∙ none)
          | inr improves ↦ inr (subst (Improves roads answers sources label) (some.2 part) improves)
        ]
  ]

  pub passed_in_parts : (lowest : ℕ) → IsLowest new above lowest → AreParts roads old → (number : ℕ) (arc : Arc) (arrival : ℕ) → IsArc roads number arc → label arc.tail ≤ HORIZON → answers arc.class arc.weight (label arc.tail) arrival → arrival ≤ HORIZON → arrival < label arc.head → lowest ≤ arc.head
  passed_in_parts lowest is parts number arc arrival is_arc early answer fits sooner =
      let some = is_arc.from_one in
      let low : number - 1 < length roads.arcs = arc_inside roads.arcs (number - 1) arc is_arc.found in
      let at = parts.cover number some (omega (arith, low, some)) in
      let inside : at.place < length new = omega (arith, sizes, at.inside) in
      let part = some_part new at.place inside in
      let here = judged_at at.place part inside in
      let from : (get_or new at.place part).arcs.from ≤ number = subst (λ (r : ArcRange). r.from ≤ number) (sym here.same) (at.from part) in
      let to : number < (get_or new at.place part).arcs.to = subst (λ (r : ArcRange). number < r.to) (sym here.same) (at.to part) in
      let passed = here.passed number arc arrival from to is_arc early answer fits sooner in
      omega (arith, passed, is.least at.place part inside)

  pub supported_in_parts : (marks gathered : List Bool) → AreSupported roads answers sources reported marks → AreGathered new marks gathered → AreSupported roads answers sources reported gathered
  supported_in_parts marks gathered are gathers = record {
    each_node = gathers.places ∙ are.each_node;
    each = λ node some marked. elim (gathers.only node marked) [
      | inl old_mark ↦ are.each node some old_mark
      | inr is_in ↦
          let part = some_part new is_in.place is_in.inside in
          let here = judged_at is_in.place part is_in.inside in
          let supported = here.marks in
          supported.each node some (is_in.marked part)
    ];
  }
