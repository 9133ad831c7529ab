-- Arcs that others replace have no part in a least number.
use Rattle.std.proofs.Common.{◌≡◌, ℕ, zero, suc, ◌+◌, ◌-◌, ◌<◌, ◌≤◌, ◌⊎◌, inl, inr, refl, ap, sym, subst, ◌∙◌, arith, List, [], ◌∷◌, ◌++◌, Bool, true, false, length, min, set, Contains}
use Rattle.std.proofs.lemmas.Bool.Decides.{leb_tells}
use Rattle.std.specs.Prelude.{slice_index, slice_index_or}
use Rattle.std.proofs.lemmas.List.{get_or-set_other, get_or_default, length-set}
use Rattle.std.proofs.lemmas.List.Elements.{Contains-append_left, Contains-push, Contains-push_cases}
use Rattle.std.specs.List.Sorted.{IsPermutation}
use Rattle.std.proofs.lemmas.List.Sorted.{Contains-permutation, IsPermutation-sym}
use Rattle.ea_hierarchy.specs.Hierarchies.{IsFrom, IsUpward}
use Rattle.ea_hierarchy.specs.Numbers.{plus}
use Rattle.ea_hierarchy.specs.Trimmed.{AreAscending, AreMarked, IsLeastBy, IsLink, IsReplaced, IsTrimmed}
use Rattle.ea_hierarchy.specs.declared.trimmed.Link.{Link}
use Rattle.ea_hierarchy.specs.declared.numbers.TheConstants.{NONE}
use Rattle.ea_hierarchy.proofs.Potential.{attained, to_arc, to_reach, worth}
use Rattle.ea_hierarchy.proofs.Reaching.{same_or_not}
use Rattle.ea_hierarchy.proofs.Sums.{plus_first, plus_over}

-- one more arc has a mark
pub marked_more : (firsts heads numbers : List ℕ) (rank later : ℕ) (marks : List Bool) → AreMarked firsts heads numbers rank marks → IsFrom firsts rank later → IsReplaced firsts heads numbers rank later → AreMarked firsts heads numbers rank (set marks (later - slice_index firsts rank) true)
marked_more firsts heads numbers rank later marks are from is = record {
  count = omega (arith, are.count, length-set marks (later - slice_index firsts rank) true);
  replaced = λ place from_place marked. elim (same_or_not place later) [
    | inl same ↦ subst (λ p. IsReplaced firsts heads numbers rank p) (sym same) is
    | inr differs ↦
        let other : slice_index_or (set marks (later - slice_index firsts rank) true) (place - slice_index firsts rank) false ≡ slice_index_or marks (place - slice_index firsts rank) false =
        get_or-set_other marks (later - slice_index firsts rank) (place - slice_index firsts rank) true false (λ same. differs (omega (arith, same, from.from, from_place.from))) in
        are.replaced place from_place (sym other ∙ marked)
  ];
}

-- ---- the arcs that are left

abbrev pub link_at : List ℕ → List ℕ → ℕ → Link
link_at heads numbers place = record { head = slice_index heads place; number = slice_index numbers place }

-- links are the arcs before a place that have no mark
pub record AreGathered (firsts heads numbers : List ℕ) (rank : ℕ) (marks : List Bool) (links : List Link) (to : ℕ) : Type 0 where
  pub arcs : (link : Link) → Contains links link → IsLink firsts heads numbers rank link
  pub rest : (place : ℕ) → IsFrom firsts rank place → place < to → Contains links (link_at heads numbers place) ⊎ (slice_index_or marks (place - slice_index firsts rank) false ≡ true)

pub gathered_skips : (firsts heads numbers : List ℕ) (rank : ℕ) (marks : List Bool) (links : List Link) (to : ℕ) → slice_index_or marks (to - slice_index firsts rank) false ≡ true → AreGathered firsts heads numbers rank marks links to → AreGathered firsts heads numbers rank marks links (to + 1)
gathered_skips firsts heads numbers rank marks links to marked are = record {
  arcs = are.arcs;
  rest = λ place from before. elim (leb_tells to place) [
    | inl last ↦ inr (subst (λ p. slice_index_or marks (p - slice_index firsts rank) false ≡ true) (omega (arith, last.1, before)) marked)
    | inr earlier ↦ are.rest place from earlier.1
  ];
}

pub gathered_more : (firsts heads numbers : List ℕ) (rank : ℕ) (marks : List Bool) (links : List Link) (to : ℕ) → IsFrom firsts rank to → AreGathered firsts heads numbers rank marks links to → AreGathered firsts heads numbers rank marks (links ++ link_at heads numbers to ∷ []) (to + 1)
gathered_more firsts heads numbers rank marks links to is are = record {
  arcs = λ link there. elim (Contains-push_cases links (link_at heads numbers to) link there) [
    | inl was ↦ are.arcs link was
    | inr last ↦ record { place = to; is_from = is; head = ap (λ (l : Link). l.head) last; number = ap (λ (l : Link). l.number) last }
  ];
  rest = λ place from before. elim (leb_tells to place) [
    | inl last ↦ inl (subst (λ p. Contains (links ++ link_at heads numbers to ∷ []) (link_at heads numbers p)) (omega (arith, last.1, before)) (Contains-push links (link_at heads numbers to)))
    | inr earlier ↦ elim (are.rest place from earlier.1) [
      | inl there ↦ inl (Contains-append_left links (link_at heads numbers to ∷ []) (link_at heads numbers place) there)
      | inr marked ↦ inr marked
    ]
  ];
}

pub trimmed_of : (firsts heads numbers : List ℕ) (rank : ℕ) (marks : List Bool) (links sorted : List Link) → AreMarked firsts heads numbers rank marks → AreGathered firsts heads numbers rank marks links (slice_index firsts (rank + 1)) → IsPermutation links sorted → AreAscending sorted → IsTrimmed firsts heads numbers rank sorted
trimmed_of firsts heads numbers rank marks links sorted marked are moved ascending = record {
  ascending = ascending;
  arcs = λ link there. are.arcs link (Contains-permutation sorted links link (IsPermutation-sym links sorted moved) there);
  rest = λ place from. elim (are.rest place from from.before) [
    | inl there ↦ inl (Contains-permutation links sorted (link_at heads numbers place) moved there)
    | inr is ↦ inr (marked.replaced place from is)
  ];
}

-- ---- the least number over the arcs that are left is that over all

-- a number is the least of another and of those over the first links
pub record IsLeastSoFar (bound : ℕ → ℕ) (links : List Link) (reach least count : ℕ) : Type 0 where
  pub to_reach : least ≤ reach
  pub to_each : (k : ℕ) (link : Link) → k < count → least ≤ plus (slice_index_or links k link).number (bound (slice_index_or links k link).head)
  pub is_one : (least ≡ reach) ⊎ ((link : Link) × Contains links link × (least ≡ plus link.number (bound link.head)))

pub so_far_none : (bound : ℕ → ℕ) (links : List Link) (reach : ℕ) → IsLeastSoFar bound links reach reach 0
so_far_none bound links reach = record { to_reach = omega arith; to_each = λ k link before. absurd (omega (arith, before)); is_one = inl refl }

pub so_far_more : (bound : ℕ → ℕ) (links : List Link) (reach least count value : ℕ) (link : Link) → count < length links → slice_index_or links count link ≡ link → value ≡ plus link.number (bound link.head) → IsLeastSoFar bound links reach least count → IsLeastSoFar bound links reach (min least value) (count + 1)
so_far_more bound links reach least count value link inside at is so_far = record {
  to_reach = omega (arith, so_far.to_reach);
  to_each = λ k other before. elim (leb_tells count k) [
    | inl last ↦
        let here : slice_index_or links k other ≡ link = ap (λ n. slice_index_or links n other) (omega (arith, last.1, before)) ∙ get_or_default links count other link inside ∙ at in
        subst (λ (l : Link). min least value ≤ plus l.number (bound l.head)) (sym here) (omega (arith, is))
    | inr earlier ↦ omega (arith, so_far.to_each k other earlier.1)
  ];
  is_one = elim (leb_tells least value) [
    | inl stays ↦ elim so_far.is_one [
      | inl same ↦ inl (omega (arith, stays.1, same))
      | inr found ↦ inr (found.0, found.1, omega (arith, stays.1, found.2))
    ]
    | inr falls ↦ inr (link, (count, inside, at), omega (arith, falls.1, is))
  ];
}

-- the links from one on, all of which are above the least so far
pub so_far_ends : (bound : ℕ → ℕ) (links : List Link) (reach least count : ℕ) (link : Link) → AreAscending links → count < length links → slice_index_or links count link ≡ link → least ≤ NONE → least ≤ link.number → IsLeastSoFar bound links reach least count → IsLeastSoFar bound links reach least (length links)
so_far_ends bound links reach least count link ascending inside at few above so_far = record {
  to_reach = so_far.to_reach;
  to_each = λ k other before. elim (leb_tells count k) [
    | inl later ↦
        let higher : link.number ≤ (slice_index_or links k other).number = omega (arith, ascending count k other later.1 before, ap (λ (l : Link). l.number) (get_or_default links count other link inside ∙ at)) in
        plus_first least (slice_index_or links k other).number (bound (slice_index_or links k other).head) few (omega (arith, above, higher))
    | inr earlier ↦ so_far.to_each k other earlier.1
  ];
  is_one = so_far.is_one;
}

pub least_of : (bound : ℕ → ℕ) (links : List Link) (reach least : ℕ) → IsLeastSoFar bound links reach least (length links) → IsLeastBy bound links reach least
least_of bound links reach least so_far = record {
  to_reach = so_far.to_reach;
  to_each = λ link there. subst (λ (l : Link). least ≤ plus l.number (bound l.head)) there.2 (so_far.to_each there.0 link there.1);
  is_one = so_far.is_one;
}

-- other numbers that are the same at all heads
pub least_alike : (bound other : ℕ → ℕ) (links : List Link) (reach same_reach least : ℕ) → ((link : Link) → Contains links link → bound link.head ≡ other link.head) → reach ≡ same_reach → IsLeastBy bound links reach least → IsLeastBy other links same_reach least
least_alike bound other links reach same_reach least alike same by = record {
  to_reach = omega (arith, by.to_reach, same);
  to_each = λ link there. omega (arith, by.to_each link there, ap (plus link.number) (alike link there));
  is_one = elim by.is_one [
    | inl is ↦ inl (is ∙ same)
    | inr found ↦ inr (found.0, found.1, found.2 ∙ ap (plus found.0.number) (alike found.0 found.1))
  ];
}

module _ (nodes : ℕ) (firsts heads numbers : List ℕ) (are : IsUpward nodes firsts heads) (reach : ℕ → ℕ) (rank : ℕ) (below : rank < nodes) (links : List Link) (trimmed : IsTrimmed firsts heads numbers rank links) where
  -- an arc has no less over it than one that is left
  record IsNoMore (place : ℕ) : Type 0 where
    link : Link
    there : Contains links link
    is : plus link.number (worth nodes firsts heads numbers are reach link.head) ≤ plus (slice_index numbers place) (worth nodes firsts heads numbers are reach (slice_index heads place))

  no_more : (steps place : ℕ) → place < steps → IsFrom firsts rank place → IsNoMore place
  no_more zero place few from = absurd (omega (arith, few))
  no_more (suc steps) place few from = elim (trimmed.rest place from) [
    | inl there ↦ record { link = link_at heads numbers place; there = there; is = omega arith }
    | inr replaced ↦
        let before = no_more steps replaced.earlier (omega (arith, few, replaced.before)) replaced.is_from in
        let up = are.upward rank replaced.earlier below replaced.is_from in
        let over = to_arc nodes firsts heads numbers are reach (slice_index heads replaced.earlier) replaced.joining up.1 replaced.joins.is_from in
        let to_head : worth nodes firsts heads numbers are reach (slice_index heads replaced.earlier) ≤ plus (slice_index numbers replaced.joining) (worth nodes firsts heads numbers are reach (slice_index heads place)) =
        subst (λ n. worth nodes firsts heads numbers are reach (slice_index heads replaced.earlier) ≤ plus (slice_index numbers replaced.joining) (worth nodes firsts heads numbers are reach n)) replaced.joins.head over in
        let through = plus_over (slice_index numbers replaced.earlier) (slice_index numbers replaced.joining) (slice_index numbers place) (worth nodes firsts heads numbers are reach (slice_index heads replaced.earlier)) (worth nodes firsts heads numbers are reach (slice_index heads place)) replaced.shorter to_head in
        record { link = before.link; there = before.there; is = omega (arith, before.is, through) }
  ]

  pub least_is_worth : (least : ℕ) → IsLeastBy (worth nodes firsts heads numbers are reach) links (reach rank) least → least ≡ worth nodes firsts heads numbers are reach rank
  least_is_worth least by = omega (arith, from, to)
    where
      to : least ≤ worth nodes firsts heads numbers are reach rank
      to = elim (attained nodes firsts heads numbers are reach rank below) [
        | inl is ↦ omega (arith, is, by.to_reach)
        | inr found ↦
            let one = no_more (suc found.0) found.0 (omega arith) found.1.is_from in
            omega (arith, found.1.is, one.is, by.to_each one.link one.there)
      ]

      from : worth nodes firsts heads numbers are reach rank ≤ least
      from = elim by.is_one [
        | inl is ↦ omega (arith, is, to_reach nodes firsts heads numbers are reach rank below)
        | inr found ↦
            let arc = trimmed.arcs found.0 found.1 in
            let over = to_arc nodes firsts heads numbers are reach rank arc.place below arc.is_from in
            let same : plus (slice_index numbers arc.place) (worth nodes firsts heads numbers are reach (slice_index heads arc.place)) ≡ plus found.0.number (worth nodes firsts heads numbers are reach found.0.head) =
            ap (λ n. plus n (worth nodes firsts heads numbers are reach (slice_index heads arc.place))) arc.number ∙ ap (λ n. plus found.0.number (worth nodes firsts heads numbers are reach n)) arc.head in
            omega (arith, found.2, over, same)
      ]
