-- Up the path of lowest heads, and down again.
use Rattle.std.proofs.Common.{◌≡◌, ℕ, ◌+◌, ◌-◌, ◌<◌, ◌≤◌, ◌⊎◌, inl, inr, refl, ap, sym, subst, ◌∙◌, arith, List, [], ◌∷◌, ◌++◌, length, length-append}
use Rattle.std.specs.Prelude.{slice_index}
use Rattle.std.proofs.Math.ListN.{get_or-append}
use Rattle.std.proofs.lemmas.Bool.Decides.{leb_tells}
use Rattle.std.proofs.lemmas.List.{get_or_push}
use Rattle.ea_hierarchy.specs.Cells.{AreFound, FindsMore, IsFinal, IsPath, IsTopFound, IsWayFrom}
use Rattle.ea_hierarchy.specs.Hierarchies.{IsFrom, IsLowest, IsUpward}
use Rattle.ea_hierarchy.specs.declared.cells.Aim.{Aim}
use Rattle.ea_hierarchy.specs.declared.cells.Cell.{Cell}

-- a path so far, and the rank that comes next
pub record Climbs (firsts heads path : List ℕ) (rank at : ℕ) : Type 0 where
  pub below : at < length firsts - 1
  pub path_is : IsPath firsts heads path
  pub short : length path ≤ at
  pub next : 0 < length path → IsLowest firsts heads (slice_index path (length path - 1)) at
  pub begin : ((length path ≡ 0) × (at ≡ rank)) ⊎ ((0 < length path) × (slice_index path 0 ≡ rank))

pub climbs_none : (firsts heads : List ℕ) (rank : ℕ) → rank < length firsts - 1 → Climbs firsts heads [] rank rank
climbs_none firsts heads rank below = record {
  below = below;
  path_is = record { below = λ place inside. absurd (omega (arith, inside)); parents = λ place inside. absurd (omega (arith, inside)) };
  short = omega arith;
  next = λ some. absurd (omega (arith, some));
  begin = inl (refl, refl);
}

one_parent : (firsts heads : List ℕ) (rank a b : ℕ) → IsLowest firsts heads rank a → IsLowest firsts heads rank b → a ≡ b
one_parent firsts heads rank a b one two = sym one.is ∙ two.is

module _ (firsts heads path : List ℕ) (rank at : ℕ) (climbs : Climbs firsts heads path rank at) where
  long : length (path ++ at ∷ []) ≡ length path + 1
  long = grind (arith, length-append {A = ℕ})

  kept : (place : ℕ) → place < length path → slice_index (path ++ at ∷ []) place ≡ slice_index path place
  kept place inside = get_or-append path (at ∷ []) 0 place inside

  pub last_is : slice_index (path ++ at ∷ []) (length (path ++ at ∷ []) - 1) ≡ at
  last_is = get_or_push path at 0 (length (path ++ at ∷ []) - 1) (omega (arith, long))

  pub path_grows : IsPath firsts heads (path ++ at ∷ [])
  path_grows = record {
    below = λ place inside. elim (leb_tells (length path) place) [
      | inl last ↦ omega (arith, get_or_push path at 0 place (omega (arith, last.1, inside, long)), climbs.below)
      | inr early ↦ omega (arith, kept place early.1, climbs.path_is.below place early.1)
    ];
    parents = λ place inside. elim (leb_tells (length path) (place + 1)) [
      | inl last ↦
          let end : length path ≡ place + 1 = omega (arith, last.1, inside, long) in
          let here : slice_index (path ++ at ∷ []) place ≡ slice_index path (length path - 1) = kept place (omega (arith, end)) ∙ ap (slice_index path) (omega (arith, end)) in
          let next = get_or_push path at 0 (place + 1) end in
          subst (λ n. IsLowest firsts heads n (slice_index (path ++ at ∷ []) (place + 1))) (sym here) (subst (λ n. IsLowest firsts heads (slice_index path (length path - 1)) n) (sym next) (climbs.next (omega (arith, end))))
      | inr early ↦
          let one = kept place (omega (arith, early.1)) in
          let two = kept (place + 1) early.1 in
          subst (λ n. IsLowest firsts heads n (slice_index (path ++ at ∷ []) (place + 1))) (sym one) (subst (λ n. IsLowest firsts heads (slice_index path place) n) (sym two) (climbs.path_is.parents place early.1))
    ];
  }

  pub begins_at : slice_index (path ++ at ∷ []) 0 ≡ rank
  begins_at = elim climbs.begin [
    | inl none ↦ get_or_push path at 0 0 none.0 ∙ none.1
    | inr some ↦ kept 0 some.0 ∙ some.1
  ]

  pub climbs_more : (parent : ℕ) → IsLowest firsts heads at parent → at < parent → parent < length firsts - 1 → Climbs firsts heads (path ++ at ∷ []) rank parent
  climbs_more parent lowest higher below = record {
    below = below;
    path_is = path_grows;
    short = omega (arith, long, climbs.short, higher);
    next = λ some. subst (λ n. IsLowest firsts heads n parent) (sym last_is) lowest;
    begin = inr (omega (arith, long), begins_at);
  }

  -- the next rank's bound is found
  pub top_found : (aim : Aim) (list : List Cell) → IsFinal aim list at → IsTopFound firsts heads aim list path
  top_found aim list is parent some lowest = subst (λ n. IsFinal aim list n) (one_parent firsts heads (slice_index path (length path - 1)) at parent (climbs.next some) lowest) is

  pub way_found : (aim : Aim) (list : List Cell) → IsFinal aim list at → IsWayFrom aim list path rank
  way_found aim list is = elim climbs.begin [
    | inl none ↦ inl (subst (λ n. IsFinal aim list n) none.1 is)
    | inr some ↦ inr some
  ]

  -- the next rank is the highest
  pub top_ends : (aim : Aim) (list : List Cell) → ((head : ℕ) → IsLowest firsts heads at head → ⊥) → IsTopFound firsts heads aim list (path ++ at ∷ [])
  top_ends aim list none parent some lowest = absurd (none parent (subst (λ n. IsLowest firsts heads n parent) last_is lowest))

  pub way_begins : (aim : Aim) (list : List Cell) → IsWayFrom aim list (path ++ at ∷ []) rank
  way_begins aim list = inr (omega (arith, long), begins_at)

-- ---- down

-- the bounds of all heads of a rank are found, if that of the lowest is
pub heads_found : (firsts heads ups : List ℕ) (aim : Aim) (list : List Cell) (rank : ℕ) → IsUpward (length firsts - 1) firsts heads → AreFound firsts heads ups aim list → rank < length firsts - 1
    → ((parent : ℕ) → IsLowest firsts heads rank parent → IsFinal aim list parent) → (place : ℕ) → IsFrom firsts rank place → IsFinal aim list (slice_index heads place)
heads_found firsts heads ups aim list rank are found below top place is = elim (leb_tells place (slice_index firsts rank)) [
  | inl first ↦
      let same : place ≡ slice_index firsts rank = omega (arith, first.1, is.from) in
      subst (λ n. IsFinal aim list (slice_index heads n)) (sym same) lowest_found
  | inr later ↦
      let third = are.chordal rank (slice_index firsts rank) place below lowest is later.1 in
      let up = are.upward rank (slice_index firsts rank) below lowest in
      subst (λ n. IsFinal aim list n) third.1.head (found.closed (slice_index heads (slice_index firsts rank)) third.0 up.1 lowest_found third.1.is_from)
]
  where
    some : slice_index firsts rank < slice_index firsts (rank + 1)
    some = omega (arith, is.from, is.before)

    lowest : IsFrom firsts rank (slice_index firsts rank)
    lowest = record { from = omega arith; before = some }

    lowest_found : IsFinal aim list (slice_index heads (slice_index firsts rank))
    lowest_found = top (slice_index heads (slice_index firsts rank)) (record { some = some; is = refl })

module _ (firsts heads path rest : List ℕ) (last : ℕ) (popped : path ≡ rest ++ last ∷ []) where
  size : length path ≡ length rest + 1
  size = ap (λ xs. length xs) popped ∙ grind (arith, length-append {A = ℕ})

  same_at : (place : ℕ) → place < length rest → slice_index path place ≡ slice_index rest place
  same_at place inside = ap (λ xs. slice_index xs place) popped ∙ get_or-append rest (last ∷ []) 0 place inside

  pub is_last : slice_index path (length path - 1) ≡ last
  is_last = ap (λ xs. slice_index xs (length path - 1)) popped ∙ get_or_push rest last 0 (length path - 1) (omega (arith, size))

  pub path_shrinks : IsPath firsts heads path → IsPath firsts heads rest
  path_shrinks is = record {
    below = λ place inside. omega (arith, same_at place inside, is.below place (omega (arith, inside, size)));
    parents = λ place inside.
        let one = same_at place (omega (arith, inside)) in
        let two = same_at (place + 1) inside in
        subst (λ n. IsLowest firsts heads n (slice_index rest (place + 1))) one (subst (λ n. IsLowest firsts heads (slice_index path place) n) two (is.parents place (omega (arith, inside, size))));
  }

  pub last_below : IsPath firsts heads path → last < length firsts - 1
  last_below is = let low = is.below (length path - 1) (omega (arith, size)) in omega (arith, low, is_last)

  pub parent_found : (aim : Aim) (list : List Cell) → IsTopFound firsts heads aim list path → (parent : ℕ) → IsLowest firsts heads last parent → IsFinal aim list parent
  parent_found aim list top parent lowest = top parent (omega (arith, size)) (subst (λ n. IsLowest firsts heads n parent) (sym is_last) lowest)

  -- once the last rank's bound is found
  pub top_next : (aim : Aim) (list : List Cell) → IsPath firsts heads path → IsFinal aim list last → IsTopFound firsts heads aim list rest
  top_next aim list is found parent some lowest =
      let place : ℕ = length rest - 1 in
      let one = same_at place (omega (arith, some)) in
      let next : slice_index path (place + 1) ≡ last = ap (slice_index path) (omega (arith, some, size)) ∙ is_last in
      let has : IsLowest firsts heads (slice_index rest place) last = subst (λ n. IsLowest firsts heads n last) one (subst (λ n. IsLowest firsts heads (slice_index path place) n) next (is.parents place (omega (arith, some, size)))) in
      subst (λ n. IsFinal aim list n) (one_parent firsts heads (slice_index rest place) last parent has lowest) found

  pub way_next : (aim : Aim) (list after : List Cell) (rank : ℕ) → FindsMore aim list after → IsFinal aim after last → IsWayFrom aim list path rank → IsWayFrom aim after rest rank
  way_next aim list after rank finds found (inl is) = inl (finds.kept rank is)
  way_next aim list after rank finds found (inr from) = elim (leb_tells 1 (length rest)) [
    | inl some ↦ inr (some.1, sym (same_at 0 some.1) ∙ from.1)
    | inr none ↦
        let same : last ≡ rank = sym is_last ∙ ap (slice_index path) (omega (arith, none.1, size)) ∙ from.1 in
        inl (subst (λ n. IsFinal aim after n) same found)
  ]

pub finds_then : (aim : Aim) (list middle after : List Cell) → FindsMore aim list middle → FindsMore aim middle after → FindsMore aim list after
finds_then aim list middle after one two = record { reach = λ rank. two.reach rank ∙ one.reach rank; kept = λ rank is. two.kept rank (one.kept rank is) }

pub finds_none : (aim : Aim) (list : List Cell) → FindsMore aim list list
finds_none aim list = record { reach = λ rank. refl; kept = λ rank is. is }
