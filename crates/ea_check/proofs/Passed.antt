-- Walks along links, one after another: what one shares with the one before is known.
use Rattle.std.proofs.Common.{◌≡◌, ◌∙◌, refl, ℕ, zero, suc, ◌+◌, ◌-◌, ◌<◌, ◌≤◌, List, [], ◌∷◌, ◌++◌, length, take, get_or, set, inl, inr, arith, ap, sym, length-append}
use Rattle.std.proofs.Math.Seq.{take-append_seam}
use Rattle.std.proofs.lemmas.Bool.Decides.{eqb_tells, leb_tells}
use Rattle.std.proofs.lemmas.List.{get_or-set_other, get_or-set_same, get_or_append_left}
use Rattle.ea_search.specs.declared.link.Link.{Link}
use Rattle.ea_search.specs.Links.{walk_along}
use Rattle.ea_check.specs.Paths.{IsPassed}

-- one more place
pub passed_push : (links : List Link) (arcs old new : List ℕ) (known : ℕ) → new ≡ old ++ 0 ∷ [] → IsPassed links arcs old known → IsPassed links arcs new known
passed_push links arcs old new known pushed passed = rw pushed (record {
  few = omega (arith, passed.few, length-append old (0 ∷ []));
  each = λ place below.
      passed.each place below ∙ ap (walk_along links place) (sym (get_or_append_left old (0 ∷ []) 0 place (omega (arith, passed.few, below))));
})

module _ (links : List Link) (arcs nodes : List ℕ) (at left : ℕ) (some : 0 < left) (inside : left < length nodes) where
  pub before_more : (first : List ℕ) → ((place : ℕ) → place ≤ left → get_or nodes place 0 ≡ get_or first place 0) → (place : ℕ) → place ≤ left - 1 → get_or (set nodes left at) place 0 ≡ get_or first place 0
  before_more first was place low = get_or-set_other nodes left place at 0 (λ same. omega (arith, same)) ∙ was place (omega arith)

  pub above_more : (Rest : Type 0) → (Rest → take left arcs ≡ walk_along links left at) → ((place : ℕ) → left < place → place ≤ length arcs → take left arcs ≡ walk_along links left at → take place arcs ≡ walk_along links place (get_or nodes place 0)) → (place : ℕ) → left - 1 < place → place ≤ length arcs → Rest → take place arcs ≡ walk_along links place (get_or (set nodes left at) place 0)
  above_more Rest back was place high low rest = elim (eqb_tells place left) [
    | inl same ↦ rw same.1 (back rest ∙ ap (walk_along links left) (sym (get_or-set_same nodes left at 0 inside)))
    | inr other ↦ was place (omega (arith, other.1)) low (back rest) ∙ ap (walk_along links place) (sym (get_or-set_other nodes left place at 0 (λ same. other.1 same)))
  ]

-- all places of the walk
pub all_passed : (links : List Link) (arcs nodes first : List ℕ) (left known : ℕ) → length arcs < length nodes → IsPassed links arcs first known → ((place : ℕ) → place ≤ left → get_or nodes place 0 ≡ get_or first place 0) → ((place : ℕ) → left < place → place ≤ length arcs → take place arcs ≡ walk_along links place (get_or nodes place 0)) → take left arcs ≡ walk_along links left (get_or nodes left 0) → (left ≤ known) → IsPassed links arcs nodes (length arcs + 1)
all_passed links arcs nodes first left known places passed before above here low = record {
  few = omega (arith, places);
  each = λ place below. elim (leb_tells left place) [
    | inl high ↦ elim (eqb_tells place left) [
      | inl same ↦ rw same.1 here
      | inr other ↦ above place (omega (arith, high.1, other.1)) (omega (arith, below))
    ]
    | inr less ↦ passed.each place (omega (arith, less.1, low)) ∙ ap (walk_along links place) (sym (before place (omega (arith, less.1))))
  ];
}

front_length : (count : ℕ) (xs : List ℕ) → take (length (take count xs)) xs ≡ take count xs
front_length zero xs = refl
front_length (suc count) [] = refl
front_length (suc count) (x ∷ xs) = ap (λ (ys : List ℕ). x ∷ ys) (front_length count xs)

-- the arcs that are shared
pub shares : (old new own : List ℕ) (count size : ℕ) → size ≡ length (take count old) → new ≡ take count old ++ own → take size old ≡ take size new
shares old new own count size is more =
    ap (λ n. take n old) is ∙ front_length count old ∙ sym (take-append_seam (take count old) own) ∙ ap (λ n. take n (take count old ++ own)) (sym is) ∙ ap (take size) (sym more)
