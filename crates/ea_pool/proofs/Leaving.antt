-- The entries left in a closed pool, heap by heap.
use Rattle.std.proofs.Common.{◌≡◌, ℕ, ◌+◌, ◌<◌, ◌≤◌, Bool, true, false, cond, ltb, ltb-true, ltb-false, List, [], ◌∷◌, ◌++◌, length, length-set, get_or, set, take, sym, refl, ap, ◌∙◌, arith, subst, append-nil, append_assoc, Option, Some, None, MatchOption}
use Rattle.std.proofs.lemmas.List.{length-take-le, set-get_or, take_all, take_more}
use mathlib.Core.Option.{some}
use Rattle.std.specs.Prelude.{IfSome}
use Rattle.std.specs.List.{AllByRecursion}
use Rattle.ea_machine.specs.Totals.{total}
use Rattle.ea_machine.proofs.Totals.{total-set}
use Rattle.ea_machine.proofs.Places.{at_value}
use Rattle.ea_pool.specs.declared.heap.entry.Entry.{Entry}
use Rattle.ea_pool.specs.Entries.{only, times, SameEntries, IsLeastOf, HasLeastKey, gathered, least_key}
use Rattle.ea_pool.specs.Solos.{content}
use Rattle.ea_pool.specs.Left.{better, IsBestIn, IsBestOf}
use Rattle.ea_pool.proofs.Weights.{only-same}
use Rattle.ea_pool.proofs.Gathered.{total_gathered}
use Rattle.ea_pool.proofs.HeapOrder.{least_key_is}
use Rattle.ea_pool.proofs.SoloPops.{content_is, none_some, no_entry}
use Rattle.ea_pool.proofs.Ranks.{Above, above_lower}

all_append : (P : Entry → Type 0) (xs ys : List Entry) → AllByRecursion P xs → AllByRecursion P ys → AllByRecursion P (xs ++ ys)
all_append P [] ys h k = k
all_append P (x ∷ xs) ys h k = (h.0, all_append P xs ys h.1 k)

all_weaker : (P Q : Entry → Type 0) (xs : List Entry) → ((x : Entry) → P x → Q x) → AllByRecursion P xs → AllByRecursion Q xs
all_weaker P Q [] f h = tt
all_weaker P Q (x ∷ xs) f h = (f x h.0, all_weaker P Q xs f h.1)

pub gathered_snoc : (all : List (List Entry)) (es : List Entry) → gathered (all ++ es ∷ []) ≡ gathered all ++ es
gathered_snoc [] es = append-nil es
gathered_snoc (x ∷ xs) es = ap (λ (l : List Entry). x ++ l) (gathered_snoc xs es) ∙ sym (append_assoc x (gathered xs) es)

above_all : (key : ℕ) (es : List Entry) → Above key (least_key es) → AllByRecursion (λ e. key ≤ e.key) es
above_all key [] h = tt
above_all key (e ∷ es) h = let t = above_lower key e.key (least_key es) h in (t.0, above_all key es t.1)

-- each key is at least the least key
above_least : (es : List Entry) (key : ℕ) → least_key es ≡ Some key → AllByRecursion (λ e. key ≤ e.key) es
above_least es key is = let low : key ≤ key = omega arith in above_all key es (subst (Above key) (sym is) low)

better_of_two : (heaps : List (List Entry)) (n key : ℕ) (b : ℕ × ℕ) (before : List Entry) → n < length heaps → least_key (content heaps n) ≡ Some key → IsBestIn heaps before (Some b) → (smaller : Bool) → ltb key b.1 ≡ smaller
    → IsBestIn heaps (before ++ content heaps n) (cond smaller (Some (n, key)) (Some b))
better_of_two heaps n key b before near is h true e =
    let less : key < b.1 = ltb-true key b.1 e in
    (near, is, all_append (λ d. key ≤ d.key) before (content heaps n) (all_weaker (λ d. b.1 ≤ d.key) (λ d. key ≤ d.key) before (λ d k. omega arith) h.2) (above_least (content heaps n) key is))
better_of_two heaps n key b before near is h false e =
    let more : b.1 ≤ key = ltb-false key b.1 e in
    (h.0, h.1, all_append (λ d. b.1 ≤ d.key) before (content heaps n) h.2 (all_weaker (λ d. key ≤ d.key) (λ d. b.1 ≤ d.key) (content heaps n) (λ d k. omega arith) (above_least (content heaps n) key is)))

better_in : (heaps : List (List Entry)) (n : ℕ) (best : Option (ℕ × ℕ)) (key : Option ℕ) (before : List Entry) → n < length heaps → least_key (content heaps n) ≡ key → IsBestIn heaps before best → IsBestIn heaps (before ++ content heaps n) (better best n key)
better_in heaps n None None before near is h = let none = no_entry (content heaps n) is in ap (λ (l : List Entry). l ++ content heaps n) h ∙ none
better_in heaps n (Some b) None before near is h =
    let none = no_entry (content heaps n) is in
    (h.0, h.1, all_append (λ d. b.1 ≤ d.key) before (content heaps n) h.2 (subst (AllByRecursion (λ d. b.1 ≤ d.key)) (sym none) tt))
better_in heaps n None (Some key) before near is h =
    (near, is, all_append (λ d. key ≤ d.key) before (content heaps n) (subst (AllByRecursion (λ d. key ≤ d.key)) (sym h) tt) (above_least (content heaps n) key is))
better_in heaps n (Some b) (Some key) before near is h =
    subst (λ (o : Option (ℕ × ℕ)). IsBestIn heaps (before ++ content heaps n) o) refl (better_of_two heaps n key b before near is h (ltb key b.1) refl)

-- one more heap was inspected
pub better_step : (heaps : List (List Entry)) (n : ℕ) (best : Option (ℕ × ℕ)) (key : Option ℕ) → n < length heaps → key ≡ least_key (content heaps n) → IsBestOf heaps n best → IsBestOf heaps (n + 1) (better best n key)
better_step heaps n best key near is h =
    let more : gathered (take (n + 1) heaps) ≡ gathered (take n heaps) ++ content heaps n = ap gathered (take_more heaps n [] near) ∙ gathered_snoc (take n heaps) (content heaps n) in
    subst (λ (l : List Entry). IsBestIn heaps l (better best n key)) (sym more) (better_in heaps n best key (gathered (take n heaps)) near (sym is) h)

module _ (heaps : List (List Entry)) (place key : ℕ) (h h' : List Entry) (near : place < length heaps) (is : h ≡ get_or heaps place h) (least : least_key (content heaps place) ≡ Some key) where
  here : content heaps place ≡ h
  here = content_is heaps place h near is

  -- the heap with the least key gives an entry
  pub takes_one : (answer : Option Entry) → MatchOption answer ((h ≡ []) × (h' ≡ [])) (λ e. IsLeastOf e h × SameEntries h (e ∷ h'))
      → MatchOption answer ((gathered heaps ≡ []) × (gathered (set heaps place h') ≡ [])) (λ e. SameEntries (gathered heaps) (e ∷ gathered (set heaps place h')))
  takes_one None t = let none : ◌≡◌ {A = Option ℕ} None (Some key) = sym (ap least_key (here ∙ t.0)) ∙ least in absurd (none_some key none)
  takes_one (Some e) t = λ f. omega (
    arith,
    total_gathered f heaps,
    total_gathered f (set heaps place h'),
    total-set (total f) heaps place h h' (at_value heaps place h near ∙ ap some (sym is)),
    t.1 f,
  )

  -- and no other has a smaller key
  pub takes_least : (answer : Option Entry) → MatchOption answer ((h ≡ []) × (h' ≡ [])) (λ e. IsLeastOf e h × SameEntries h (e ∷ h')) → AllByRecursion (λ d. key ≤ d.key) (gathered heaps) → IfSome answer (λ e. HasLeastKey e (gathered heaps))
  takes_least None t low = tt
  takes_least (Some e) t low =
      let there : 0 < times e h = omega (arith, t.1 (only e), only-same e) in
      let found : least_key h ≡ Some e.key = least_key_is e h t.0 there in
      let same : Some key ≡ Some e.key = sym least ∙ (ap least_key here ∙ found) in
      let one : key ≡ e.key = cc in
      subst (λ (k : ℕ). AllByRecursion (λ d. k ≤ d.key) (gathered heaps)) one low

-- one heap changes
pub weighs_changed : (f : Entry → ℕ) (heaps : List (List Entry)) (place : ℕ) (h h' : List Entry) → place < length heaps → h ≡ get_or heaps place h
    → total f (gathered (set heaps place h')) + total f h ≡ total f (gathered heaps) + total f h'
weighs_changed f heaps place h h' near is = omega (
  arith,
  total_gathered f heaps,
  total_gathered f (set heaps place h'),
  total-set (total f) heaps place h h' (at_value heaps place h near ∙ ap some (sym is)),
)

-- the last heap, which has no entry, is taken off
pub took_off : (heaps : List (List Entry)) (n : ℕ) (h h' : List Entry) → length heaps ≡ n + 1 → h ≡ get_or heaps n h → h ≡ [] → h' ≡ [] → (f : Entry → ℕ)
    → total f (gathered heaps) ≡ total f (gathered (take n (set heaps n h')))
took_off heaps n h h' len is none none' f =
    let near : n < length heaps = omega (arith, len) in
    let here : content heaps n ≡ [] = content_is heaps n h near is ∙ none in
    let still : set heaps n h' ≡ heaps = ap (set heaps n) (none' ∙ sym here) ∙ set-get_or heaps n [] in
    let whole : gathered heaps ≡ gathered (take n heaps) ++ content heaps n =
    ap gathered (sym (take_all (n + 1) heaps (omega (arith, len)))) ∙ (ap gathered (take_more heaps n [] near) ∙ gathered_snoc (take n heaps) (content heaps n)) in
    ap (total f) (whole ∙ (ap (λ (l : List Entry). gathered (take n heaps) ++ l) here ∙ (append-nil (gathered (take n heaps)) ∙ ap (λ (hs : List (List Entry)). gathered (take n hs)) (sym still))))

pub one_fewer : (heaps : List (List Entry)) (n : ℕ) (h' : List Entry) → length heaps ≡ n + 1 → length (take n (set heaps n h')) ≡ n
one_fewer heaps n h' len = length-take-le n (set heaps n h') (omega (arith, len, length-set heaps n h'))

pub no_heaps : (heaps : List (List Entry)) → length heaps ≡ 0 → gathered heaps ≡ []
no_heaps [] e = refl
no_heaps (h ∷ heaps) e = absurd (omega (arith, e))
