-- A pop from the better of two heaps.
use Rattle.std.proofs.Common.{◌≡◌, ℕ, zero, suc, ◌+◌, ◌<◌, List, [], ◌∷◌, length, get_or, set, sym, refl, ap, ◌∙◌, arith, subst, Option, Some, None, MatchOption, ltb, eqb, cond, Bool, true, false, min, ◌⊎◌, inl, inr, ⊎_elim, take, ◌++◌}
use Rattle.std.proofs.lemmas.List.{set-get_or, take_more}
use Rattle.ea_machine.proofs.Totals.{total-append}
use mathlib.Core.Logic.{dite}
use native.Mathlib.Decide.{dec_le}
use Rattle.ea_pool.specs.declared.heap.entry.Entry.{Entry}
use Rattle.ea_machine.specs.Totals.{total}
use Rattle.ea_pool.specs.Entries.{SameEntries, IsLeastOf, lower, least_key}
use Rattle.ea_pool.specs.Solos.{content, lesser, lesser_heap, TakesFrom}

pub content_is : (heaps : List (List Entry)) (k : ℕ) (es : List Entry) → k < length heaps → es ≡ get_or heaps k es → content heaps k ≡ es
content_is [] k es near is = absurd (omega arith)
content_is (h ∷ hs) zero es near is = sym is
content_is (h ∷ hs) (suc k) es near is = content_is hs k es (omega arith) is

pub none_some : (x : ℕ) → ◌≡◌ {A = Option ℕ} None (Some x) → ⊥
none_some x e = cc

some_lower : (key x : ℕ) (o : Option ℕ) → lower key o ≡ None → ⊥
some_lower key x None e = cc
some_lower key x (Some y) e = cc

pub no_entry : (es : List Entry) → least_key es ≡ None → es ≡ []
no_entry [] e = refl
no_entry (x ∷ es) e = absurd (some_lower x.key 0 (least_key es) e)

either_of : (b : Bool) (i j : ℕ) → (cond b i j ≡ i) ⊎ (cond b i j ≡ j)
either_of true i j = inl refl
either_of false i j = inr refl

min_of : (i j : ℕ) → (min i j ≡ i) ⊎ (min i j ≡ j)
min_of i j = dite (dec_le i j) (λ l. inl (omega arith)) (λ n. inr (omega arith))

lesser_of : (i x j y : ℕ) → (lesser i (Some x) j (Some y) ≡ i) ⊎ (lesser i (Some x) j (Some y) ≡ j)
lesser_of i x j y = ⊎_elim inr
    (λ (e : lesser i (Some x) j (Some y) ≡ cond (eqb x y) (min i j) i). ⊎_elim (λ (m : cond (eqb x y) (min i j) i ≡ min i j). ⊎_elim (λ (f : min i j ≡ i). inl (e ∙ (m ∙ f))) (λ (f : min i j ≡ j). inr (e ∙ (m ∙ f))) (min_of i j)) (λ (m : cond (eqb x y) (min i j) i ≡ i). inl (e ∙ m)) (either_of (eqb x y) (min i j) i))
    (either_of (ltb y x) j (cond (eqb x y) (min i j) i))

-- if the chosen heap has no entry, neither has one
both_empty : (heaps : List (List Entry)) (i j : ℕ) (x y : Option ℕ) → least_key (content heaps i) ≡ x → least_key (content heaps j) ≡ y → content heaps (lesser i x j y) ≡ [] → (content heaps i ≡ []) × (content heaps j ≡ [])
both_empty heaps i j None None a b none = (no_entry _ a, no_entry _ b)
both_empty heaps i j None (Some y) a b none = (no_entry _ a, none)
both_empty heaps i j (Some x) None a b none = (none, no_entry _ b)
both_empty heaps i j (Some x) (Some y) a b none = ⊎_elim
    (λ (e : lesser i (Some x) j (Some y) ≡ i). let t : None ≡ Some x = sym (ap least_key (ap (content heaps) (sym e) ∙ none)) ∙ a in absurd (none_some x t))
    (λ (e : lesser i (Some x) j (Some y) ≡ j). let t : None ≡ Some y = sym (ap least_key (ap (content heaps) (sym e) ∙ none)) ∙ b in absurd (none_some y t)) (lesser_of i x j y)

pub pops_from : (heaps : List (List Entry)) (i j k : ℕ) (h' : List Entry) (answer : Option Entry) → k ≡ lesser_heap heaps i j
    → MatchOption answer ((content heaps k ≡ []) × (h' ≡ [])) (λ e. IsLeastOf e (content heaps k) × SameEntries (content heaps k) (e ∷ h'))
    → MatchOption answer ((content heaps i ≡ []) × (content heaps j ≡ []) × (set heaps k h' ≡ heaps)) (λ e. TakesFrom (lesser_heap heaps i j) e heaps (set heaps k h'))
pops_from heaps i j k h' None is t =
    let both = both_empty heaps i j (least_key (content heaps i)) (least_key (content heaps j)) refl refl (ap (content heaps) (sym is) ∙ t.0) in
    (both.0, both.1, ap (set heaps k) (t.1 ∙ sym t.0) ∙ set-get_or heaps k [])
pops_from heaps i j k h' (Some e) is t =
    subst (λ (n : ℕ). TakesFrom n e heaps (set heaps k h')) is (h', refl, t.1, t.0)

pub lesser_either : (i : ℕ) (x : Option ℕ) (j : ℕ) (y : Option ℕ) → (lesser i x j y ≡ i) ⊎ (lesser i x j y ≡ j)
lesser_either i None j None = inl refl
lesser_either i None j (Some y) = inr refl
lesser_either i (Some x) j None = inl refl
lesser_either i (Some x) j (Some y) = lesser_of i x j y

-- the same for the results of the calls on the two heaps
pub pops : (heaps now : List (List Entry)) (i I j J k : ℕ) (x y : Option ℕ) (a b h h' : List Entry) (answer : Option Entry) → heaps ≡ now → i ≡ I → j ≡ J → i < length heaps → j < length heaps
    → a ≡ get_or heaps i a → b ≡ get_or heaps j b → x ≡ least_key a → y ≡ least_key b → k ≡ lesser i x j y → h ≡ get_or heaps k h
    → MatchOption answer ((h ≡ []) × (h' ≡ [])) (λ e. IsLeastOf e h × SameEntries h (e ∷ h'))
    → MatchOption answer ((content now I ≡ []) × (content now J ≡ []) × (set heaps k h' ≡ now)) (λ e. TakesFrom (lesser_heap now I J) e now (set heaps k h'))
pops heaps now i I j J k x y a b h h' answer same ii jj near other ga gb xa yb chosen gh t =
    let Goal : List (List Entry) → ℕ → ℕ → Type 0 = λ n p q. MatchOption answer ((content n p ≡ []) × (content n q ≡ []) × (set heaps k h' ≡ n)) (λ e. TakesFrom (lesser_heap n p q) e n (set heaps k h')) in
    let at-i : content heaps i ≡ a = content_is heaps i a near ga in
    let at-j : content heaps j ≡ b = content_is heaps j b other gb in
    let here : k < length heaps = ⊎_elim (λ (e : lesser i x j y ≡ i). subst (λ (n : ℕ). n < length heaps) (sym (chosen ∙ e)) near) (λ (e : lesser i x j y ≡ j). subst (λ (n : ℕ). n < length heaps) (sym (chosen ∙ e)) other) (lesser_either i x j y) in
    let at-k : content heaps k ≡ h = content_is heaps k h here gh in
    let is : k ≡ lesser_heap heaps i j = chosen ∙ (ap (λ (o : Option ℕ). lesser i o j y) (xa ∙ ap least_key (sym at-i)) ∙ ap (λ (o : Option ℕ). lesser i (least_key (content heaps i)) j o) (yb ∙ ap least_key (sym at-j))) in
    let told = subst (λ (es : List Entry). MatchOption answer ((es ≡ []) × (h' ≡ [])) (λ e. IsLeastOf e es × SameEntries es (e ∷ h'))) (sym at-k) t in
    subst (λ (n : List (List Entry)). Goal n I J) same (subst (λ (p : ℕ). Goal heaps p J) ii (subst (λ (q : ℕ). Goal heaps i q) jj (pops_from heaps i j k h' answer is told)))

-- one more heap
pub one_more_length : (heaps : List (List Entry)) (k : ℕ) (es : List Entry) → k < length heaps → es ≡ get_or heaps k es → total length (take (k + 1) heaps) ≡ total length (take k heaps) + length es
one_more_length heaps k es near is =
    let more : take (k + 1) heaps ≡ take k heaps ++ get_or heaps k [] ∷ [] = take_more heaps k [] near in
    omega (arith, ap (total length) more, total-append (λ (l : List Entry). length l) (take k heaps) (get_or heaps k [] ∷ []), ap (λ (l : List Entry). length l) (content_is heaps k es near is))
