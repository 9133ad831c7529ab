-- Each kind of step keeps the law of the pool.
use Rattle.std.proofs.Common.{◌≡◌, ◌≢◌, ◌≤◌, ℕ, zero, suc, ◌+◌, ◌<◌, List, [], ◌∷◌, ◌++◌, map, replicate, set, length, get_or, sym, refl, ap, ◌∙◌, arith, subst, eq-eqb, ne_eqb, cond, ⊎_elim, Option, Some, None, length-set, slice_index_or, get_or-set_same, get_or-set_other}
use Rattle.std.proofs.lemmas.List.{length-map, length-replicate, get_or-replicate}
use Rattle.std.specs.List.{AllByRecursion}
use mathlib.Core.Logic.{dite}
use native.Mathlib.Decide.{dec_lt}
use mathlib.Core.Option as maybe
use mathlib.Core.Option.{some-injective, some-ne-none}
use lib.ListN.{get_elem?}
use Rattle.atomic_table.proofs.Lists.{at_set, at_snoc}
use Rattle.ea_machine.specs.Totals.{total}
use Rattle.ea_machine.proofs.Places.{inside}
use Rattle.ea_machine.proofs.Totals.{total-map, total-append, total-set, term_le, terms_le, total_alone}
use Rattle.ea_pool.specs.declared.heap.entry.Entry.{Entry}
use Rattle.ea_pool.specs.declared.shared.account.Held.{Held}
use Rattle.ea_pool.specs.declared.shared.account.SeatMemory.{SeatMemory}
use Rattle.ea_base.specs.declared.limits.TheConstants.{SHARES}
use Rattle.ea_pool.specs.declared.shared.words.TheConstants.{OUT, EMPTY}
use Rattle.ea_pool.specs.Entries.{only, times, SameEntries, IsKnown, AreKnown}
use Rattle.ea_pool.specs.Kinds.{HeapKind, Shows}
use Rattle.ea_pool.specs.States.{seat_state, first_state, nobody, content_of, count_of, holds_heap, held_at, IsInside, saw, forgot, took, gave, pushed, popped, left_of, newcomer, joined}
use Rattle.ea_pool.specs.Core.{Core, at_home, Fits, AreWords, IsLawful}
use Rattle.ea_pool.specs.Events.{opening}
use Rattle.ea_pool.specs.Plays.{Surveys}
use Rattle.ea_pool.proofs.Shown.{shown_low, shown_none}

abbrev pub Homes : Type 0
Homes = List (maybe.Option (List Entry))

-- all heaps at home, with no entry
abbrev pub empty_homes : ℕ → Homes
empty_homes n = replicate n (maybe.some [])

abbrev pub board : List ℕ → Homes → List SeatMemory → Core
board words homes seats = record { words = words; homes = homes; seats = seats }

-- what the heaps at home weigh
abbrev home_weight : (Entry → ℕ) → Homes → ℕ
home_weight f homes = total (λ h. total f (at_home h)) homes

-- a seat that has a share is alone with all of them
not_all : (views : List SeatMemory) (id j : ℕ) (v b : SeatMemory) → total (λ a. a.shares) views ≡ SHARES → j ≢ id → get_elem? views id ≡ maybe.some v → get_elem? views j ≡ maybe.some b → 0 < v.shares → b.shares ≡ SHARES → ⊥
not_all views id j v b all apart me them live whole = omega (arith, terms_le (λ (a : SeatMemory). a.shares) views id j v b apart me them, all)

fits_low : (kind : HeapKind) (word holders : ℕ) (h : maybe.Option (List Entry)) → Fits kind word holders h → word ≤ OUT
fits_low kind word holders maybe.none f = omega (arith, f.0)
fits_low kind word holders (maybe.some es) f = omega (arith, shown_low kind word es f.0)

module _ (known : ℕ → ℕ → Type 0) (kind : HeapKind) where
  -- one seat's account, the words and the heaps at home change together
  changed : (s : Core) (o : IsLawful known kind s) (id : ℕ) (v w : SeatMemory) (words : List ℕ) (homes : Homes) → get_elem? s.seats id ≡ maybe.some v → 0 < v.shares → w.shares ≡ v.shares
      → length words ≡ length homes → length homes ≡ length s.homes → IsInside (length homes) w.held
      → ((k : ℕ) (home : maybe.Option (List Entry)) → get_elem? homes k ≡ maybe.some home → Fits kind (get_or words k 0) (total (holds_heap k) (set s.seats id w)) home)
      → ((f : Entry → ℕ) → total f w.pushed + (total f v.popped + (home_weight f s.homes + total f (content_of v.held))) ≡ total f v.pushed + (total f w.popped + (home_weight f homes + total f (content_of w.held))))
      → ((e : Entry) → times e v.pushed ≡ 0 → 0 < times e w.pushed → IsKnown known e)
      → (v.shares ≡ SHARES → AreWords words w.seen)
      → IsLawful known kind (board words homes (set s.seats id w))
  changed s o id v w words homes me live shares width long here fits balance new seen =
      let views : List SeatMemory = set s.seats id w in
      let balanced : (f : Entry → ℕ) → total (λ a. total f a.pushed) views ≡ total (λ a. total f a.popped) views + (home_weight f homes + total (λ a. total f (content_of a.held)) views) = λ f. omega (
        arith,
        o.balanced f,
        balance f,
        total-set (λ (a : SeatMemory). total f a.pushed) s.seats id v w me,
        total-set (λ (a : SeatMemory). total f a.popped) s.seats id v w me,
        total-set (λ (a : SeatMemory). total f (content_of a.held)) s.seats id v w me,
      ) in
      record {
        one_word_per_heap = width;
        fits = fits;
        held_inside = λ j a at. ⊎_elim (λ (t : (j ≡ id) × (w ≡ a)). subst (λ (b : SeatMemory). IsInside (length homes) b.held) t.1 here)
            (λ (t : (j ≢ id) × (get_elem? s.seats j ≡ maybe.some a)). subst (λ (n : ℕ). IsInside n a.held) (sym long) (o.held_inside j a t.1)) (at_set s.seats id j w a at);
        balanced = balanced;
        known_all = λ e there.
            let even = balanced (only e) in
            let moved = total-set (λ (a : SeatMemory). times e a.pushed) s.seats id v w me in
            let part = term_le (λ (a : SeatMemory). times e a.pushed) s.seats id v me in
            dite (dec_lt 0 (total (λ (a : SeatMemory). times e a.pushed) s.seats)) (λ before. o.known_all e (omega arith)) (λ none. new e (omega arith) (omega arith));
        shares_add_up = omega (arith, o.shares_add_up, total-set (λ (a : SeatMemory). a.shares) s.seats id v w me);
        live = λ j a at none. ⊎_elim (λ (t : (j ≡ id) × (w ≡ a)). absurd (omega (arith, ap (λ (b : SeatMemory). b.shares) t.1))) (λ (t : (j ≢ id) × (get_elem? s.seats j ≡ maybe.some a)). o.live j a t.1 none) (at_set s.seats id j w a at);
        fresh = λ j a at whole. ⊎_elim (λ (t : (j ≡ id) × (w ≡ a)). subst (λ (b : SeatMemory). AreWords words b.seen) t.1 (seen (omega (arith, ap (λ (b : SeatMemory). b.shares) t.1))))
            (λ (t : (j ≢ id) × (get_elem? s.seats j ≡ maybe.some a)). absurd (not_all s.seats id j v a o.shares_add_up t.0 me t.1 live whole)) (at_set s.seats id j w a at);
      }

  -- the seats that hold heap k, if one seat's account changes and it holds as many as before
  same_holders : (views : List SeatMemory) (id : ℕ) (v w : SeatMemory) (k : ℕ) → get_elem? views id ≡ maybe.some v → holds_heap k w ≡ holds_heap k v → total (holds_heap k) views ≡ total (holds_heap k) (set views id w)
  same_holders views id v w k me same = omega (arith, total-set (holds_heap k) views id v w me)

  -- no word and no heap changes
  unmoved : (s : Core) (o : IsLawful known kind s) (id : ℕ) (v w : SeatMemory) → get_elem? s.seats id ≡ maybe.some v → 0 < v.shares → w.shares ≡ v.shares → w.pushed ≡ v.pushed → w.popped ≡ v.popped → w.held ≡ v.held
      → (v.shares ≡ SHARES → AreWords s.words w.seen) → IsLawful known kind (board s.words s.homes (set s.seats id w))
  unmoved s o id v w me live shares a b c seen =
      changed s o id v w s.words s.homes me live shares o.one_word_per_heap refl (subst (IsInside (length s.homes)) (sym c) (o.held_inside id v me))
      (λ k home at. subst (λ (n : ℕ). Fits kind (get_or s.words k 0) n home) (same_holders s.seats id v w k me (ap (count_of k) c)) (o.fits k home at))
      (λ f. omega (arith, ap (total f) a, ap (total f) b, ap (λ (h : Option Held). total f (content_of h)) c)) (λ e none some. absurd (omega (arith, ap (times e) a))) seen

  pub there : (homes : Homes) (k : ℕ) → k < length homes → (h : maybe.Option (List Entry)) × (get_elem? homes k ≡ maybe.some h)
  there [] k l = absurd (omega arith)
  there (h ∷ hs) zero l = (h, refl)
  there (h ∷ hs) (suc k) l = there hs k (omega arith)

  -- the word and the home of heap k change, and one seat's account
  fits_changed : (s : Core) (o : IsLawful known kind s) (id k n : ℕ) (v w : SeatMemory) (h : maybe.Option (List Entry)) → k < length s.homes → get_elem? s.seats id ≡ maybe.some v
      → ((r : ℕ) → r ≢ k → holds_heap r w ≡ holds_heap r v) → Fits kind n (total (holds_heap k) (set s.seats id w)) h
      → (r : ℕ) (home : maybe.Option (List Entry)) → get_elem? (set s.homes k h) r ≡ maybe.some home → Fits kind (get_or (set s.words k n) r 0) (total (holds_heap r) (set s.seats id w)) home
  fits_changed s o id k n v w h near me others here r home at = ⊎_elim
      (λ (t : (r ≡ k) × (h ≡ home)).
      let word : get_or (set s.words k n) k 0 ≡ n = get_or-set_same s.words k n 0 (omega (arith, o.one_word_per_heap)) in
      subst (λ (y : maybe.Option (List Entry)). Fits kind (get_or (set s.words k n) r 0) (total (holds_heap r) (set s.seats id w)) y) t.1
      (subst (λ (q : ℕ). Fits kind (get_or (set s.words k n) q 0) (total (holds_heap q) (set s.seats id w)) h) (sym t.0)
      (subst (λ (x : ℕ). Fits kind x (total (holds_heap k) (set s.seats id w)) h) (sym word) here)))
      (λ (t : (r ≢ k) × (get_elem? s.homes r ≡ maybe.some home)).
      let ne = t.0 in
      let apart : r + 1 ≢ k + 1 = λ e. ne (omega arith) in
      let word : get_or (set s.words k n) r 0 ≡ get_or s.words r 0 = get_or-set_other s.words k r n 0 ne in
      subst (λ (x : ℕ). Fits kind x (total (holds_heap r) (set s.seats id w)) home) (sym word)
      (subst (λ (x : ℕ). Fits kind (get_or s.words r 0) x home) (same_holders s.seats id v w r me (others r ne)) (o.fits r home t.1)))
      (at_set s.homes k r h home at)

  -- if no seat holds heap k, it is at home
  pub unheld_home : (s : Core) (o : IsLawful known kind s) (k : ℕ) (h : maybe.Option (List Entry)) → get_elem? s.homes k ≡ maybe.some h → total (holds_heap k) s.seats ≡ 0
      → (es : List Entry) × (h ≡ maybe.some es) × Shows kind (get_or s.words k 0) es
  unheld_home s o k maybe.none at none = let f = o.fits k maybe.none at in absurd (omega (arith, f.1))
  unheld_home s o k (maybe.some es) at none = (es, refl, (o.fits k (maybe.some es) at).0)

  -- a heap whose word is not OUT is at home
  pub taken_home : (s : Core) (o : IsLawful known kind s) (k : ℕ) (h : maybe.Option (List Entry)) → get_elem? s.homes k ≡ maybe.some h → get_or s.words k 0 ≢ OUT
      → (es : List Entry) × (h ≡ maybe.some es) × Shows kind (get_or s.words k 0) es × (total (holds_heap k) s.seats ≡ 0)
  taken_home s o k maybe.none at here = absurd (here (o.fits k maybe.none at).0)
  taken_home s o k (maybe.some es) at here = let f = o.fits k (maybe.some es) at in (es, refl, f.0, f.1)

  -- and one that a seat holds is out
  out_home : (s : Core) (o : IsLawful known kind s) (k : ℕ) (h : maybe.Option (List Entry)) → get_elem? s.homes k ≡ maybe.some h → 0 < total (holds_heap k) s.seats → (h ≡ maybe.none) × (total (holds_heap k) s.seats ≡ 1)
  out_home s o k maybe.none at some = (refl, (o.fits k maybe.none at).1)
  out_home s o k (maybe.some es) at some = let f = o.fits k (maybe.some es) at in absurd (omega (arith, f.1))

  content_at : (homes : Homes) (k : ℕ) (es : List Entry) → get_elem? homes k ≡ maybe.some (maybe.some es) → slice_index_or (map at_home homes) k [] ≡ es
  content_at [] k es e = absurd (some-ne-none _ (sym e))
  content_at (h ∷ hs) zero es e = ap at_home (some-injective h (maybe.some es) e)
  content_at (h ∷ hs) (suc k) es e = content_at hs k es e

  seen_contents : (s : Core) (o : IsLawful known kind s) → ((k : ℕ) → total (holds_heap k) s.seats ≡ 0) → (pairs : List (ℕ × ℕ)) → AreWords s.words pairs
      → AllByRecursion (λ p. p.0 < length s.homes → Shows kind p.1 (slice_index_or (map at_home s.homes) p.0 [])) pairs
  seen_contents s o none [] h = tt
  seen_contents s o none (p ∷ ps) h = (
    (λ inside. let t = there s.homes p.0 inside in let c = unheld_home s o p.0 t.0 t.1 (none p.0) in
        subst (λ (es : List Entry). Shows kind p.1 es) (sym (content_at s.homes p.0 c.0 (t.1 ∙ ap maybe.some c.1))) (subst (λ (n : ℕ). Shows kind n c.0) h.0 c.2)),
    seen_contents s o none ps h.1,
  )

  -- if a seat that holds nothing has all shares, no heap is out
  pub unheld_all : (s : Core) (o : IsLawful known kind s) (id : ℕ) (a : SeatMemory) → get_elem? s.seats id ≡ maybe.some a → a.shares ≡ SHARES → a.held ≡ None → (k : ℕ) → total (holds_heap k) s.seats ≡ 0
  unheld_all s o id a me whole rests k = total_alone (holds_heap k) (λ (b : SeatMemory). b.shares) s.seats id a me (omega (arith, o.shares_add_up)) (λ j b at none. ap (holds_heap k) (o.live j b at none)) ∙ ap (count_of k) rests

  -- what a seat with all shares pushed is what it popped and what the heaps have, at home or held
  pub balance_whole : (s : Core) (o : IsLawful known kind s) (id : ℕ) (a : SeatMemory) → get_elem? s.seats id ≡ maybe.some a → a.shares ≡ SHARES → (f : Entry → ℕ)
      → total f a.pushed ≡ total f a.popped + (home_weight f s.homes + total f (content_of a.held))
  balance_whole s o id a me whole f =
      let alone : (f : SeatMemory → ℕ) → f nobody ≡ 0 → total f s.seats ≡ f a = λ f z. total_alone f (λ (b : SeatMemory). b.shares) s.seats id a me (omega (arith, o.shares_add_up)) (λ j b at none. ap f (o.live j b at none) ∙ z) in
      omega (arith, o.balanced f, alone (λ b. total f b.pushed) refl, alone (λ b. total f b.popped) refl, alone (λ b. total f (content_of b.held)) refl)

  -- and if it holds nothing, what the heaps at home have
  pub balance_alone : (s : Core) (o : IsLawful known kind s) (id : ℕ) (a : SeatMemory) → get_elem? s.seats id ≡ maybe.some a → a.shares ≡ SHARES → a.held ≡ None → (f : Entry → ℕ)
      → total f a.pushed ≡ total f a.popped + total (total f) (map at_home s.homes)
  balance_alone s o id a me whole rests f =
      omega (arith, balance_whole s o id a me whole f, ap (λ (h : Option Held). total f (content_of h)) rests, total-map (total f) at_home s.homes)

  -- what a seat with all shares knows
  pub surveys : (s : Core) (o : IsLawful known kind s) (id : ℕ) (a : SeatMemory) → get_elem? s.seats id ≡ maybe.some a → a.shares ≡ SHARES → a.held ≡ None → (pairs : List (ℕ × ℕ)) → AreWords s.words pairs
      → Surveys known kind (length s.homes) (seat_state a.shares a.pushed a.popped a.held pairs a.last_take)
  surveys s o id a me whole rests pairs words =
      let alone : (f : SeatMemory → ℕ) → f nobody ≡ 0 → total f s.seats ≡ f a = λ f z. total_alone f (λ (b : SeatMemory). b.shares) s.seats id a me (omega (arith, o.shares_add_up)) (λ j b at none. ap f (o.live j b at none) ∙ z) in
      let unheld = unheld_all s o id a me whole rests in
      record {
        contents = map at_home s.homes;
        width = length-map s.homes at_home;
        left = balance_alone s o id a me whole rests;
        known_all = λ e some. o.known_all e (omega (arith, alone (λ b. times e b.pushed) refl));
        seen = seen_contents s o unheld pairs words;
      }

  -- a heap's word is at most OUT
  pub word_low : (s : Core) (o : IsLawful known kind s) (k : ℕ) → k < length s.homes → get_or s.words k 0 ≤ OUT
  word_low s o k inside = let t = there s.homes k inside in fits_low kind _ _ t.0 (o.fits k t.0 t.1)

  -- the entries of a heap are known
  pub known_in : (s : Core) (o : IsLawful known kind s) (k : ℕ) (es : List Entry) → get_elem? s.homes k ≡ maybe.some (maybe.some es) → AreKnown known es
  known_in s o k es at e some = o.known_all e (omega (arith, o.balanced (only e), term_le (λ h. total (only e) (at_home h)) s.homes k (maybe.some es) at))

  -- a seat loads the word of heap k
  pub load_lawful : (s : Core) (o : IsLawful known kind s) (id k : ℕ) (v : SeatMemory) → get_elem? s.seats id ≡ maybe.some v → 0 < v.shares
      → IsLawful known kind (board s.words s.homes (set s.seats id (saw v k (get_or s.words k 0))))
  load_lawful s o id k v me live = unmoved s o id v (saw v k (get_or s.words k 0)) me live refl refl refl refl (λ whole. (refl, o.fresh id v me whole))

  -- it takes heap k, which is at home
  pub take_lawful : (s : Core) (o : IsLawful known kind s) (id k : ℕ) (v : SeatMemory) (es : List Entry) → get_elem? s.seats id ≡ maybe.some v → 0 < v.shares → v.held ≡ None → get_elem? s.homes k ≡ maybe.some (maybe.some es)
      → IsLawful known kind (board (set s.words k OUT) (set s.homes k maybe.none) (set s.seats id (took v k es)))
  take_lawful s o id k v es me live rests at =
      let w : SeatMemory = took v k es in
      let one : holds_heap k w ≡ 1 = ap (λ b. cond b 1 0) (eq-eqb k k refl) in
      let was : holds_heap k v ≡ 0 = ap (count_of k) rests in
      let alone = o.fits k (maybe.some es) at in
      changed s o id v w (set s.words k OUT) (set s.homes k maybe.none) me live refl
      (length-set s.words k OUT ∙ (o.one_word_per_heap ∙ sym (length-set s.homes k maybe.none)))
      (length-set s.homes k maybe.none)
      (subst (λ (n : ℕ). k < n) (sym (length-set s.homes k maybe.none)) (inside s.homes k (maybe.some es) at))
      (fits_changed s o id k OUT v w maybe.none (inside s.homes k (maybe.some es) at) me (λ r ne. ap (λ b. cond b 1 0) (ne_eqb k r (λ e. ne (sym e))) ∙ sym (ap (count_of r) rests)) (refl, omega (arith, total-set (holds_heap k) s.seats id v w me, alone.1)))
      (λ f. omega (arith, total-set (λ h. total f (at_home h)) s.homes k (maybe.some es) maybe.none at, ap (λ (h : Option Held). total f (content_of h)) rests))
      (λ e none some. absurd (omega arith))
      (λ _. tt)

  -- or fails to
  pub miss_lawful : (s : Core) (o : IsLawful known kind s) (id : ℕ) (v : SeatMemory) → get_elem? s.seats id ≡ maybe.some v → 0 < v.shares → IsLawful known kind (board s.words s.homes (set s.seats id (forgot v)))
  miss_lawful s o id v me live = unmoved s o id v (forgot v) me live refl refl refl refl (λ _. tt)

  -- a heap that a seat holds is one of the pool's
  held_inside_at : (s : Core) (o : IsLawful known kind s) (id k : ℕ) (v : SeatMemory) (es : List Entry) → get_elem? s.seats id ≡ maybe.some v → v.held ≡ Some (held_at k es) → k < length s.homes
  held_inside_at s o id k v es me holds = subst (IsInside (length s.homes)) holds (o.held_inside id v me)

  -- The seat that holds heap k returns it with the entries es', under a word of them.
  puts_back : (s : Core) (o : IsLawful known kind s) (id k word : ℕ) (v w : SeatMemory) (es es' : List Entry) → Shows kind word es' → get_elem? s.seats id ≡ maybe.some v → 0 < v.shares → v.held ≡ Some (held_at k es)
      → w.shares ≡ v.shares → w.held ≡ None → w.seen ≡ []
      → ((f : Entry → ℕ) → total f w.pushed + (total f v.popped + total f es) ≡ total f v.pushed + (total f w.popped + total f es'))
      → ((e : Entry) → times e v.pushed ≡ 0 → 0 < times e w.pushed → IsKnown known e)
      → IsLawful known kind (board (set s.words k word) (set s.homes k (maybe.some es')) (set s.seats id w))
  puts_back s o id k word v w es es' shown me live holds shares none blank balance new =
      let near = held_inside_at s o id k v es me holds in
      let mine : holds_heap k v ≡ 1 = ap (count_of k) holds ∙ ap (λ b. cond b 1 0) (eq-eqb k k refl) in
      let t = there s.homes k near in
      let out = out_home s o k t.0 t.1 (omega (arith, term_le (holds_heap k) s.seats id v me)) in
      let at : get_elem? s.homes k ≡ maybe.some maybe.none = t.1 ∙ ap maybe.some out.0 in
      changed s o id v w (set s.words k word) (set s.homes k (maybe.some es')) me live shares
      (length-set s.words k word ∙ (o.one_word_per_heap ∙ sym (length-set s.homes k (maybe.some es'))))
      (length-set s.homes k (maybe.some es'))
      (subst (IsInside (length (set s.homes k (maybe.some es')))) (sym none) tt)
      (fits_changed s o id k word v w (maybe.some es') near me
      (λ r ne. ap (count_of r) none ∙ sym (ap (count_of r) holds ∙ ap (λ b. cond b 1 0) (ne_eqb k r (λ e. ne (sym e)))))
      (shown, omega (arith, total-set (holds_heap k) s.seats id v w me, out.1, ap (count_of k) none)))
      (λ f. omega (
        arith,
        balance f,
        total-set (λ h. total f (at_home h)) s.homes k maybe.none (maybe.some es') at,
        ap (λ (h : Option Held). total f (content_of h)) holds,
        ap (λ (h : Option Held). total f (content_of h)) none,
      ))
      new
      (λ _. subst (λ (l : List (ℕ × ℕ)). AreWords (set s.words k word) l) (sym blank) tt)

  pub push_lawful : (s : Core) (o : IsLawful known kind s) (id k word : ℕ) (v : SeatMemory) (es es' added : List Entry) → Shows kind word es' → get_elem? s.seats id ≡ maybe.some v → 0 < v.shares → v.held ≡ Some (held_at k es) → SameEntries es' (added ++ es) → AreKnown known added
      → IsLawful known kind (board (set s.words k word) (set s.homes k (maybe.some es')) (set s.seats id (pushed v added)))
  push_lawful s o id k word v es es' added shown me live holds same may =
      puts_back s o id k word v (pushed v added) es es' shown me live holds refl refl refl
      (λ f. omega (arith, same f, total-append f added es, total-append f added v.pushed))
      (λ x none some. may x (omega (arith, total-append (only x) added v.pushed)))

  pub pop_lawful : (s : Core) (o : IsLawful known kind s) (id k word : ℕ) (v : SeatMemory) (es es' gone : List Entry) → Shows kind word es' → get_elem? s.seats id ≡ maybe.some v → 0 < v.shares → v.held ≡ Some (held_at k es) → SameEntries es (gone ++ es')
      → IsLawful known kind (board (set s.words k word) (set s.homes k (maybe.some es')) (set s.seats id (popped v gone)))
  pop_lawful s o id k word v es es' gone shown me live holds same =
      puts_back s o id k word v (popped v gone) es es' shown me live holds refl refl refl (λ f. omega (arith, same f, total-append f gone es', total-append f gone v.popped)) (λ x none some. absurd (omega arith))

  pub back_lawful : (s : Core) (o : IsLawful known kind s) (id k word : ℕ) (v : SeatMemory) (es : List Entry) → Shows kind word es → get_elem? s.seats id ≡ maybe.some v → 0 < v.shares → v.held ≡ Some (held_at k es)
      → IsLawful known kind (board (set s.words k word) (set s.homes k (maybe.some es)) (set s.seats id (gave v)))
  back_lawful s o id k word v es shown me live holds =
      puts_back s o id k word v (gave v) es es shown me live holds refl refl refl (λ f. omega arith) (λ x none some. absurd (omega arith))

  -- a seat is added that holds nothing
  pub split_lawful : (s : Core) (o : IsLawful known kind s) (id : ℕ) (v : SeatMemory) → get_elem? s.seats id ≡ maybe.some v → 2 ≤ v.shares → IsLawful known kind (board s.words s.homes (set s.seats id (left_of v) ++ newcomer v ∷ []))
  split_lawful s o id v me many =
      let views : List SeatMemory = set s.seats id (left_of v) in
      let added : (f : SeatMemory → ℕ) → total f (views ++ newcomer v ∷ []) + f v ≡ total f s.seats + f (left_of v) + f (newcomer v) = λ f. omega (arith, total-append f views (newcomer v ∷ []), total-set f s.seats id v (left_of v) me) in
      record {
        one_word_per_heap = o.one_word_per_heap;
        fits = λ k home at. subst (λ (n : ℕ). Fits kind (get_or s.words k 0) n home) (omega (arith, added (holds_heap k))) (o.fits k home at);
        held_inside = λ j a at. ⊎_elim
            (λ (at' : get_elem? views j ≡ maybe.some a). ⊎_elim (λ (t : (j ≡ id) × (left_of v ≡ a)). subst (λ (b : SeatMemory). IsInside (length s.homes) b.held) t.1 (o.held_inside id v me)) (λ (t : (j ≢ id) × (get_elem? s.seats j ≡ maybe.some a)). o.held_inside j a t.1) (at_set s.seats id j (left_of v) a at'))
            (λ (e : newcomer v ≡ a). subst (λ (b : SeatMemory). IsInside (length s.homes) b.held) e tt) (at_snoc views (newcomer v) a j at);
        balanced = λ f. omega (arith, o.balanced f, added (λ a. total f a.pushed), added (λ a. total f a.popped), added (λ a. total f (content_of a.held)));
        known_all = λ e some. o.known_all e (omega (arith, added (λ a. times e a.pushed), added (λ a. times e a.popped), added (λ a. times e (content_of a.held))));
        shares_add_up = omega (arith, o.shares_add_up, added (λ a. a.shares));
        live = λ j a at none. ⊎_elim
            (λ (at' : get_elem? views j ≡ maybe.some a). ⊎_elim (λ (t : (j ≡ id) × (left_of v ≡ a)). absurd (omega (arith, ap (λ (b : SeatMemory). b.shares) t.1))) (λ (t : (j ≢ id) × (get_elem? s.seats j ≡ maybe.some a)). o.live j a t.1 none) (at_set s.seats id j (left_of v) a at'))
            (λ (e : newcomer v ≡ a). absurd (omega (arith, ap (λ (b : SeatMemory). b.shares) e))) (at_snoc views (newcomer v) a j at);
        fresh = λ j a at whole. ⊎_elim
            (λ (at' : get_elem? views j ≡ maybe.some a). ⊎_elim (λ (t : (j ≡ id) × (left_of v ≡ a)). subst (λ (b : SeatMemory). AreWords s.words b.seen) t.1 tt)
            (λ (t : (j ≢ id) × (get_elem? s.seats j ≡ maybe.some a)). o.fresh j a t.1 whole) (at_set s.seats id j (left_of v) a at'))
            (λ (e : newcomer v ≡ a). subst (λ (b : SeatMemory). AreWords s.words b.seen) e tt) (at_snoc views (newcomer v) a j at);
      }

  pub join_lawful : (s : Core) (o : IsLawful known kind s) (id : ℕ) (v : SeatMemory) (other : ℕ) (w : SeatMemory) → get_elem? s.seats id ≡ maybe.some v → 0 < v.shares → w.held ≡ None → get_elem? (set s.seats id (joined v w)) other ≡ maybe.some w
      → IsLawful known kind (board s.words s.homes (set (set s.seats id (joined v w)) other nobody))
  join_lawful s o id v other w me live rests them =
      let mid : List SeatMemory = set s.seats id (joined v w) in
      let views : List SeatMemory = set mid other nobody in
      let merged : (f : SeatMemory → ℕ) → total f views + (f v + f w) ≡ total f s.seats + (f (joined v w) + f nobody) = λ f. omega (arith, total-set f s.seats id v (joined v w) me, total-set f mid other w nobody them) in
      record {
        one_word_per_heap = o.one_word_per_heap;
        fits = λ k home at. subst (λ (n : ℕ). Fits kind (get_or s.words k 0) n home) (omega (arith, merged (holds_heap k), ap (count_of k) rests)) (o.fits k home at);
        held_inside = λ j a at. ⊎_elim (λ (t : (j ≡ other) × (nobody ≡ a)). subst (λ (b : SeatMemory). IsInside (length s.homes) b.held) t.1 tt)
            (λ (t : (j ≢ other) × (get_elem? mid j ≡ maybe.some a)). ⊎_elim (λ (u : (j ≡ id) × (joined v w ≡ a)). subst (λ (b : SeatMemory). IsInside (length s.homes) b.held) u.1 (o.held_inside id v me)) (λ (u : (j ≢ id) × (get_elem? s.seats j ≡ maybe.some a)). o.held_inside j a u.1) (at_set s.seats id j (joined v w) a t.1))
            (at_set mid other j nobody a at);
        balanced = λ f. omega (
          arith,
          o.balanced f,
          merged (λ a. total f a.pushed),
          merged (λ a. total f a.popped),
          merged (λ a. total f (content_of a.held)),
          total-append f v.pushed w.pushed,
          total-append f v.popped w.popped,
          ap (λ (h : Option Held). total f (content_of h)) rests,
        );
        known_all = λ e some. o.known_all e (omega (
          arith,
          merged (λ a. times e a.pushed),
          merged (λ a. times e a.popped),
          merged (λ a. times e (content_of a.held)),
          total-append (only e) v.pushed w.pushed,
          total-append (only e) v.popped w.popped,
          ap (λ (h : Option Held). times e (content_of h)) rests,
        ));
        shares_add_up = omega (arith, o.shares_add_up, merged (λ a. a.shares));
        live = λ j a at none. ⊎_elim (λ (t : (j ≡ other) × (nobody ≡ a)). sym t.1)
            (λ (t : (j ≢ other) × (get_elem? mid j ≡ maybe.some a)). ⊎_elim (λ (u : (j ≡ id) × (joined v w ≡ a)). absurd (omega (arith, ap (λ (b : SeatMemory). b.shares) u.1))) (λ (u : (j ≢ id) × (get_elem? s.seats j ≡ maybe.some a)). o.live j a u.1 none) (at_set s.seats id j (joined v w) a t.1))
            (at_set mid other j nobody a at);
        fresh = λ j a at whole. ⊎_elim (λ (t : (j ≡ other) × (nobody ≡ a)). subst (λ (b : SeatMemory). AreWords s.words b.seen) t.1 tt)
            (λ (t : (j ≢ other) × (get_elem? mid j ≡ maybe.some a)). ⊎_elim (λ (u : (j ≡ id) × (joined v w ≡ a)). subst (λ (b : SeatMemory). AreWords s.words b.seen) u.1 tt) (λ (u : (j ≢ id) × (get_elem? s.seats j ≡ maybe.some a)). o.fresh j a u.1 whole) (at_set s.seats id j (joined v w) a t.1))
            (at_set mid other j nobody a at);
      }

  -- a new pool
  length-empty_homes : (n : ℕ) → length (empty_homes n) ≡ n
  length-empty_homes zero = refl
  length-empty_homes (suc n) = ap suc (length-empty_homes n)

  opened_home : (n k : ℕ) (home : maybe.Option (List Entry)) → get_elem? (empty_homes n) k ≡ maybe.some home → (home ≡ maybe.some []) × (k < n)
  opened_home zero k home at = absurd (some-ne-none home (sym at))
  opened_home (suc n) zero home at = (sym (some-injective (maybe.some []) home at), omega arith)
  opened_home (suc n) (suc k) home at = let t = opened_home n k home at in (t.0, omega (arith, t.1))

  opened_weight : (f : Entry → ℕ) (n : ℕ) → home_weight f (empty_homes n) ≡ 0
  opened_weight f zero = refl
  opened_weight f (suc n) = omega (arith, opened_weight f n)

  one_seat : (j : ℕ) (a : SeatMemory) → get_elem? (first_state ∷ []) j ≡ maybe.some a → first_state ≡ a
  one_seat zero a at = some-injective first_state a at
  one_seat (suc j) a at = absurd (some-ne-none a (sym at))

  pub opening_lawful : (n : ℕ) → IsLawful known kind (opening n)
  opening_lawful n = record {
    one_word_per_heap = length-replicate n EMPTY ∙ sym (length-empty_homes n);
    fits = λ k home at. let t = opened_home n k home at in subst (λ (h : maybe.Option (List Entry)). Fits kind (get_or (replicate n EMPTY) k 0) 0 h) (sym t.0) (subst (λ (x : ℕ). Shows kind x []) (sym (get_or-replicate n k EMPTY 0 t.1)) (shown_none kind), refl);
    held_inside = λ j a at. subst (λ (b : SeatMemory). IsInside (length (empty_homes n)) b.held) (one_seat j a at) tt;
    balanced = λ f. omega (arith, opened_weight f n);
    known_all = λ e some. absurd (omega (arith, opened_weight (only e) n));
    shares_add_up = refl;
    live = λ j a at none. absurd (omega (arith, ap (λ (b : SeatMemory). b.shares) (one_seat j a at)));
    fresh = λ j a at whole. subst (λ (b : SeatMemory). AreWords (replicate n EMPTY) b.seen) (one_seat j a at) tt;
  }
