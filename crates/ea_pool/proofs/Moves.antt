-- Each kind of step is an event of the pool, and shows what it promises.
use Rattle.std.proofs.Common.{◌≡◌, ◌≢◌, ◌≤◌, ℕ, zero, suc, ◌+◌, ◌*◌, ◌<◌, true, false, List, [], ◌∷◌, ◌++◌, map, replicate, set, length, get_or, sym, refl, ap, ◌∙◌, arith, subst, eqb, eq-eqb, ne_eqb, Option, Some, None, length-set, get_or-set_same, get_or-set_other}
use Rattle.std.proofs.lemmas.List.{set-get_or, length-replicate, get_or-replicate}
use Rattle.std.specs.List.{AllByRecursion}
use mathlib.Core.Logic.{dite}
use native.Mathlib.Decide.{ℕ_discrete}
use mathlib.Core.Option as maybe
use mathlib.Core.Option.{some-injective, some-ne-none}
use lib.ListN.{get_elem?}
use prog.Atomic.{either}
use Rattle.atomic_table.specs.Table.{State, step, Act, keeps, takes, gives, Valid, stepped, carried_after, rest, Allows, Splits, Joins, Final, Seen, opening as opening_table}
use Rattle.atomic_table.proofs.Lists.{set_else, exchanged}
use Rattle.ea_machine.specs.Totals.{total}
use Rattle.ea_machine.proofs.Totals.{term_le, total-append, total-map}
use Rattle.ea_machine.proofs.Places.{value_at, contains_at}
use Rattle.ea_pool.specs.declared.heap.entry.Entry.{Entry}
use Rattle.ea_pool.specs.declared.shared.account.Held.{Held}
use Rattle.ea_pool.specs.declared.shared.account.SeatMemory.{SeatMemory}
use Rattle.ea_base.specs.declared.limits.TheConstants.{SHARES}
use Rattle.ea_pool.specs.declared.shared.words.TheConstants.{OUT, EMPTY, WORDS_APART}
use Rattle.ea_pool.specs.Entries.{only, times, SameEntries, InSomeOrder, IsKnown, AreKnown, gathered}
use Rattle.ea_pool.specs.Kinds.{HeapKind, Shows}
use Rattle.ea_pool.specs.States.{first_state, nobody, content_of, held_at, IfHeld, saw, forgot, took, gave, pushed, popped, left_of, newcomer, joined}
use Rattle.ea_pool.specs.Core.{Core, at_home, AreWords, IsLawful}
use Rattle.ea_pool.specs.Events.{load, take, give_pushed, give_popped, give_back, split, join, opening, state_of, home_of, with_taken, with_home, with_state, after, MayCome, IsReached}
use Rattle.ea_pool.specs.Pools.{books, AreLeft, IsRunEnd}
use Rattle.ea_pool.specs.Plays.{word_place, AreSpread, IsPoolState, Place, value_of, Surveys, Looked, Took, Taken, PutsPushed, PutsPopped, GavePushed, GavePopped, GaveBack}
use Rattle.ea_pool.proofs.Weights.{added_same}
use Rattle.ea_pool.proofs.Lawful.{Homes, board, empty_homes, unheld_all, balance_alone, balance_whole, surveys, word_low, known_in, unheld_home}
use Rattle.ea_pool.proofs.Runs.{home_at, reached_lawful, reached_next, reached_take, opening_reached}

abbrev Board : Type 0
Board = State (List Entry) SeatMemory

-- one word of a heap changes
spread_set : (all words : List ℕ) (k n : ℕ) → AreSpread all words → k < length words → AreSpread (set all (word_place k) n) (set words k n)
spread_set all words k n h near = record {
  room = length-set all (word_place k) n ∙ (h.room ∙ ap (λ (l : ℕ). WORDS_APART * (l + 1)) (sym (length-set words k n)));
  each = λ r inside. let inside' : r < length words = subst (λ (l : ℕ). r < l) (length-set words k n) inside in dite (ℕ_discrete r k)
      (λ e. subst (λ (i : ℕ). get_or (set all (word_place k) n) (word_place i) 0 ≡ get_or (set words k n) i 0) (sym e)
      (get_or-set_same all (word_place k) n 0 (omega (arith, h.room)) ∙ sym (get_or-set_same words k n 0 near)))
      (λ ne. let apart : word_place r ≢ word_place k = λ e. ne (omega arith) in
      get_or-set_other all (word_place k) (word_place r) n 0 apart ∙ (h.each r inside' ∙ sym (get_or-set_other words k r n 0 ne)));
}

map-replicate : (n : ℕ) → map maybe.some (replicate n []) ≡ empty_homes n
map-replicate zero = refl
map-replicate (suc n) = ap (λ (l : Homes). maybe.some [] ∷ l) (map-replicate n)

-- the word seen of the heap that is tried is the word found
pub hits : (k r seen : ℕ) (pairs : List (ℕ × ℕ)) → AllByRecursion (λ p. word_place k ≡ word_place p.0 → r ≡ p.1) pairs → AllByRecursion (λ p. k ≡ p.0 → seen ≡ p.1 → eqb r seen ≡ true) pairs
hits k r seen [] h = tt
hits k r seen (p ∷ ps) h = ((λ here is. eq-eqb r seen (h.0 (ap word_place here) ∙ sym is)), hits k r seen ps h.1)

found : (words : List ℕ) (k x : ℕ) → x ≡ get_or words k 0 → (pairs : List (ℕ × ℕ)) → AreWords words pairs → AllByRecursion (λ p. word_place k ≡ word_place p.0 → x ≡ p.1) pairs
found words k x is [] h = tt
found words k x is (p ∷ ps) h = ((λ e. let same : k ≡ p.0 = omega arith in is ∙ (ap (λ (i : ℕ). get_or words i 0) same ∙ h.0)), found words k x is ps h.1)

module _ (known : ℕ → ℕ → Type 0) (kind : HeapKind) (heaps : ℕ) where
  abbrev Rule : Board → Type 0
  Rule = IsPoolState known kind heaps

  -- what the seat that steps knows
  mine : (s : Board) (h : Rule s) (id : ℕ) (v : SeatMemory) → get_elem? s.views id ≡ maybe.some v → v ≡ state_of h.core id
  mine s h id v at = sym (ap (λ (l : List SeatMemory). get_or l id nobody) (sym h.seats) ∙ value_at s.views id v nobody at)

  at_core : (s : Board) (h : Rule s) (id : ℕ) (v : SeatMemory) → get_elem? s.views id ≡ maybe.some v → get_elem? h.core.seats id ≡ maybe.some v
  at_core s h id v at = ap (λ (l : List SeatMemory). get_elem? l id) (sym h.seats) ∙ at

  lawful : (s : Board) (h : Rule s) → IsLawful known kind h.core
  lawful s h = reached_lawful known kind heaps h.core h.reached

  wide_core : (s : Board) (h : Rule s) (n : ℕ) → length s.homes ≡ n → length h.core.words ≡ n
  wide_core s h n wide = (lawful s h).one_word_per_heap ∙ (ap (λ (l : Homes). length l) (sym h.homes) ∙ wide)

  pub looks : (n id : ℕ) (m : Place) (k : ℕ) → 0 < m.0.shares → k < n → Allows Rule n id m (word_place k) (λ y. y) (Looked known kind (step n (word_place k) 0 0 maybe.none) m)
  looks n id m k live near s h wide me _ =
      let o = lawful s h in
      let own = mine s h id m.0 me in
      let me' = at_core s h id m.0 me in
      let long = wide_core s h n wide in
      let inside : k < length h.core.words = omega arith in
      let x : ℕ = get_or s.words (word_place k) 0 in
      let is : x ≡ get_or h.core.words k 0 = h.words.each k inside in
      let low : x ≤ OUT = subst (λ (y : ℕ). y ≤ OUT) (sym is) (word_low known kind h.core o k (omega (arith, o.one_word_per_heap))) in
      let words : m.0.shares ≡ SHARES → AreWords h.core.words ((k, x) ∷ m.0.seen) = λ whole. (sym is, o.fresh id m.0 me' whole) in (
        saw m.0 k x,
        keeps,
        tt,
        record {
          core = after h.core (load id k);
          reached = reached_next known kind heaps h.core (load id k) h.reached (subst (λ (w : SeatMemory). 0 < w.shares) own live, inside);
          words = subst (λ (ws : List ℕ). AreSpread ws h.core.words) (sym (set-get_or s.words (word_place k) 0)) h.words;
          homes = h.homes;
          seats = λ i. set (h.seats i) id (saw (own i) k (is i));
        },
        (
          (λ j e beside. let same : k ≡ j = omega arith in (ap (λ (i : ℕ). (saw m.0 i x, m.1)) same, low)),
          omega (arith, term_le (λ (a : SeatMemory). a.shares) h.core.seats id m.0 me', o.shares_add_up),
          λ whole rests. subst (λ (w : ℕ). Surveys known kind w (saw m.0 k x)) (sym o.one_word_per_heap ∙ long) (surveys known kind h.core o id m.0 me' whole rests ((k, x) ∷ m.0.seen) (words whole)),
        ),
      )

  Goes : Board → ℕ → ℕ → ℕ → Place → (ℕ → Place → Type 0) → ℕ → Type 0
  Goes s n i id m then new = (w : SeatMemory) × (a : Act (List Entry)) × Valid s.homes m.1 a × Rule (stepped s i new id m.1 w a) × then (get_or s.words i 0) (w, carried_after m.1 a)

  pub tries : (n id : ℕ) (m : Place) (k old : ℕ) → 0 < m.0.shares → k < n → old ≢ OUT → m.0.held ≡ None
      → Allows Rule n id m (word_place k) (λ y. either (eqb y old) OUT y) (Taken known kind (step n (word_place k) old OUT maybe.none) m)
  unfolding Goes
  tries n id m k old live near at_rest rests s h wide me _ =
      let o = lawful s h in
      let v : SeatMemory = m.0 in
      let own = mine s h id v me in
      let me' = at_core s h id v me in
      let long = wide_core s h n wide in
      let inside : k < length h.core.words = omega arith in
      let x : ℕ = get_or s.words (word_place k) 0 in
      let is : x ≡ get_or h.core.words k 0 = h.words.each k inside in
      let then = Taken known kind (step n (word_place k) old OUT maybe.none) m in
      let may : MayCome known kind h.core (take id k old) = (subst (λ (w : SeatMemory). 0 < w.shares) own live, inside, at_rest, subst (λ (w : SeatMemory). w.held ≡ None) own rests) in
      let all : v.shares ≡ SHARES → AllByRecursion (λ p. word_place k ≡ word_place p.0 → x ≡ p.1) v.seen = λ whole. found h.core.words k x is v.seen (o.fresh id v me' whole) in
      exchanged x old OUT (Goes s n (word_place k) id m then)
      (λ hit.
      let es : List Entry = home_of h.core k in
      let at : get_elem? h.core.homes k ≡ maybe.some (maybe.some es) = home_at known kind h.core o k inside (λ out. at_rest (sym hit ∙ (is ∙ out))) in
      let key : Shows kind x es = subst (λ (y : ℕ). Shows kind y es) (sym is) (o.fits k (maybe.some es) at).0 in (
        took v k es,
        takes k es,
        ap (λ (l : Homes). get_elem? l k) h.homes ∙ at,
        record {
          core = with_taken h.core id k;
          reached = reached_take known kind heaps h.core id k old h.reached may true (eq-eqb (get_or h.core.words k 0) old (sym is ∙ hit));
          words = spread_set s.words h.core.words k OUT h.words inside;
          homes = ap (λ (l : Homes). set l k maybe.none) h.homes;
          seats = λ i. set (h.seats i) id (took (own i) k es);
        },
        (
          (λ _ j e. let same : k ≡ j = omega arith in subst (λ (i : ℕ). Took known kind m i x (took v k es, (k, es) ∷ m.1)) same (es, refl, key, known_in known kind h.core o k es at)),
          (λ miss. absurd (miss hit)),
          all,
        ),
      ))
      (λ miss. (
        forgot v,
        keeps,
        tt,
        record {
          core = with_state h.core id (forgot (state_of h.core id));
          reached = reached_take known kind heaps h.core id k old h.reached may false (ne_eqb (get_or h.core.words k 0) old (λ e. miss (is ∙ e)));
          words = subst (λ (ws : List ℕ). AreSpread ws h.core.words) (sym (set-get_or s.words (word_place k) 0)) h.words;
          homes = h.homes;
          seats = λ i. set (h.seats i) id (forgot (own i));
        },
        ((λ hit. absurd (miss hit)), (λ _. refl), all),
      ))

  -- heap k comes home to a seat that is known to be v
  came_home : (core : Core) (id k word : ℕ) (v w : SeatMemory) (es content : List Entry) → v.held ≡ Some (held_at k es) → IsReached known kind heaps (with_home core id word content w v.held)
      → IsReached known kind heaps (board (set core.words k word) (set core.homes k (maybe.some content)) (set core.seats id w))
  came_home core id k word v w es content holds reached = subst (λ (held : Option Held). IsReached known kind heaps (with_home core id word content w held)) holds reached

  -- the same for the table, if a run leads to it
  back_home : (s : Board) (h : Rule s) (id k word : ℕ) (w w' : SeatMemory) (content : List Entry) → k < length h.core.words → w' ≡ w
      → IsReached known kind heaps (board (set h.core.words k word) (set h.core.homes k (maybe.some content)) (set h.core.seats id w))
      → Rule (record { words = set s.words (word_place k) word; homes = set s.homes k (maybe.some content); views = set s.views id w' })
  back_home s h id k word w w' content inside same reached = record {
    core = board (set h.core.words k word) (set h.core.homes k (maybe.some content)) (set h.core.seats id w);
    reached = reached;
    words = spread_set s.words h.core.words k word h.words inside;
    homes = ap (λ (l : Homes). set l k (maybe.some content)) h.homes;
    seats = λ i. set (h.seats i) id (same i);
  }

  module _ (n id k word : ℕ) (v : SeatMemory) (es es' : List Entry) (live : 0 < v.shares) (near : k < n) (holds : v.held ≡ Some (held_at k es)) (shown : Shows kind word es') where
    abbrev carrying : Place
    carrying = (v, (k, es') ∷ [])

    pub gives_pushed : (added : List Entry) → SameEntries es' (added ++ es) → AreKnown known added → Allows Rule n id carrying (word_place k) (λ _. word) (λ _. GavePushed (step n (word_place k) word 0 maybe.none) carrying word)
    gives_pushed added same may s h wide me _ =
        let own = mine s h id v me in
        let long = wide_core s h n wide in
        let inside : k < length h.core.words = omega arith in
        let event : MayCome known kind h.core (give_pushed id word added es') = subst (λ (u : SeatMemory). (0 < u.shares) × Shows kind word es' × IfHeld u.held (λ xs. SameEntries es' (added ++ xs)) × AreKnown known added) own
        (live, shown, subst (λ (held : Option Held). IfHeld held (λ xs. SameEntries es' (added ++ xs))) (sym holds) same, may) in
        let reached = subst (λ (u : SeatMemory). IsReached known kind heaps (with_home h.core id word es' (pushed u added) u.held)) (sym own) (reached_next known kind heaps h.core (give_pushed id word added es') h.reached event) in (
          pushed v added,
          gives,
          tt,
          back_home s h id k word (pushed v added) (pushed v added) es' inside refl (came_home h.core id k word v (pushed v added) es es' holds reached),
          λ ds other.
              let other' : SameEntries es' (ds ++ es) = λ f. other f ∙ ap (λ (h : Option Held). total f (ds ++ content_of h)) holds in
              (added, added_same added ds es' es same other', refl),
        )

    pub gives_popped : (gone : List Entry) → SameEntries es (gone ++ es') → Allows Rule n id carrying (word_place k) (λ _. word) (λ _. GavePopped known (step n (word_place k) word 0 maybe.none) carrying word)
    gives_popped gone same s h wide me _ =
        let o = lawful s h in
        let own = mine s h id v me in
        let long = wide_core s h n wide in
        let inside : k < length h.core.words = omega arith in
        let event : MayCome known kind h.core (give_popped id word gone es') = subst (λ (u : SeatMemory). (0 < u.shares) × Shows kind word es' × IfHeld u.held (λ xs. SameEntries xs (gone ++ es'))) own
        (live, shown, subst (λ (held : Option Held). IfHeld held (λ xs. SameEntries xs (gone ++ es'))) (sym holds) same) in
        let reached = subst (λ (u : SeatMemory). IsReached known kind heaps (with_home h.core id word es' (popped u gone) u.held)) (sym own) (reached_next known kind heaps h.core (give_popped id word gone es') h.reached event) in (
          popped v gone,
          gives,
          tt,
          back_home s h id k word (popped v gone) (popped v gone) es' inside refl (came_home h.core id k word v (popped v gone) es es' holds reached),
          λ ds other.
              let other' : SameEntries es (ds ++ es') = λ f. sym (ap (λ (h : Option Held). total f (content_of h)) holds) ∙ other f in
              let here = λ (e : Entry). ap (λ (h : Option Held). total (only e) (content_of h)) holds in (
                (gone, added_same gone ds es es' same other', refl),
                (λ e there. o.known_all e (omega (
                  arith,
                  o.balanced (only e),
                  term_le (λ (a : SeatMemory). total (only e) (content_of a.held)) h.core.seats id v (at_core s h id v me),
                  here e,
                  other' (only e),
                  total-append (only e) ds es',
                ))),
                λ whole e. omega (
                  arith,
                  balance_whole known kind h.core o id v (at_core s h id v me) whole (only e),
                  here e,
                  other' (only e),
                  total-append (only e) ds es',
                ),
              ),
        )

    pub gives_back : es' ≡ es → Allows Rule n id carrying (word_place k) (λ _. word) (λ _. GaveBack (step n (word_place k) word 0 maybe.none) carrying word)
    gives_back same s h wide me _ =
        let own = mine s h id v me in
        let long = wide_core s h n wide in
        let inside : k < length h.core.words = omega arith in
        let event : MayCome known kind h.core (give_back id word) = subst (λ (u : SeatMemory). (0 < u.shares) × IfHeld u.held (λ xs. Shows kind word xs)) own
        (live, subst (λ (held : Option Held). IfHeld held (λ xs. Shows kind word xs)) (sym holds) (subst (λ (xs : List Entry). Shows kind word xs) same shown)) in
        let reached = subst (λ (u : SeatMemory). IsReached known kind heaps (with_home h.core id word (content_of u.held) (gave u) u.held)) (sym own) (reached_next known kind heaps h.core (give_back id word) h.reached event) in
        let content : content_of v.held ≡ es' = ap content_of holds ∙ sym same in
        let reached' = subst (λ (xs : List Entry). IsReached known kind heaps (with_home h.core id word xs (gave v) v.held)) content reached in (
          gave v,
          gives,
          tt,
          back_home s h id k word (gave v) (gave v) es' inside refl (came_home h.core id k word v (gave v) es es' holds reached'),
          refl,
        )

  pub splits : (id : ℕ) (v : SeatMemory) → 1 < v.shares → Splits Rule id v (left_of v) (newcomer v)
  splits id v many s h me =
      let own = mine s h id v me in
      record {
        core = after h.core (split id);
        reached = reached_next known kind heaps h.core (split id) h.reached (subst (λ (w : SeatMemory). 2 ≤ w.shares) own many);
        words = h.words;
        homes = h.homes;
        seats = λ i. set (h.seats i) id (left_of (own i)) ++ newcomer (own i) ∷ [];
      }

  pub joins : (id : ℕ) (v : SeatMemory) (other : ℕ) (w : SeatMemory) → 0 < v.shares → 0 < w.shares → w.held ≡ None → Joins Rule id v other w (joined v w) nobody
  joins id v other w live other_live rests s h me apart them =
      let own = mine s h id v me in
      let theirs = mine s h other w (sym (set_else s.views id other (joined v w) apart) ∙ them) in
      record {
        core = after h.core (join id other);
        reached = reached_next known kind heaps h.core (join id other) h.reached
            (subst (λ (u : SeatMemory). 0 < u.shares) own live, subst (λ (u : SeatMemory). 0 < u.shares) theirs other_live, apart, subst (λ (u : SeatMemory). u.held ≡ None) theirs rests);
        words = h.words;
        homes = h.homes;
        seats = λ i. set (set (h.seats i) id (joined (own i) (theirs i))) other nobody;
      }

  -- the same for a seat that holds the heap alone
  pub gives_pushed_at : (n id k word : ℕ) (m : Place) (es es' : List Entry) → m.1 ≡ (k, es') ∷ [] → 0 < m.0.shares → k < n → m.0.held ≡ Some (held_at k es) → Shows kind word es' → (added : List Entry) → SameEntries es' (added ++ es) → AreKnown known added
      → Allows Rule n id m (word_place k) (λ _. word) (λ _. GavePushed (step n (word_place k) word 0 maybe.none) m word)
  gives_pushed_at n id k word m es es' carries live near holds shown added same may =
      subst (λ (c : List (ℕ × List Entry)). Allows Rule n id (m.0, c) (word_place k) (λ _. word) (λ _. GavePushed (step n (word_place k) word 0 maybe.none) (m.0, c) word)) (sym carries) (gives_pushed n id k word m.0 es es' live near holds shown added same may)

  pub gives_popped_at : (n id k word : ℕ) (m : Place) (es es' : List Entry) → m.1 ≡ (k, es') ∷ [] → 0 < m.0.shares → k < n → m.0.held ≡ Some (held_at k es) → Shows kind word es' → (gone : List Entry) → SameEntries es (gone ++ es')
      → Allows Rule n id m (word_place k) (λ _. word) (λ _. GavePopped known (step n (word_place k) word 0 maybe.none) m word)
  gives_popped_at n id k word m es es' carries live near holds shown gone same =
      subst (λ (c : List (ℕ × List Entry)). Allows Rule n id (m.0, c) (word_place k) (λ _. word) (λ _. GavePopped known (step n (word_place k) word 0 maybe.none) (m.0, c) word)) (sym carries) (gives_popped n id k word m.0 es es' live near holds shown gone same)

  pub gives_back_at : (n id k word : ℕ) (m : Place) (es es' : List Entry) → m.1 ≡ (k, es') ∷ [] → 0 < m.0.shares → k < n → m.0.held ≡ Some (held_at k es) → Shows kind word es' → es' ≡ es
      → Allows Rule n id m (word_place k) (λ _. word) (λ _. GaveBack (step n (word_place k) word 0 maybe.none) m word)
  gives_back_at n id k word m es es' carries live near holds shown same =
      subst (λ (c : List (ℕ × List Entry)). Allows Rule n id (m.0, c) (word_place k) (λ _. word) (λ _. GaveBack (step n (word_place k) word 0 maybe.none) (m.0, c) word)) (sym carries) (gives_back n id k word m.0 es es' live near holds shown same)

  pub opens : (words : List ℕ) (slots : List (List Entry)) → words ≡ replicate (WORDS_APART * (heaps + 1)) EMPTY → slots ≡ replicate heaps [] → Rule (opening_table words slots first_state)
  opens words slots are_empty none = record {
    core = opening heaps;
    reached = opening_reached known kind heaps;
    words = subst (λ (ws : List ℕ). AreSpread ws (replicate heaps EMPTY)) (sym are_empty) (record {
      room = length-replicate (WORDS_APART * (heaps + 1)) EMPTY ∙ ap (λ (l : ℕ). WORDS_APART * (l + 1)) (sym (length-replicate heaps EMPTY));
      each = λ k inside. let near : k < heaps = subst (λ (l : ℕ). k < l) (length-replicate heaps EMPTY) inside in
          get_or-replicate (WORDS_APART * (heaps + 1)) (word_place k) EMPTY 0 (omega arith) ∙ sym (get_or-replicate heaps k EMPTY 0 near);
    });
    homes = ap (map maybe.some) none ∙ map-replicate heaps;
    seats = refl;
  }

  -- the slots of a table in which each heap is at home
  all_at_home : (homes : Homes) (slots : List (List Entry)) → length homes ≡ length slots → ((k : ℕ) (h : maybe.Option (List Entry)) → get_elem? homes k ≡ maybe.some h → (es : List Entry) × (h ≡ maybe.some es))
      → ((k : ℕ) (es : List Entry) → get_elem? homes k ≡ maybe.some (maybe.some es) → get_elem? slots k ≡ maybe.some es) → homes ≡ map maybe.some slots
  all_at_home [] [] long here same = refl
  all_at_home [] (es ∷ slots) long here same = absurd (omega arith)
  all_at_home (h ∷ homes) [] long here same = absurd (omega arith)
  all_at_home (h ∷ homes) (es ∷ slots) long here same =
      let t = here 0 h refl in
      let is : h ≡ maybe.some es = t.1 ∙ ap maybe.some (sym (some-injective es t.0 (same 0 t.0 (ap maybe.some t.1)))) in
      let rest : homes ≡ map maybe.some slots = all_at_home homes slots (omega arith) (λ k. here (suc k)) (λ k. same (suc k)) in
      λ i. is i ∷ rest i

  module _ (id : ℕ) (a : SeatMemory) (words : List ℕ) (slots : List (List Entry)) (whole : a.shares ≡ SHARES) (rests : a.held ≡ None) (t : Final (Seen Rule id a) words slots) where
    homes_at_end : t.1.0.core.homes ≡ map maybe.some slots
    homes_at_end =
        let h = t.1.0 in
        let o = lawful t.0 h in
        let me = at_core t.0 h id a t.1.1 in
        let core = h.core in
        all_at_home core.homes slots (ap (λ (l : Homes). length l) (sym h.homes) ∙ t.3) (λ k home at. let c = unheld_home known kind core o k home at (unheld_all known kind core o id a me whole rests k) in (c.0, c.1)) (λ k es at. t.4 k es (ap (λ (l : Homes). get_elem? l k) h.homes ∙ at))

    weight_at_end : (f : Entry → ℕ) → total (λ h. total f (at_home h)) t.1.0.core.homes ≡ total (total f) slots
    weight_at_end f = ap (total (λ h. total f (at_home h))) homes_at_end ∙ total-map (λ h. total f (at_home h)) maybe.some slots

    -- what was pushed is what was popped and what is left
    pub closes : (f : Entry → ℕ) → total f a.pushed ≡ total f a.popped + total (total f) slots
    closes f =
        let h = t.1.0 in
        omega (arith, balance_alone known kind h.core (lawful t.0 h) id a (at_core t.0 h id a t.1.1) whole rests f, weight_at_end f, total-map (total f) at_home h.core.homes)

    -- and it is known
    pub left_known : (e : Entry) → 0 < total (times e) slots → IsKnown known e
    left_known e some = let h = t.1.0 in (lawful t.0 h).known_all e (omega (arith, weight_at_end (only e)))

    -- and a run has led to it
    pub run_end : IsRunEnd known kind heaps (gathered slots) (books a)
    run_end = let h = t.1.0 in record {
      core = h.core;
      reached = h.reached;
      contents = slots;
      homes = homes_at_end;
      left_is = refl;
      seat = a;
      has_seat = contains_at h.core.seats id a (at_core t.0 h id a t.1.1);
      account_is = refl;
    }

pub told_popped : (known : ℕ → ℕ → Type 0) (m n : Place) (k : ℕ) (es es' gone : List Entry) → m.1 ≡ (k, es') ∷ [] → m.0.held ≡ Some (held_at k es) → SameEntries es (gone ++ es') → PutsPopped known m n
    → InSomeOrder gone (λ ds. n ≡ (popped m.0 ds, [])) × AreKnown known gone × (m.0.shares ≡ SHARES → AreLeft gone (books m.0))
told_popped known m n k es es' gone carries holds same told =
    let t = told gone (λ f. ap (λ (h : Option Held). total f (content_of h)) holds ∙ (same f ∙ ap (λ (c : List (ℕ × List Entry)). total f (gone ++ value_of c)) (sym carries))) in
    ((t.0.0, t.0.1, t.0.2 ∙ ap (λ (c : List (ℕ × List Entry)). (popped m.0 t.0.0, rest c)) carries), t.1, t.2)

pub told_pushed : (m n : Place) (k : ℕ) (es es' added : List Entry) → m.1 ≡ (k, es') ∷ [] → m.0.held ≡ Some (held_at k es) → SameEntries es' (added ++ es) → PutsPushed m n
    → InSomeOrder added (λ ds. n ≡ (pushed m.0 ds, []))
told_pushed m n k es es' added carries holds same told =
    let t = told added (λ f. ap (λ (c : List (ℕ × List Entry)). total f (value_of c)) carries ∙ (same f ∙ ap (λ (h : Option Held). total f (added ++ content_of h)) (sym holds))) in
    (t.0, t.1, t.2 ∙ ap (λ (c : List (ℕ × List Entry)). (pushed m.0 t.0, rest c)) carries)

pub took_seen : (known : ℕ → ℕ → Type 0) (kind : HeapKind) (m n : Place) (k r seen : ℕ) → r ≡ seen → Took known kind m k r n → Took known kind m k seen n
took_seen known kind m n k r seen e t = subst (λ (x : ℕ). Took known kind m k x n) e t
