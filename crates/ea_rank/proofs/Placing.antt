-- The places of events' keys among the distinct keys.
use Rattle.std.proofs.Common.{◌≡◌, ◌≢◌, ℕ, zero, suc, ◌+◌, ◌<◌, ◌≤◌, ltb, lt-ltb, List, [], ◌∷◌, ◌++◌, length, get_or, set, take, map, Contains, Option, Some, None, refl, sym, ap, ◌∙◌, arith, inl, inr, subst, ◌⊎◌, true, false}
use Rattle.std.specs.List.Sorted.{IsPermutation, IsSorted, IsStrictlyIncreasing}
use Rattle.std.specs.Ordering.{is_lt, nat_cmp, ordering_then}
use Rattle.std.proofs.lemmas.Bool.{cases_eq, cases_lt}
use Rattle.std.proofs.lemmas.List.{get_or_default, get_or_append_left, get_or_push, get_or-set_same, get_or-set_other, length-set, length_push, length-map, length-take-le, get_or-map, take_more}
use Rattle.std.proofs.lemmas.List.Sorted.{Contains-permutation, IsPermutation-sym}
use Rattle.ea_rank.specs.declared.event.Event.{Event}
use Rattle.ea_rank.specs.declared.places.Mark.{Mark}
use Rattle.ea_rank.specs.Places.{AreMarks, ArePlaces}
use Rattle.ea_rank.specs.Ranks.{key_of}

abbrev at : List ℕ → ℕ → ℕ
at xs place = get_or xs place 0

-- the marks of events that have numbers from the start on, in their order
abbrev pub marks_from : ℕ → List Event → List Mark
marks_from start [] = []
marks_from start (event ∷ events) = record { key = key_of event; index = start } ∷ marks_from (start + 1) events

marks_push : (start : ℕ) (events : List Event) (event : Event) → marks_from start (events ++ event ∷ []) ≡ marks_from start events ++ record { key = key_of event; index = start + length events } ∷ []
marks_push start [] event =
    let e : start ≡ start + 0 = omega arith in
    ap (λ (n : ℕ). record { key = key_of event; index = n } ∷ []) e
marks_push start (first ∷ events) event =
    let e : start + 1 + length events ≡ start + suc (length events) = omega arith in
    ap (λ (l : List Mark). record { key = key_of first; index = start } ∷ l)
    (marks_push (start + 1) events event ∙ ap (λ (n : ℕ). marks_from (start + 1) events ++ record { key = key_of event; index = n } ∷ []) e)

-- one more event has its mark
pub marks_more : (events : List Event) (index : ℕ) (event : Event) (key : ℕ) (marks : List Mark) → index < length events → key ≡ key_of (get_or events index event) → marks ≡ marks_from 0 (take index events)
    → marks ++ record { key = key; index = index } ∷ [] ≡ marks_from 0 (take (index + 1) events)
marks_more events index event key marks inside key_is so_far =
    let at_end : 0 + length (take index events) ≡ index = omega (arith, length-take-le index events (omega arith)) in
    let is : ◌≡◌ {A = Mark} (record { key = key; index = index }) (record { key = key_of (get_or events index event); index = 0 + length (take index events) }) =
    ap (λ (k : ℕ). record { key = k; index = index }) key_is ∙ ap (λ (n : ℕ). record { key = key_of (get_or events index event); index = n }) (sym at_end) in
    ap (λ (l : List Mark). l ++ record { key = key; index = index } ∷ []) so_far
    ∙ ap (λ (m : Mark). marks_from 0 (take index events) ++ m ∷ []) is
    ∙ sym (ap (marks_from 0) (take_more events index event inside) ∙ marks_push 0 (take index events) (get_or events index event))

each_there : (start : ℕ) (events : List Event) (place : ℕ) → place < length (map key_of events) → Contains (marks_from start events) (record { key = at (map key_of events) place; index = start + place })
each_there start [] place inside = absurd (omega arith)
each_there start (event ∷ events) zero inside =
    let e : start ≡ start + 0 = omega arith in
    (0, omega arith, ap (λ (n : ℕ). record { key = key_of event; index = n }) e)
each_there start (event ∷ events) (suc place) inside =
    let e : start + 1 + place ≡ start + suc place = omega arith in
    let more : Contains (marks_from (start + 1) events) (record { key = at (map key_of events) place; index = start + suc place }) =
    subst (λ (n : ℕ). Contains (marks_from (start + 1) events) (record { key = at (map key_of events) place; index = n })) e (each_there (start + 1) events place (omega arith)) in
    (suc more.0, omega (arith, more.1), more.2)

abbrev Told : ℕ → List Event → Mark → Type 0
Told start events mark = (place : ℕ) × (place < length (map key_of events)) × (mark.index ≡ start + place) × (mark.key ≡ at (map key_of events) place)

told_at : (start : ℕ) (events : List Event) (mark : Mark) (k : ℕ) → k < length (marks_from start events) → get_or (marks_from start events) k mark ≡ mark → Told start events mark
told_at start [] mark k inside is = absurd (omega arith)
told_at start (event ∷ events) mark zero inside is =
    (0, omega arith, omega (arith, ap (λ (m : Mark). m.index) is), sym (ap (λ (m : Mark). m.key) is))
told_at start (event ∷ events) mark (suc k) inside is =
    let more = told_at (start + 1) events mark k (omega arith) is in
    (suc more.0, omega (arith, more.1), omega (arith, more.2), more.3)

not_below : (this next : Mark) → is_lt (ordering_then (nat_cmp next.key this.key) (nat_cmp next.index this.index)) ≡ false → this.key ≤ next.key
not_below this next told = elim (cases_lt next.key this.key) [
  | inl less ↦ absurd (let e : ltb next.key this.key ≡ true = lt-ltb _ _ less in let k : true ≡ false = rw e at told in cc)
  | inr more ↦ omega arith
]

-- marks of all events, sorted
pub are_marks : (events : List Event) (old new : List Mark) → old ≡ marks_from 0 events → IsPermutation old new → IsSorted (λ (x y : Mark). ordering_then (nat_cmp x.key y.key) (nat_cmp x.index y.index)) new → AreMarks (map key_of events) new
are_marks events old new is moved sorted = record {
  each = λ index inside. (
      let there : Contains old (record { key = at (map key_of events) index; index = 0 + index }) =
      subst (λ (l : List Mark). Contains l (record { key = at (map key_of events) index; index = 0 + index })) (sym is) (each_there 0 events index inside) in
      let e : 0 + index ≡ index = omega arith in
      Contains-permutation old new _ moved (subst (λ (n : ℕ). Contains old (record { key = at (map key_of events) index; index = n })) e there));
  only = λ mark there. (
      let was : Contains (marks_from 0 events) mark = subst (λ (l : List Mark). Contains l mark) is (Contains-permutation new old mark (IsPermutation-sym old new moved) there) in
      let told = told_at 0 events mark was.0 was.1 was.2 in
      let e : told.0 ≡ mark.index = omega (arith, told.2) in
      (omega (arith, told.1), told.3 ∙ ap (at (map key_of events)) e));
  ascending = λ k d inside. not_below (get_or new k d) (get_or new (k + 1) d) (sorted k d (omega arith) inside);
}

abbrev pub none : Mark
none = record { key = 0; index = 0 }

-- The first marks were processed: their keys are the keys so far, and their places are written.
pub record Numbered (all : List ℕ) (marks : List Mark) (done : ℕ) (places : List ℕ) (place last : ℕ) : Type 0 where
  pub keys : List ℕ
  pub ascending : IsStrictlyIncreasing keys
  pub count : length keys ≡ place + 1
  pub last_is : at keys place ≡ last
  pub low : done < length marks → last ≤ (get_or marks done none).key
  pub lengths : length places ≡ length all
  pub each : (index : ℕ) → index < length all → ((k : ℕ) × (done ≤ k) × (k < length marks) × (get_or marks k none ≡ record { key = at all index; index = index })) ⊎ ((at places index ≤ place) × (at keys (at places index) ≡ at all index))

pub numbered-none : (all : List ℕ) (marks : List Mark) (places : List ℕ) (last : ℕ) → AreMarks all marks → length places ≡ length all → (0 < length marks → last ≡ (get_or marks 0 none).key) → Numbered all marks 0 places 0 last
numbered-none all marks places last are long first = record {
  keys = last ∷ [];
  ascending = λ k inside. absurd (omega arith);
  count = refl;
  last_is = refl;
  low = λ some. omega (arith, first some);
  lengths = long;
  each = λ index inside. (let there = are.each index inside in inl (there.0, omega arith, there.1, get_or_default marks there.0 none _ there.1 ∙ there.2));
}

increasing_push : (keys : List ℕ) (place last key : ℕ) → IsStrictlyIncreasing keys → length keys ≡ place + 1 → at keys place ≡ last → last < key → IsStrictlyIncreasing (keys ++ key ∷ [])
increasing_push keys place last key up count is more k inside = elim (cases_lt (k + 1) (length keys)) [
  | inl l ↦ omega (arith, up k l, get_or_append_left keys (key ∷ []) 0 k (omega arith), get_or_append_left keys (key ∷ []) 0 (k + 1) l)
  | inr l ↦ (
      let e : length keys ≡ k + 1 = omega (arith, length_push keys key) in
      let here : k ≡ place = omega arith in
      omega (arith, get_or_append_left keys (key ∷ []) 0 k (omega arith), ap (at keys) here, get_or_push keys key 0 (k + 1) e))
]

-- a new key
pub numbered-turns : (all : List ℕ) (marks : List Mark) (done : ℕ) (places : List ℕ) (place last key : ℕ) → Numbered all marks done places place last → done < length marks → key ≡ (get_or marks done none).key → key ≢ last → Numbered all marks done places (place + 1) key
numbered-turns all marks done places place last key n inside is apart = record {
  keys = n.keys ++ key ∷ [];
  ascending = increasing_push n.keys place last key n.ascending n.count n.last_is (omega (arith, n.low inside));
  count = omega (arith, length_push n.keys key, n.count);
  last_is = get_or_push n.keys key 0 (place + 1) n.count;
  low = λ l. omega (arith, is);
  lengths = n.lengths;
  each = λ index near. elim (n.each index near) [
    | inl w ↦ inl w
    | inr g ↦ inr (omega (arith, g.0), get_or_append_left n.keys (key ∷ []) 0 (at places index) (omega (arith, g.0, n.count)) ∙ g.1)
  ];
}

pub key_of_first : (this that : Mark) → ◌≡◌ {A = Option Mark} (Some this) (Some that) → this.key ≡ that.key
key_of_first this that same = let e : this ≡ that = cc in ap (λ (m : Mark). m.key) e

pub none_is_not_some : (mark : Mark) → ◌≡◌ {A = Option Mark} None (Some mark) → ⊥
none_is_not_some mark same = cc

pub contains_at : (marks : List Mark) (done : ℕ) → done < length marks → Contains marks (get_or marks done none)
contains_at marks done inside = (done, inside, get_or_default marks done (get_or marks done none) none inside)

-- the mark's place is written
pub numbered-writes : (all : List ℕ) (marks : List Mark) (done : ℕ) (places : List ℕ) (place last : ℕ) → AreMarks all marks → Numbered all marks done places place last → done < length marks → last ≡ (get_or marks done none).key
    → Numbered all marks (done + 1) (set places (get_or marks done none).index place) place last
numbered-writes all marks done places place last are n inside is = record {
  keys = n.keys;
  ascending = n.ascending;
  count = n.count;
  last_is = n.last_is;
  low = λ l. omega (arith, is, are.ascending done none l);
  lengths = length-set places (get_or marks done none).index place ∙ n.lengths;
  each = λ index near. elim (cases_eq index (get_or marks done none).index) [
    | inl e ↦ (
        let told = are.only (get_or marks done none) (contains_at marks done inside) in
        let here : at (set places (get_or marks done none).index place) index ≡ place = ap (at (set places (get_or marks done none).index place)) e ∙ get_or-set_same places (get_or marks done none).index place 0 (omega (arith, told.0, n.lengths)) in
        inr (omega arith, ap (at n.keys) here ∙ n.last_is ∙ is ∙ told.1 ∙ ap (at all) (sym e)))
    | inr apart ↦ elim (n.each index near) [
      | inl w ↦ elim (cases_eq w.0 done) [
        | inl k ↦ absurd (apart (sym (ap (λ (m : Mark). m.index) (sym (ap (λ (j : ℕ). get_or marks j none) k) ∙ w.3))))
        | inr k ↦ inl (w.0, omega (arith, w.1), w.2, w.3)
      ]
      | inr g ↦ (
          let kept : at (set places (get_or marks done none).index place) index ≡ at places index = get_or-set_other places (get_or marks done none).index index place 0 apart in
          inr (omega (arith, g.0), ap (at n.keys) kept ∙ g.1))
    ]
  ];
}

pub numbered-all : (all : List ℕ) (marks : List Mark) (done : ℕ) (places : List ℕ) (place last : ℕ) → Numbered all marks done places place last → length marks ≤ done → (keys : List ℕ) × ArePlaces keys all places × (length keys ≡ place + 1)
numbered-all all marks done places place last n past = (
  n.keys,
  record {
    ascending = n.ascending;
    lengths = n.lengths;
    inside = λ index near. elim (n.each index near) [ inl w ↦ absurd (omega (arith, w.1, w.2)) | inr g ↦ omega (arith, g.0, n.count) ];
    found = λ index near. elim (n.each index near) [ inl w ↦ absurd (omega (arith, w.1, w.2)) | inr g ↦ g.1 ];
  },
  n.count,
)

-- the place of an event's key
abbrev pub Reads : List ℕ → ℕ → ℕ → Type 0
Reads places index place = place ≡ get_or places index place

read_at : (places : List ℕ) (index place : ℕ) → index < length places → Reads places index place → place ≡ at places index
read_at places index place inside is = is ∙ get_or_default places index place 0 inside

pub place_near : (events : List Event) (keys places : List ℕ) (index place : ℕ) → ArePlaces keys (map key_of events) places → index < length events → Reads places index place → place < length keys
place_near events keys places index place are inside is =
    let near : index < length (map key_of events) = omega (arith, length-map events key_of) in
    omega (arith, are.inside index near, read_at places index place (omega (arith, are.lengths)) is)

pub place_found : (events : List Event) (keys places : List ℕ) (index key place : ℕ) (event : Event) → ArePlaces keys (map key_of events) places → index < length events → Reads places index place → key_of (get_or events index event) ≡ key → (place < length keys) × (at keys place ≡ key)
place_found events keys places index key place event are inside is key_is =
    let near : index < length (map key_of events) = omega (arith, length-map events key_of) in (
      place_near events keys places index place are inside is,
      ap (at keys) (read_at places index place (omega (arith, are.lengths)) is) ∙ are.found index near ∙ get_or-map key_of events index event 0 inside ∙ key_is,
    )

pub contains_key : (keys : List ℕ) (place key : ℕ) → place < length keys → at keys place ≡ key → Contains keys key
contains_key keys place key inside is = (place, inside, get_or_default keys place key 0 inside ∙ is)
