-- Entries that a frontier gains and loses.
use Rattle.std.proofs.Common.{◌≡◌, ℕ, zero, suc, ◌+◌, ◌<◌, ◌≤◌, List, Option, Some, None, MatchOption, IfSome, option_to_list, [], ◌∷◌, ◌++◌, length, get_or, set, map, sum_by, Contains, refl, sym, ◌∙◌, ap, subst, ◌⊎◌, inl, inr, arith}
use Rattle.std.proofs.lemmas.Bool.{cases_eq}
use Rattle.std.proofs.lemmas.List.{append-nil, get_or-map, get_or-set_same, get_or-set_other, length-set, length-append, length-map, map-append, map-set, nil_from_length}
use Rattle.std.proofs.Math.Seq.{map-set_same}
use Rattle.std.proofs.lemmas.List.Elements.{Contains-append_left, Contains-push, Contains-push_cases}
use Rattle.std.proofs.lemmas.List.Sums.{get_or-le-sum_by, sum_by-append, sum_by-set}
use Rattle.ea_search.specs.Frontiers.{HaveNone, AreEntries, Frontage, HasNone, IsIn, KeepsWaiting, Puts, Takes, TakesWaiting, WaitsAt}
use Rattle.ea_search.specs.Worklist.{Worklist}

abbrev Entries : Type 0
Entries = List (ℕ × ℕ)

abbrev count : List Entries → ℕ
count lists = sum_by (λ (list : Entries). length list) lists

-- membership in the lists after one was replaced
in_replaced : (lists : List Entries) (place : ℕ) (list : Entries) (x : ℕ × ℕ) → place < length lists → Contains list x → IsIn (set lists place list) x
in_replaced lists place list x inside has =
    let P : Entries → Type 0 = λ l. Contains l x in
    (place, omega (arith, length-set lists place list), subst P (sym (get_or-set_same lists place list [] inside)) has)

in_another : (lists : List Entries) (place : ℕ) (list : Entries) (x : ℕ × ℕ) (is : IsIn lists x) → (is.0 ≡ place → ⊥) → IsIn (set lists place list) x
in_another lists place list x is differs =
    let P : Entries → Type 0 = λ l. Contains l x in
    (is.0, omega (arith, is.1, length-set lists place list), subst P (sym (get_or-set_other lists place is.0 list [] differs)) is.2)

module _ (lists : List Entries) (place : ℕ) (e : ℕ × ℕ) (inside : place < length lists) where
  abbrev added : List Entries
  added = set lists place (get_or lists place [] ++ e ∷ [])

  pub added_is_there : IsIn (set lists place (get_or lists place [] ++ e ∷ [])) e
  added_is_there = in_replaced lists place _ e inside (Contains-push (get_or lists place []) e)

  pub added_keeps : (x : ℕ × ℕ) → IsIn lists x → IsIn (set lists place (get_or lists place [] ++ e ∷ [])) x
  added_keeps x is = elim (cases_eq is.0 place) [
    | inl same ↦ (
        let P : ℕ → Type 0 = λ p. Contains (get_or lists p []) x in
        in_replaced lists place _ x inside (Contains-append_left (get_or lists place []) (e ∷ []) x (subst P same is.2)))
    | inr differs ↦ in_another lists place _ x is differs
  ]

  added_counts : count (set lists place (get_or lists place [] ++ e ∷ [])) ≡ count lists + 1
  added_counts =
      let sums = sum_by-set (λ (list : Entries). length list) lists place (get_or lists place [] ++ e ∷ []) [] inside in
      let more = length-append (get_or lists place []) (e ∷ []) in
      omega arith

  -- what is in the lists then
  added_cases : (x : ℕ × ℕ) → IsIn (set lists place (get_or lists place [] ++ e ∷ [])) x → (e ≡ x) ⊎ IsIn lists x
  added_cases x is = elim (cases_eq is.0 place) [
    | inl same ↦ (
        let P : ℕ → Type 0 = λ p. Contains (get_or (set lists place (get_or lists place [] ++ e ∷ [])) p []) x in
        let Q : Entries → Type 0 = λ l. Contains l x in
        let has = subst Q (get_or-set_same lists place (get_or lists place [] ++ e ∷ []) [] inside) (subst P same is.2) in
        elim (Contains-push_cases (get_or lists place []) e x has) [
          | inl old ↦ inr (place, inside, old)
          | inr new ↦ inl new
        ])
    | inr differs ↦ (
        let Q : Entries → Type 0 = λ l. Contains l x in
        inr (is.0, omega (arith, is.1, length-set lists place (get_or lists place [] ++ e ∷ [])), subst Q (get_or-set_other lists place is.0 (get_or lists place [] ++ e ∷ []) [] differs) is.2))
  ]

  pub added_entries : (nodes : ℕ) → (0 < e.1) × (e.1 ≤ nodes) → AreEntries nodes lists → AreEntries nodes (set lists place (get_or lists place [] ++ e ∷ []))
  added_entries nodes fits are x is = elim (added_cases x is) [
    | inl same ↦ subst (λ (y : ℕ × ℕ). (0 < y.1) × (y.1 ≤ nodes)) same fits
    | inr old ↦ are x old
  ]

  pub added_puts : (todo : Worklist) → Puts e (record { lists = lists; todo = todo }) (record { lists = set lists place (get_or lists place [] ++ e ∷ []); todo = todo })
  added_puts todo = record {
    more = omega (arith, added_counts);
    there = λ label same. inr (rw same added_is_there);
    rest = λ old new other same waits. elim waits [
      | inl inside ↦ inl inside
      | inr entry ↦ inr (rw same (added_keeps (old other, other) entry))
    ];
    nodes = refl;
    walks = refl;
  }

module _ (lists : List Entries) (place : ℕ) (e : ℕ × ℕ) (rest : Entries) (inside : place < length lists) (was : get_or lists place [] ≡ rest ++ e ∷ []) where
  removed_has : IsIn lists e
  removed_has =
      let P : Entries → Type 0 = λ l. Contains l e in
      (place, inside, subst P (sym was) (Contains-push rest e))

  removed_cases : (x : ℕ × ℕ) → IsIn lists x → (e ≡ x) ⊎ IsIn (set lists place rest) x
  removed_cases x is = elim (cases_eq is.0 place) [
    | inl same ↦ (
        let P : ℕ → Type 0 = λ p. Contains (get_or lists p []) x in
        let Q : Entries → Type 0 = λ l. Contains l x in
        elim (Contains-push_cases rest e x (subst Q was (subst P same is.2))) [
          | inl old ↦ inr (in_replaced lists place rest x inside old)
          | inr new ↦ inl new
        ])
    | inr differs ↦ inr (in_another lists place rest x is differs)
  ]

  removed_still : (x : ℕ × ℕ) → IsIn (set lists place rest) x → IsIn lists x
  removed_still x is = elim (cases_eq is.0 place) [
    | inl same ↦ (
        let P : ℕ → Type 0 = λ p. Contains (get_or (set lists place rest) p []) x in
        let Q : Entries → Type 0 = λ l. Contains l x in
        let has = subst Q (get_or-set_same lists place rest [] inside) (subst P same is.2) in
        (place, inside, subst Q (sym was) (Contains-append_left rest (e ∷ []) x has)))
    | inr differs ↦ (
        let Q : Entries → Type 0 = λ l. Contains l x in
        (is.0, omega (arith, is.1, length-set lists place rest), subst Q (get_or-set_other lists place is.0 rest [] differs) is.2))
  ]

  removed_counts : count (set lists place rest) + 1 ≡ count lists
  removed_counts =
      let sums = sum_by-set (λ (list : Entries). length list) lists place rest [] inside in
      let more = length-append rest (e ∷ []) in
      let all = ap (λ (list : Entries). length list) was in
      omega arith

  pub removed_entries : (nodes : ℕ) → AreEntries nodes lists → AreEntries nodes (set lists place rest)
  removed_entries nodes are x is = are x (removed_still x is)

  pub removed_takes : (todo : Worklist) → AreEntries todo.nodes lists → (label : ℕ → ℕ) → Takes label e (record { lists = lists; todo = todo }) (record { lists = set lists place rest; todo = todo })
  removed_takes todo are label = record {
    node = are e removed_has;
    fewer = omega (arith, removed_counts);
    rest = λ node waits. elim waits [
      | inl listed ↦ inr (inl listed)
      | inr entry ↦ elim (removed_cases (label node, node) entry) [
        | inl same ↦ inl same
        | inr other ↦ inr (inr other)
      ]
    ];
    nodes = refl;
    walks = refl;
  }

module _ (label : ℕ → ℕ) where
  pub KeepsWaiting-same : (frontier : Frontage) → KeepsWaiting label frontier frontier
  KeepsWaiting-same frontier = record { fewer = omega arith; rest = λ node waits. waits; nodes = refl; walks = refl }

  pub KeepsWaiting-then : (first middle last : Frontage) → KeepsWaiting label first middle → KeepsWaiting label middle last → KeepsWaiting label first last
  KeepsWaiting-then first middle last one two = record {
    fewer = omega (arith, one.fewer, two.fewer);
    rest = λ node waits. two.rest node (one.rest node waits);
    nodes = two.nodes ∙ one.nodes;
    walks = two.walks ∙ one.walks;
  }

  pub KeepsWaiting-takes : (entry : ℕ × ℕ) (first middle last : Frontage) → KeepsWaiting label first middle → Takes label entry middle last → Takes label entry first last
  KeepsWaiting-takes entry first middle last keeps takes = record {
    node = (takes.node.0, omega (arith, takes.node.1, keeps.nodes));
    fewer = omega (arith, keeps.fewer, takes.fewer);
    rest = λ node waits. takes.rest node (keeps.rest node waits);
    nodes = takes.nodes ∙ keeps.nodes;
    walks = takes.walks ∙ keeps.walks;
  }

  -- the lowest entry, after some moved
  pub then_lowest : (first middle last : Frontage) (found : Option (ℕ × ℕ)) → KeepsWaiting label first middle → MatchOption found (◌≡◌ {A = Frontage} last middle × HaveNone middle.lists) (λ e. (labels : ℕ → ℕ) → Takes labels e middle last) → MatchOption found (KeepsWaiting label first last × HaveNone last.lists) (λ e. Takes label e first last)
  then_lowest first middle last None keeps found =
      let P : Frontage → Type 0 = λ f. KeepsWaiting label first f × HaveNone f.lists in
      subst P (sym found.0) (keeps, found.1)
  then_lowest first middle last (Some e) keeps found = KeepsWaiting-takes e first middle last keeps (found label)

  -- an entry was taken out and put in again
  pub Takes-puts : (entry : ℕ × ℕ) (first middle last : Frontage) → Takes label entry first middle → Puts entry middle last → KeepsWaiting label first last
  Takes-puts entry first middle last takes puts = record {
    fewer = omega (arith, takes.fewer, puts.more);
    rest = λ node waits. elim (takes.rest node waits) [
      | inl same ↦ (
          let P : ℕ → Type 0 = λ v. WaitsAt last label v in
          let is_node = ap (λ (e : ℕ × ℕ). e.1) same in
          subst P is_node (puts.there label (ap label is_node ∙ sym (ap (λ (e : ℕ × ℕ). e.0) same))))
      | inr other ↦ puts.rest label label node refl other
    ];
    nodes = puts.nodes ∙ takes.nodes;
    walks = puts.walks ∙ takes.walks;
  }

  -- no node waits because of a stale entry
  pub Takes-stale : (entry : ℕ × ℕ) (first last : Frontage) → Takes label entry first last → (entry.0 ≡ label entry.1 → ⊥) → KeepsWaiting label first last
  Takes-stale entry first last takes stale = record {
    fewer = omega (arith, takes.fewer);
    rest = λ node waits. elim (takes.rest node waits) [
      | inl same ↦ absurd (stale (ap (λ (e : ℕ × ℕ). e.0) same ∙ ap label (sym (ap (λ (e : ℕ × ℕ). e.1) same))))
      | inr other ↦ other
    ];
    nodes = takes.nodes;
    walks = takes.walks;
  }

  -- what waited is the node that was taken out, or waits still
  pub taken_or_waits : (entry : ℕ × ℕ) (first last : Frontage) → Takes label entry first last → (node : ℕ) → WaitsAt first label node → (entry.1 ≡ node) ⊎ WaitsAt last label node
  taken_or_waits entry first last takes node waits = elim (takes.rest node waits) [
    | inl same ↦ inl (ap (λ (e : ℕ × ℕ). e.1) same)
    | inr other ↦ inr other
  ]

-- A list without entries, or its first entry; a waiting node is the first or a later one.
first_or_later : (x v : ℕ) (xs : List ℕ) → Contains (x ∷ xs) v → (x ≡ v) ⊎ Contains xs v
first_or_later x v xs (zero, lt, e) = inl e
first_or_later x v xs (suc i, lt, e) = inr (i, omega (arith, lt), e)

-- a node of the waiting list now has an entry with its label, and other waiting nodes still wait
pub waiting_moved : (label : ℕ → ℕ) (node : ℕ) (first middle last : Frontage) (time : ℕ) → first.todo.waiting ≡ node ∷ middle.todo.waiting → middle.lists ≡ first.lists → time ≡ label node → Puts (time, node) middle last
    → (v : ℕ) → WaitsAt first label v → WaitsAt last label v
waiting_moved label node first middle last time taken same is puts v waits = elim waits [
  | inl inside ↦ elim (first_or_later node v middle.todo.waiting (subst (λ (xs : List ℕ). Contains xs v) taken inside)) [
    | inl at ↦ subst (λ (u : ℕ). WaitsAt last label u) at (puts.there label (sym is))
    | inr other ↦ puts.rest label label v refl (inl other)
  ]
  | inr entry ↦ puts.rest label label v refl (inr (subst (λ (ls : List Entries). IsIn ls (label v, v)) (sym same) entry))
]

-- the node that has waited longest is taken out of the list
pub taken_waiting : (found : Option ℕ) (lists : List Entries) (old new : Worklist) → MatchOption found ((old.waiting ≡ []) × (new ≡ old)) (λ node. old.waiting ≡ node ∷ new.waiting)
    → (new.nodes ≡ old.nodes) × (new.walks ≡ old.walks)
    → IfSome found (λ node. (0 < node) × (node ≤ old.nodes))
    → MatchOption found ((old.waiting ≡ []) × ◌≡◌ {A = Frontage} (record { lists = lists; todo = new }) (record { lists = lists; todo = old })) (λ node. TakesWaiting node (record { lists = lists; todo = old }) (record { lists = lists; todo = new }))
taken_waiting None lists old new h room is_node = (h.0, ap (λ (t : Worklist). (λ (f : Frontage). f) (record { lists = lists; todo = t })) h.1)
taken_waiting (Some n) lists old new h room is_node = record { is_node = is_node; waited = h; lists = refl; nodes = room.0; walks = room.1 }

pub all_empty : (lists : List Entries) → length lists ≡ 66 → ((place : ℕ) → place < 66 → get_or lists place [] ≡ []) → HaveNone lists
all_empty lists many each entry is =
    let P : Entries → Type 0 = λ l. Contains l entry in
    let has = subst P (each is.0 (omega (arith, is.1))) is.2 in
    absurd (omega (arith, has.1))

pub none_in : (lists : List Entries) → count lists ≡ 0 → HaveNone lists
none_in lists none entry is =
    let least = get_or-le-sum_by (λ (list : Entries). length list) lists is.0 [] is.1 in
    absurd (omega (arith, is.2.1))

pub pushed_none : {X : Type 0} (f : X → Entries) (held after : List X) (new : X) → after ≡ held ++ new ∷ [] → f new ≡ [] → count (map f held) ≡ 0 → count (map f after) ≡ 0
pushed_none f held after new is empty none =
    let sums = sum_by-append (λ (list : Entries). length list) (map f held) (f new ∷ []) in
    let last : count (f new ∷ []) ≡ 0 = rw empty refl in
    rw (is, map-append) (omega (arith, sums, last, none))

-- if memory was refused, the node waits in the list
pub refused_puts : (lists : List Entries) (todo after : Worklist) (e : ℕ × ℕ) → (after.nodes ≡ todo.nodes) × (after.walks ≡ todo.walks) → Contains after.waiting e.1 → ((v : ℕ) → Contains todo.waiting v → Contains after.waiting v) → Puts e (record { lists = lists; todo = todo }) (record { lists = lists; todo = after })
refused_puts lists todo after e room there kept = record {
  more = omega arith;
  there = λ label same. inl there;
  rest = λ old new other same waits. elim waits [
    | inl listed ↦ inl (kept other listed)
    | inr entry ↦ inr (rw same entry)
  ];
  nodes = room.0;
  walks = room.1;
}

-- the same for a list of structures that hold the lists
module _ {X : Type 0} (f : X → Entries) (held : List X) (place : ℕ) (before after : X) (inside : place < length held) (was : before ≡ get_or held place before) where
  list_at : get_or (map f held) place [] ≡ f before
  list_at = get_or-map f held place before [] inside ∙ ap f (sym was)

  inside_map : place < length (map f held)
  inside_map = rw length-map inside

  pub pushed_lists : (e : ℕ × ℕ) → f after ≡ f before ++ e ∷ [] → map f (set held place after) ≡ set (map f held) place (get_or (map f held) place [] ++ e ∷ [])
  pushed_lists e is = map-set f held place after ∙ ap (λ (l : Entries). set (map f held) place l) (is ∙ ap (λ (l : Entries). l ++ e ∷ []) (sym list_at))

  pub same_lists : f after ≡ f before → map f (set held place after) ≡ map f held
  same_lists is = map-set_same f held place after before (is ∙ ap f was)

  pub pushed_entries : (e : ℕ × ℕ) (nodes : ℕ) → f after ≡ f before ++ e ∷ [] → (0 < e.1) × (e.1 ≤ nodes) → AreEntries nodes (map f held) → AreEntries nodes (map f (set held place after))
  pushed_entries e nodes is fits are =
      let P : List Entries → Type 0 = λ ls. AreEntries nodes ls in
      subst P (sym (pushed_lists e is)) (added_entries (map f held) place e inside_map nodes fits are)

  pub pushed_puts : (e : ℕ × ℕ) (todo : Worklist) → f after ≡ f before ++ e ∷ [] → Puts e (record { lists = map f held; todo = todo }) (record { lists = map f (set held place after); todo = todo })
  pushed_puts e todo is =
      let P : List Entries → Type 0 = λ ls. Puts e (record { lists = map f held; todo = todo }) (record { lists = ls; todo = todo }) in
      subst P (sym (pushed_lists e is)) (added_puts (map f held) place e inside_map todo)

  pub popped_entries : (found : Option (ℕ × ℕ)) (nodes : ℕ) → f before ≡ f after ++ option_to_list found → AreEntries nodes (map f held) → AreEntries nodes (map f (set held place after))
  popped_entries None nodes is are =
      let P : List Entries → Type 0 = λ ls. AreEntries nodes ls in
      subst P (sym (same_lists (sym (is ∙ append-nil (f after))))) are
  popped_entries (Some e) nodes is are =
      let P : List Entries → Type 0 = λ ls. AreEntries nodes ls in
      subst P (sym (map-set f held place after)) (removed_entries (map f held) place e (f after) inside_map (list_at ∙ is) nodes are)

  -- the lists with what was held or is held, and the list
  abbrev front : X → Worklist → Frontage
  front last todo = record { lists = map f (set held place last); todo = todo }

  abbrev start : Worklist → Frontage
  start todo = record { lists = map f held; todo = todo }

  pub popped : (found : Option (ℕ × ℕ)) (todo : Worklist) (len rest : ℕ) (more : ℕ × ℕ → Type 0) → f before ≡ f after ++ option_to_list found → length held ≡ 66 → length (f before) ≡ len → MatchOption found ((len ≡ 0) × (rest ≡ 0)) more → AreEntries todo.nodes (map f held) → MatchOption found (◌≡◌ {A = Frontage} (front after todo) (start todo) × HasNone (map f held) place) (λ e. (label : ℕ → ℕ) → Takes label e (start todo) (front after todo))
  popped None todo len rest more is many counted cases are =
      let same = same_lists (sym (is ∙ append-nil (f after))) in
      let none : length (f before) ≡ 0 = counted ∙ cases.0 in
      let frontage : List Entries → Frontage = λ ls. record { lists = ls; todo = todo } in
      (ap frontage same, (rw length-map many, list_at ∙ nil_from_length (f before) none))
  popped (Some e) todo len rest more is many counted cases are = λ label.
      let P : List Entries → Type 0 = λ ls. Takes label e (start todo) (record { lists = ls; todo = todo }) in
      subst P (sym (map-set f held place after)) (removed_takes (map f held) place e (f after) inside_map (list_at ∙ is) todo are label)
