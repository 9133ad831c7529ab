-- Gathering candidates, and offering them.
use Rattle.std.proofs.Common.{◌≡◌, ◌≢◌, ◌∙◌, refl, sym, ap, subst, ℕ, ◌+◌, ◌<◌, ◌≤◌, min, List, Option, Some, None, MatchOption, option_to_list, [], ◌∷◌, ◌++◌, length, take, get_or, set, Contains, ◌⊎◌, inl, inr, arith}
use Rattle.std.proofs.lemmas.Bool.{cases_lt, cases_eq}
use Rattle.std.proofs.lemmas.List.{get_or-set_same, get_or-take, get_or_default, length-set, length-take-le, take-set, take_more}
use Rattle.std.proofs.lemmas.List.Elements.{Contains-append_left, Contains-append_cases, Contains-push, Contains-push_cases}
use Rattle.std.specs.Prelude.{IfSome}
use Rattle.ea_base.specs.declared.limits.TheConstants.{HORIZON}
use Rattle.ea_road.specs.declared.TheConstants.{NONE}
use Rattle.ea_road.specs.declared.arc.Arc.{Arc}
use Rattle.ea_road.specs.declared.source.Source.{Source}
use Rattle.ea_road.specs.Roads.{Roads, IsArc, IsNetwork, IsNode}
use Rattle.ea_road.specs.Arrivals.{Reaches}
use Rattle.ea_road.specs.Labels.{limit}
use Rattle.ea_search.specs.declared.buckets.candidates.Candidate.{Candidate}
use Rattle.ea_search.specs.Candidates.{AreHadBy, Empties, Gathered, IsAmongThem, IsCandidate, IsHadBy, IsPending, Offered}
use Rattle.ea_search.specs.Frontiers.{Frontage, Takes, WaitsAt, entries_in}
use Rattle.ea_search.specs.Notes.{AreHad}
use Rattle.ea_search.specs.Scans.{AddsHad, AwaitsScansFrom, FallsBy, IsHadAt, IsPlaced, KeepsLess, KeepsMet, MeetsAll, Step}
use Rattle.ea_search.specs.Underway.{bound_of}
use Rattle.ea_search.proofs.Had.{AreHad-adds, KeepsLess-lower}
use Rattle.ea_search.proofs.Entries.{Contains-one, IsMet-still, KeepsMet-then, limit-lower, reaches_step, step-answer, step-head, step-number}

-- the candidates after one more is written
pub candidates_more : (list : List Candidate) (count : ℕ) (c : Candidate) → count < length list → take (count + 1) (set list count c) ≡ take count list ++ c ∷ []
candidates_more list count c inside =
    let wide : count < length (set list count c) = rw length-set inside in
    take_more (set list count c) count c wide ∙ ap (λ xs. xs ++ get_or (set list count c) count c ∷ []) (take-set list count c) ∙ ap (λ e. take count list ++ e ∷ []) (get_or-set_same list count c c inside)

-- a candidate at a place before the count is among those up to the count
pub candidate_is_there : (list : List Candidate) (place count : ℕ) (none : Candidate) → place < count → count ≤ length list → Contains (take count list) (get_or list place none)
candidate_is_there list place count none below inside =
    let whole = length-take-le count list inside in
    (place, omega arith, get_or-take count list place _ below ∙ get_or_default list place _ none (omega arith))

module _ (roads : Roads) (answers : ℕ → ℕ → ℕ → ℕ → Type 0) where
  pub Gathered-none : (u d : ℕ) (table : List ℕ) (entries : List Candidate) → Gathered roads answers u d [] table entries entries
  Gathered-none u d table entries = record {
    kept = λ entry there. there;
    came = λ entry there. inl there;
    passed = λ n v a there step. absurd (omega (arith, there.1));
  }

  -- one arc after others
  pub Gathered-more : (u d e : ℕ) (numbers table : List ℕ) (first middle last : List Candidate) → Gathered roads answers u d numbers table first middle → Gathered roads answers u d (e ∷ []) table middle last → Gathered roads answers u d (numbers ++ e ∷ []) table first last
  Gathered-more u d e numbers table first middle last one two = record {
    kept = λ entry there. two.kept entry (one.kept entry there);
    came = λ entry there. elim (two.came entry there) [
      | inl before ↦ one.came entry before
      | inr here ↦ inr here
    ];
    passed = λ n v a there step. elim (Contains-append_cases numbers (e ∷ []) n there) [
      | inl early ↦ elim (one.passed n v a early step) [
        | inl low ↦ inl low
        | inr has ↦ inr (has.0, has.1, two.kept _ has.2)
      ]
      | inr late ↦ two.passed n v a late step
    ];
  }

  -- an arrival that is later than a label is left out
  pub Gathered-keeps : (e d : ℕ) (arc : Arc) (table : List ℕ) (entries : List Candidate) → IsArc roads e arc → ((a : ℕ) → answers arc.class arc.weight d a → a ≤ HORIZON → bound_of table arc.head < a) → Gathered roads answers arc.tail d (e ∷ []) table entries entries
  Gathered-keeps e d arc table entries is late = record {
    kept = λ entry there. there;
    came = λ entry there. inl there;
    passed = passed;
  }
    where
      passed : (n v a : ℕ) → Contains (e ∷ []) n → Step roads answers arc.tail d n v a → (bound_of table v < a) ⊎ IsAmongThem roads entries arc.tail n v a
      passed n v a there step =
          let here = step-number roads answers arc.tail d e n v a (Contains-one n e there) step in
          let head : arc.head ≡ v = step-head roads answers arc.tail d e v a arc is here in
          let low = late a (step-answer roads answers arc.tail d e v a arc is here) step.in_time in
          inl (rw (← head) low)

  -- an arrival is added
  pub Gathered-adds : (e d b place : ℕ) (arc : Arc) (table : List ℕ) (entries : List Candidate) → IsArc roads e arc → IsPlaced roads arc.tail place e → answers arc.class arc.weight d b → b ≤ HORIZON → ((a : ℕ) → answers arc.class arc.weight d a → a ≡ b) → Gathered roads answers arc.tail d (e ∷ []) table entries (entries ++ (record { time = b; node = arc.head; from = arc.tail; place = place }) ∷ [])
  Gathered-adds e d b place arc table entries is placed answer in_time one = record {
    kept = λ entry there. Contains-append_left entries (it ∷ []) entry there;
    came = came;
    passed = passed;
  }
    where
      it : Candidate
      it = record { time = b; node = arc.head; from = arc.tail; place = place }

      by_arc : Step roads answers arc.tail d e arc.head b
      by_arc = record { arc = arc; is_arc = is; is_tail = refl; is_head = refl; answer = answer; in_time = in_time }

      Came : Candidate → Type 0
      Came c = (c.from ≡ arc.tail) × (number : ℕ) × IsPlaced roads arc.tail c.place number × Step roads answers arc.tail d number c.node c.time

      came : (c : Candidate) → Contains (entries ++ it ∷ []) c → Contains entries c ⊎ Came c
      came c there = elim (Contains-push_cases entries it c there) [
        | inl old ↦ inl old
        | inr new ↦ (
            let here : Came it = (refl, e, placed, by_arc) in
            inr (subst Came new here))
      ]

      passed : (n v a : ℕ) → Contains (e ∷ []) n → Step roads answers arc.tail d n v a → (bound_of table v < a) ⊎ IsAmongThem roads (entries ++ it ∷ []) arc.tail n v a
      passed n v a there step =
          let number : e ≡ n = Contains-one n e there in
          let here = step-number roads answers arc.tail d e n v a number step in
          let head : arc.head ≡ v = step-head roads answers arc.tail d e v a arc is here in
          let same : a ≡ b = one a (step-answer roads answers arc.tail d e v a arc is here) in
          let P : ℕ → ℕ → ℕ → Type 0 = λ x y z. IsAmongThem roads (entries ++ it ∷ []) arc.tail x y z in
          let it_is : P e arc.head b = (place, placed, Contains-push entries it) in
          inr (subst (λ x. P x v a) number (subst (λ y. P e y a) head (subst (P e arc.head) (sym same) it_is)))

pub Offered-none : (table : List ℕ) (waits : ℕ → Type 0) (met had : ℕ → ℕ → ℕ → Type 0) → Offered [] table waits met had table waits met had
Offered-none table waits met had = record {
  places = refl;
  lower = λ v. omega arith;
  fallen = λ v falls. absurd (omega (arith, falls));
  kept = λ v there. there;
  passed = λ c there. absurd (omega (arith, there.1));
  still = λ v u k same_v same_u has. has;
  adds = λ v u k has. inl (refl, has);
}

-- one candidate after others
pub Offered-more : (entries : List Candidate) (c : Candidate) (table table' table'' : List ℕ) (waits waits' waits'' : ℕ → Type 0) (met met' met'' had had' had'' : ℕ → ℕ → ℕ → Type 0) → Offered entries table waits met had table' waits' met' had' → KeepsLess c.node c.time table' waits' table'' waits'' → (bound_of table'' c.node ≡ c.time → met'' c.node c.from c.place) → KeepsMet table' met' table'' met'' → AddsHad (IsHadAt c.node c.from c.place c.time table'') table' had' table'' had'' → Offered (entries ++ c ∷ []) table waits met had table'' waits'' met'' had''
Offered-more entries c table table' table'' waits waits' waits'' met met' met'' had had' had'' first last meets keeps more = record {
  places = last.places ∙ first.places;
  lower = λ v. (let one = first.lower v in let two = low v in omega arith);
  fallen = fallen;
  kept = λ v there. last.kept v (first.kept v there);
  passed = passed;
  still = KeepsMet-then table table' table'' met met' met'' first.lower low first.still keeps;
  adds = adds;
}
  where
    low : (v : ℕ) → bound_of table'' v ≤ bound_of table' v
    low = KeepsLess-lower c.node c.time table' table'' waits' waits'' last

    Is : ℕ → ℕ → ℕ → Type 0
    Is = IsCandidate (entries ++ c ∷ []) table''

    -- it has the arc of the last candidate
    by_last : (v u k : ℕ) → IsHadAt c.node c.from c.place c.time table'' v u k → Is v u k
    by_last v u k is =
        let one : c ≡ record { time = bound_of table'' c.node; node = c.node; from = c.from; place = c.place } = ap (λ t. record { time = t; node = c.node; from = c.from; place = c.place }) (sym is.1) in
        let here : Is c.node c.from c.place = subst (Contains (entries ++ c ∷ [])) one (Contains-push entries c) in
        let C : ℕ → Type 0 = λ x. Is x c.from c.place in
        let B : ℕ → Type 0 = λ x. Is v x c.place in
        subst (Is v u) (sym is.0.2) (subst B (sym is.0.1) (subst C (sym is.0.0) here))

    earlier : (v u k : ℕ) → bound_of table' v ≡ bound_of table'' v → IsCandidate entries table' v u k → Is v u k
    earlier v u k same was =
        let P : ℕ → Type 0 = λ t. Contains (entries ++ c ∷ []) (record { time = t; node = v; from = u; place = k }) in
        subst P same (Contains-append_left entries (c ∷ []) _ was)

    adds : (v u k : ℕ) → had'' v u k → ((bound_of table'' v ≡ bound_of table v) × had v u k) ⊎ Is v u k
    adds v u k has = elim (more v u k has) [
      | inl old ↦ elim (first.adds v u k old.1) [
        | inl older ↦ inl (old.0 ∙ older.0, older.1)
        | inr new ↦ inr (earlier v u k (sym old.0) new)
      ]
      | inr new ↦ inr (by_last v u k new)
    ]

    Passed : Candidate → Type 0
    Passed x = (bound_of table'' x.node ≤ x.time) × (bound_of table'' x.from ≡ bound_of table x.from → bound_of table'' x.node ≡ x.time → met'' x.node x.from x.place)

    passed : (x : Candidate) → Contains (entries ++ c ∷ []) x → Passed x
    passed x there = elim (Contains-push_cases entries c x there) [
      | inl old ↦ (
          let was = first.passed x old in
          let two = low x.node in (
            omega (arith, was.0),
            λ stays_from same.
                let fell = low x.from in
                let fell_before = first.lower x.from in
                keeps x.node x.from x.place (omega (arith, was.0)) (omega arith) (was.1 (omega arith) (omega (arith, was.0))),
          ))
      | inr new ↦ (
          let here : Passed c = (omega (arith, last.least), λ stays_from. meets) in
          subst Passed new here)
    ]

    at_node : bound_of table'' c.node < bound_of table' c.node → waits'' c.node × ((from place : ℕ) × Is c.node from place)
    at_node falls =
        let is : bound_of table'' c.node ≡ c.time = omega (arith, last.least) in
        (last.opened (omega (arith, last.least)), (c.from, c.place, by_last c.node c.from c.place ((refl, refl, refl), is)))

    fallen : (v : ℕ) → bound_of table'' v < bound_of table v → waits'' v × ((from place : ℕ) × Is v from place)
    fallen v falls = elim (cases_lt (bound_of table'' v) (bound_of table' v)) [
      | inl again ↦ elim (cases_eq v c.node) [
        | inl here ↦ (
            let P : ℕ → Type 0 = λ x. waits'' x × ((from place : ℕ) × Is x from place) in
            let F : ℕ → Type 0 = λ x. bound_of table'' x < bound_of table' x in
            subst P (sym here) (at_node (subst F here again)))
        | inr ne ↦ (let same = last.others v ne in absurd (omega arith))
      ]
      | inr keeps_it ↦ (
          let fell = low v in
          let same : bound_of table' v ≡ bound_of table'' v = omega arith in
          let before = first.fallen v (omega arith) in
          (last.kept v before.0, (before.1.0, before.1.1, earlier v before.1.0 before.1.1 same before.1.2)))
    ]

module _ (roads : Roads) (answers : ℕ → ℕ → ℕ → ℕ → Type 0) (table : List ℕ) where
  -- a node whose label has an arc is reached, if labels are
  pub had_is_reached : (sources : List Source) (last : ℕ) (c : Candidate) → last ≤ HORIZON → ((v : ℕ) → bound_of table v ≢ NONE → Reaches roads answers sources v (bound_of table v)) → IsHadBy roads answers table last c → Reaches roads answers sources c.node c.time
  had_is_reached sources last c within reached had = reaches_step roads answers sources c.from (bound_of table c.from) had.number c.node c.time (reached c.from (omega (arith, had.in_time, within))) had.step

  -- and its node is one
  pub had_is_node : (last : ℕ) (c : Candidate) → IsNetwork roads → IsHadBy roads answers table last c → IsNode roads.nodes c.node
  had_is_node last c network had = subst (IsNode roads.nodes) had.step.is_head (network.each_fits had.number had.step.arc had.step.is_arc).head

  pub had_none : (last : ℕ) → AreHadBy roads answers table last []
  had_none last entry there = absurd (omega (arith, there.1))

  pub had_more : (last node time : ℕ) (numbers : List ℕ) (entries entries' : List Candidate) → AreHadBy roads answers table last entries → time ≡ bound_of table node → time ≤ last → Gathered roads answers node time numbers table entries entries' → AreHadBy roads answers table last entries'
  had_more last node time numbers entries entries' had at_label in_time gathered c there = elim (gathered.came c there) [
    | inl before ↦ had c before
    | inr new ↦ (
        let Q : ℕ → Type 0 = λ x. bound_of table x ≤ last in
        let R : ℕ → Type 0 = λ x. IsPlaced roads x c.place new.1 in
        let P : ℕ → Type 0 = λ x. Step roads answers x (bound_of table x) new.1 c.node c.time in
        let S : ℕ → Type 0 = λ t. Step roads answers node t new.1 c.node c.time in
        let from = sym new.0 in
        record { number = new.1; placed = subst R from new.2; in_time = subst Q from (omega arith); step = subst P from (subst S at_label new.3) })
  ]

  -- a node whose arcs were gathered is pending
  pub gathered_is_pending : (node time : ℕ) (numbers : List ℕ) (entries entries' : List Candidate) → time ≡ bound_of table node → ((n : ℕ) (arc : Arc) → IsArc roads n arc → arc.tail ≡ node → Contains numbers n) → Gathered roads answers node time numbers table entries entries' → IsPending roads answers table entries' node
  gathered_is_pending node time numbers entries entries' at_label every gathered number head arrival step =
      let P : ℕ → Type 0 = λ t. Step roads answers node t number head arrival in
      gathered.passed number head arrival (every number step.arc step.is_arc step.is_tail) (subst P (sym at_label) step)

  pub pending_stays : (node : ℕ) (entries entries' : List Candidate) → ((c : Candidate) → Contains entries c → Contains entries' c) → IsPending roads answers table entries node → IsPending roads answers table entries' node
  pending_stays node entries entries' kept pending number head arrival step = elim (pending number head arrival step) [
    | inl low ↦ inl low
    | inr has ↦ inr (has.0, has.1, kept _ has.2)
  ]

  -- labels fell to candidates
  pub FallsBy-offered : (last : ℕ) (entries : List Candidate) (table' : List ℕ) (waits waits' : ℕ → Type 0) (met had met' had' : ℕ → ℕ → ℕ → Type 0) → AreHadBy roads answers table last entries → Offered entries table waits met had table' waits' met' had' → FallsBy roads answers last (bound_of table) (bound_of table')
  FallsBy-offered last entries table' waits waits' met had met' had' had_by offered = record {
    lower = λ node is. offered.lower node;
    fallen = λ node is falls.
        let fell = (offered.fallen node falls).1 in
        let by = had_by _ fell.2 in
        record { from = fell.0; departure = bound_of table fell.0; number = by.number; in_time = by.in_time; step = by.step };
  }

  -- the arcs from which labels are had afterwards
  pub AreHad-offered : (last : ℕ) (entries : List Candidate) (table' : List ℕ) (waits waits' : ℕ → Type 0) (met had met' had' : ℕ → ℕ → ℕ → Type 0) → last ≤ HORIZON → AreHadBy roads answers table last entries → Offered entries table waits met had table' waits' met' had' → AreHad roads answers table had → AreHad roads answers table' had'
  AreHad-offered last entries table' waits waits' met had met' had' within had_by offered before =
      AreHad-adds roads answers table table' had had' (IsCandidate entries table') offered.lower offered.adds
      (λ v u k is.
      let by = had_by _ is in
      let fell = offered.lower u in
      record { number = by.number; departure = bound_of table u; placed = by.placed; later = fell; within = omega (arith, by.in_time, within); step = by.step })
      before

  -- the candidates were offered
  pub AwaitsScansFrom-offered : (sources : List Source) (target : Option ℕ) (last : ℕ) (entries : List Candidate) (table' : List ℕ) (held waits waits' : ℕ → Type 0) (met had met' had' : ℕ → ℕ → ℕ → Type 0) → last ≤ HORIZON → AwaitsScansFrom roads answers sources target table met (λ v. (waits v ⊎ IsPending roads answers table entries v) ⊎ held v) → AreHadBy roads answers table last entries → Offered entries table waits met had table' waits' met' had' → AwaitsScansFrom roads answers sources target table' met' (λ v. held v ⊎ waits' v)
  AwaitsScansFrom-offered sources target last entries table' held waits waits' met had met' had' within under had_by offered = record {
    places = offered.places ∙ under.places;
    reached = reached;
    started = λ s given. (let low = offered.lower s.node in let was = under.started s given in omega arith);
    settled = settled;
  }
    where
      same_entry : (v : ℕ) → bound_of table v ≤ bound_of table' v → bound_of table v ≡ bound_of table' v
      same_entry v h = let low = offered.lower v in omega arith

      reached : (v : ℕ) → bound_of table' v ≢ NONE → Reaches roads answers sources v (bound_of table' v)
      reached v there = elim (cases_lt (bound_of table' v) (bound_of table v)) [
        | inl falls ↦ (
            let fell = (offered.fallen v falls).1 in
            had_is_reached sources last (record { time = bound_of table' v; node = v; from = fell.0; place = fell.1 }) within under.reached (had_by _ fell.2))
        | inr h ↦ (
            let same = same_entry v h in
            let P : ℕ → Type 0 = λ x. Reaches roads answers sources v x in
            subst P same (under.reached v (omega arith)))
      ]

      pends : (v : ℕ) → bound_of table' v ≡ bound_of table v → IsPending roads answers table entries v → MeetsAll roads answers table' met' v (bound_of table v)
      pends v as_was pending number head arrival step = elim (pending number head arrival step) [
        | inl low ↦ (let fell = offered.lower head in (omega arith, λ same. absurd (omega arith)))
        | inr has ↦ (
            let passed = offered.passed _ has.2 in
            (passed.0, λ same. (has.0, has.1, passed.1 as_was same)))
      ]

      settled : (v : ℕ) → bound_of table' v ≢ NONE → MeetsAll roads answers table' met' v (bound_of table' v) ⊎ ((held v ⊎ waits' v) ⊎ (limit target (bound_of table') < bound_of table' v))
      settled v there = elim (cases_lt (bound_of table' v) (bound_of table v)) [
        | inl falls ↦ inr (inl (inr (offered.fallen v falls).0))
        | inr h ↦ (
            let same = same_entry v h in
            let P : ℕ → Type 0 = λ x. MeetsAll roads answers table' met' v x in
            elim (under.settled v (omega arith)) [
              | inl old ↦ inl (subst P same (λ number head arrival step. IsMet-still roads table table' met met' v number head arrival (offered.lower head) (sym same) offered.still (old number head arrival step)))
              | inr (inl (inl (inl wait))) ↦ inr (inl (inr (offered.kept v wait)))
              | inr (inl (inl (inr pending))) ↦ inl (subst P same (pends v (sym same) pending))
              | inr (inl (inr hold)) ↦ inr (inl (inl hold))
              | inr (inr above) ↦ inr (inr (let fell = limit-lower target table table' offered.lower in omega arith))
            ])
      ]

-- the next entry of the hand, if there is one
module _ (label : ℕ → ℕ) where
  pub next_rest : (found : Option (ℕ × ℕ)) (old new : Frontage) → MatchOption found (◌≡◌ {A = Frontage} new old) (λ e. (labels : ℕ → ℕ) → Takes labels e old new) → (node : ℕ) → WaitsAt old label node → WaitsAt new label node ⊎ (found ≡ Some (label node, node))
  next_rest None old new is node waits =
      let P : Frontage → Type 0 = λ f. WaitsAt f label node in
      inl (subst P (sym is) waits)
  next_rest (Some e) old new takes node waits = elim ((takes label).rest node waits) [
    | inl same ↦ inr (ap (λ (x : ℕ × ℕ). Some x) same)
    | inr other ↦ inl other
  ]

pub next_room : (found : Option (ℕ × ℕ)) (old new : Frontage) → MatchOption found (◌≡◌ {A = Frontage} new old) (λ e. (labels : ℕ → ℕ) → Takes labels e old new) → (entries_in new + length (option_to_list found) ≤ entries_in old) × (new.todo.nodes ≡ old.todo.nodes) × (new.todo.walks ≡ old.todo.walks)
next_room None old new is = (
  (let same = ap entries_in is in omega arith),
  ap (λ (f : Frontage). f.todo.nodes) is,
  ap (λ (f : Frontage). f.todo.walks) is,
)
next_room (Some e) old new takes =
    let taken = takes (λ v. v) in
    (omega (arith, taken.fewer), taken.nodes, taken.walks)

pub next_node : (found : Option (ℕ × ℕ)) (old new : Frontage) (nodes : ℕ) → old.todo.nodes ≡ nodes → MatchOption found (◌≡◌ {A = Frontage} new old) (λ e. (labels : ℕ → ℕ) → Takes labels e old new) → IfSome found (λ e. IsNode nodes e.1)
next_node None old new nodes many is = tt
next_node (Some e) old new nodes many takes =
    let taken = takes (λ v. v) in
    record { from_one = taken.node.0; to_last = omega (arith, taken.node.1, many) }

-- a node with a label after the limit or the horizon needs no scan
pub AwaitsScansFrom-late : (roads : Roads) (answers : ℕ → ℕ → ℕ → ℕ → Type 0) (sources : List Source) (target : Option ℕ) (table : List ℕ) (met : ℕ → ℕ → ℕ → Type 0) (last : ℕ) (before waits : ℕ → Type 0) → AwaitsScansFrom roads answers sources target table met before → ((v : ℕ) → before v → waits v ⊎ (last < bound_of table v)) → (limit target (bound_of table) ≤ last) ⊎ (HORIZON ≤ last) → AwaitsScansFrom roads answers sources target table met waits
AwaitsScansFrom-late roads answers sources target table met last before waits under taken enough = record {
  places = under.places;
  reached = under.reached;
  started = under.started;
  settled = λ v there. elim (under.settled v there) [
    | inl old ↦ inl old
    | inr (inl wait) ↦ elim (taken v wait) [
      | inl still ↦ inr (inl still)
      | inr late ↦ elim enough [
        | inl above ↦ inr (inr (omega arith))
        | inr beyond ↦ (let time : bound_of table v ≤ HORIZON = (under.reached v there).within in absurd (omega arith))
      ]
    ]
    | inr (inr above) ↦ inr (inr above)
  ];
}

-- An entry and the hand were taken up, and the candidates were offered: only waiting nodes, and the node that
-- found no room, are left to scan.
pub AwaitsScansFrom-hand : (roads : Roads) (answers : ℕ → ℕ → ℕ → ℕ → Type 0) (sources : List Source) (target : Option ℕ) (table : List ℕ) (last : ℕ) (entry : ℕ × ℕ) (old middle new : Frontage) (crowded : Option ℕ) (entries : List Candidate) (table' : List ℕ) (waits' : ℕ → Type 0) (met had met' had' : ℕ → ℕ → ℕ → Type 0) → last ≡ min (limit target (bound_of table)) HORIZON → AwaitsScansFrom roads answers sources target table met (WaitsAt old (bound_of table)) → Takes (bound_of table) entry old middle → Empties roads answers table last entry middle new entries crowded → Offered entries table (WaitsAt new (bound_of table)) met had table' waits' met' had' → AwaitsScansFrom roads answers sources target table' met' (λ v. (crowded ≡ Some v) ⊎ waits' v)
AwaitsScansFrom-hand roads answers sources target table last entry old middle new crowded entries table' waits' met had met' had' is_last under takes emptied offered =
    AwaitsScansFrom-offered roads answers table sources target last entries table' (λ v. crowded ≡ Some v) (WaitsAt new (bound_of table)) waits' met had met' had' (omega (arith, is_last))
    (AwaitsScansFrom-late roads answers sources target table met last (WaitsAt old (bound_of table)) (λ v. (WaitsAt new (bound_of table) v ⊎ IsPending roads answers table entries v) ⊎ (crowded ≡ Some v)) under taken enough)
    emptied.had offered
  where
    sorted : (v : ℕ) → (WaitsAt new (bound_of table) v ⊎ IsPending roads answers table entries v) ⊎ ((crowded ≡ Some v) ⊎ (last < bound_of table v)) → ((WaitsAt new (bound_of table) v ⊎ IsPending roads answers table entries v) ⊎ (crowded ≡ Some v)) ⊎ (last < bound_of table v)
    sorted v (inl still) = inl (inl still)
    sorted v (inr (inl held)) = inl (inr held)
    sorted v (inr (inr late)) = inr late

    taken : (v : ℕ) → WaitsAt old (bound_of table) v → ((WaitsAt new (bound_of table) v ⊎ IsPending roads answers table entries v) ⊎ (crowded ≡ Some v)) ⊎ (last < bound_of table v)
    taken v waits = elim (takes.rest v waits) [
      | inl first ↦ sorted v (emptied.rest v (inl first))
      | inr other ↦ sorted v (emptied.rest v (inr other))
    ]

    enough : (limit target (bound_of table) ≤ last) ⊎ (HORIZON ≤ last)
    enough = elim (cases_lt HORIZON (limit target (bound_of table))) [
      | inl far ↦ inr (omega (arith, is_last))
      | inr near ↦ inl (omega (arith, is_last))
    ]
