-- Closed accounts: turns and seeds keep them closed, and joining two seats does.
use Rattle.std.proofs.Common.{◌≡◌, ℕ, List, [], ◌∷◌, ◌++◌, map, sym, ap, arith, subst, inl, inr, ◌⊎◌}
use Rattle.std.specs.Prelude.{Contains, All}
use Rattle.std.specs.Option.{option_to_list}
use Rattle.std.proofs.lemmas.List.{map-append}
use Rattle.std.proofs.lemmas.List.Elements.{All-head, All-tail, Contains-append_cases, Contains-append_left, Contains-append_right}
use Rattle.ea_labels.specs.declared.record.Bound.{Bound}
use Rattle.ea_labels.specs.declared.record.SeatRecord.{SeatRecord}
use Rattle.ea_labels.specs.Core.{bound, seen, lowered, joined}
use Rattle.ea_pool.specs.declared.heap.entry.Entry.{Entry}
use Rattle.ea_pool.specs.declared.shared.account.Account.{Account}
use Rattle.ea_pool.specs.Pools.{SameBooks, Pushes}
use Rattle.ea_machine.specs.Totals.{total}
use Rattle.ea_machine.proofs.Totals.{total-append}
use Rattle.ea_engine.specs.Problems.{Problem}
use Rattle.ea_engine.specs.declared.settings.Pace.{Pace}
use Rattle.ea_engine.specs.declared.worker.turn.Turn.{Turn}
use Rattle.ea_engine.specs.declared.worker.turn.Hand.{Hand}
use Rattle.ea_engine.specs.declared.worker.turn.Flow.{Flow}
use Rattle.ea_engine.specs.declared.worker.turn.TurnKind.{TurnKind}
use Rattle.ea_engine.specs.declared.worker.turn.TurnKind.TheVariants.{Empty, Busy, Stale, Scanned, Refused, Cut}
use Rattle.ea_engine.specs.declared.worker.counters.Counters.{Counters}
use Rattle.ea_engine.specs.Turns.{Told, visited_in_all, visited_as}
use Rattle.ea_engine.specs.Closed.{entry_at, entry_of, IsClosedAs, IsClosedTurn, IsClosedEntry, IsClosedAccount}
use Rattle.ea_engine.specs.Worked.{Kit, IsWork, back_of}
use Rattle.ea_engine.proofs.BoundLemmas.{IsStale-more, IsScanned-more, IsCut-more}
use Rattle.ea_engine.proofs.ProgressLemmas.{Contains-kept}
use Rattle.ea_engine.proofs.Multisets.{Contains-same}

contains_one : {X : Type 0} (x e : X) → Contains (x ∷ []) e → x ≡ e
contains_one x e h = let z : h.0 ≡ 0 = omega (arith, h.1) in rw z at h.2

-- the parts of two lists that are put together
cases_of : {X : Type 0} (a b c d : List X) (x : X) → Contains ((a ++ b) ++ (c ++ d)) x → Contains (a ++ c) x ⊎ Contains (b ++ d) x
cases_of a b c d x h = elim (Contains-append_cases (a ++ b) (c ++ d) x h) [
  | inl one ↦ elim (Contains-append_cases a b x one) [ inl p ↦ inl (Contains-append_left a c x p) | inr p ↦ inr (Contains-append_left b d x p) ]
  | inr two ↦ elim (Contains-append_cases c d x two) [ inl p ↦ inl (Contains-append_right a c x p) | inr p ↦ inr (Contains-append_right b d x p) ]
]

module _ (problem : Problem) where
  IsClosedEntry-more : (bs cs : List Bound) (hand hand' : List Entry) (e : Entry) → ((b : Bound) → Contains bs b → Contains cs b) → ((x : Entry) → Contains hand x → Contains hand' x)
      → IsClosedEntry problem bs hand e → IsClosedEntry problem cs hand' e
  IsClosedEntry-more bs cs hand hand' e stays held h = elim h [
    | inl back ↦ inl (held e back)
    | inr (inl stale) ↦ inr (inl (IsStale-more bs cs stays e stale))
    | inr (inr (inl scanned)) ↦ inr (inr (inl (IsScanned-more bs cs stays problem e scanned)))
    | inr (inr (inr cut)) ↦ inr (inr (inr (IsCut-more bs cs stays problem.query.target e cut)))
  ]

  closed_by_kind : (bs : List Bound) (hand : List Entry) (k : TurnKind) (key node : ℕ) (e : Entry) → IsClosedAs problem bs hand k (entry_at key node) → Contains (visited_as k key node) e → IsClosedEntry problem bs hand e
  closed_by_kind bs hand Empty key node e h inside = absurd (omega (arith, inside.1))
  closed_by_kind bs hand Busy key node e h inside = absurd (omega (arith, inside.1))
  closed_by_kind bs hand Stale key node e h inside = rw (sym (contains_one (entry_at key node) e inside)) (inr (inl h))
  closed_by_kind bs hand Scanned key node e h inside = rw (sym (contains_one (entry_at key node) e inside)) (inr (inr (inl h)))
  closed_by_kind bs hand Refused key node e h inside = rw (sym (contains_one (entry_at key node) e inside)) (inl h)
  closed_by_kind bs hand Cut key node e h inside = rw (sym (contains_one (entry_at key node) e inside)) (inr (inr (inr h)))

  closed_in_all : (bs : List Bound) (hand : List Entry) (ts : List Told) → All (λ t. IsClosedTurn problem bs hand t.0) ts → (e : Entry) → Contains (visited_in_all ts) e → IsClosedEntry problem bs hand e
  closed_in_all bs hand [] all e inside = absurd (omega (arith, inside.1))
  closed_in_all bs hand (t ∷ ts) all e inside = elim (Contains-append_cases (visited_in_all ts) (visited_as t.0.kind t.0.key t.0.node) e inside) [
    | inl later ↦ closed_in_all bs hand ts (All-tail (λ (u : Told). IsClosedTurn problem bs hand u.0) t ts all) e later
    | inr here ↦ closed_by_kind bs hand t.0.kind t.0.key t.0.node e (All-head (λ (u : Told). IsClosedTurn problem bs hand u.0) t ts all) here
  ]

  -- a word was seen
  pub closed_noted : (r s : SeatRecord) (a : Account) (node time : ℕ) (back refused : List Entry) → s ≡ seen r node time
      → IsClosedAccount problem r a back refused → IsClosedAccount problem s a back refused
  closed_noted r s a node time back refused e h = record {
    own = λ f. rw (ap (λ (x : SeatRecord). x.lowerings) e) (h.own f);
    closed = λ x inside. IsClosedEntry-more r.bounds s.bounds back back x (λ b k. Contains-kept (bound node time) r.bounds s.bounds b (ap (λ (z : SeatRecord). z.bounds) e) k) (λ y k. k) (h.closed x inside);
  }

  -- a label was lowered and its entry pushed
  pub closed_pushed : (r s : SeatRecord) (a b : Account) (node from to : ℕ) (back refused : List Entry) → s ≡ lowered r node from to → Pushes a (entry_at to node) b
      → IsClosedAccount problem r a back refused → IsClosedAccount problem s b back refused
  closed_pushed r s a b node from to back refused e p h = record {
    own = λ f. rw (ap (λ (x : SeatRecord). x.lowerings) e, p.1) (omega (arith, h.own f));
    closed = λ x inside. IsClosedEntry-more r.bounds s.bounds back back x (λ y k. Contains-kept (bound node to) r.bounds s.bounds y (ap (λ (z : SeatRecord). z.bounds) e) k) (λ y k. k) (h.closed x (rw p.2 at inside));
  }

  -- a label was lowered and its entry handed back
  pub closed_refused : (r s : SeatRecord) (a b : Account) (node from to : ℕ) (back refused : List Entry) → s ≡ lowered r node from to → SameBooks a b
      → IsClosedAccount problem r a back refused → IsClosedAccount problem s b back (entry_at to node ∷ refused)
  closed_refused r s a b node from to back refused e p h = record {
    own = λ f. rw (ap (λ (x : SeatRecord). x.lowerings) e, p.1) (omega (arith, h.own f, total-append f a.pushed refused, total-append f a.pushed (entry_at to node ∷ refused)));
    closed = λ x inside. IsClosedEntry-more r.bounds s.bounds back back x (λ y k. Contains-kept (bound node to) r.bounds s.bounds y (ap (λ (z : SeatRecord). z.bounds) e) k) (λ y k. k) (h.closed x (rw p.2 at inside));
  }

  -- a worker's turns, from empty lists on
  pub closed_worked : {T : Type 0} (shows : T → Turn → Flow → T → Type 0) (heaps : ℕ) (from to : Kit) (pace : Pace) (tracer tracer' : T) (counters : Counters) (hand : Hand) (back refused : List Entry)
      → IsWork problem shows heaps from to pace tracer tracer' counters hand
      → from.taken ≡ [] → from.fresh ≡ [] → to.taken ≡ hand.taken.items → to.fresh ≡ hand.fresh.items
      → IsClosedAccount problem from.labels from.account back refused
      → IsClosedAccount problem to.labels to.account (back ++ back_of hand) (refused ++ hand.fresh.items)
  closed_worked shows heaps from to pace tracer tracer' counters hand back refused w none_taken none_fresh taken fresh h =
      let p = w.progress in
      let held = hand.taken.items in
      let rest = hand.fresh.items in
      record {
        own = λ f. rw (p.lowerings_are, map-append entry_of p.lowerings from.labels.lowerings)
            (omega (
              arith,
              h.own f,
              p.pushed_are f,
              p.own_entries f,
              ap (total f) fresh,
              ap (total f) none_fresh,
              total-append f p.pushed from.account.pushed,
              total-append f p.pushed to.fresh,
              total-append f (map entry_of p.lowerings) from.fresh,
              total-append f from.account.pushed refused,
              total-append f (map entry_of p.lowerings) (map entry_of from.labels.lowerings),
              total-append f to.account.pushed (refused ++ rest),
              total-append f refused rest,
            ));
        closed = λ e inside.
            let moved = Contains-same (to.account.popped ++ from.taken) (visited_in_all w.turns ++ (to.taken ++ from.account.popped)) e p.popped_are (Contains-append_left to.account.popped from.taken e inside) in
            elim (Contains-append_cases (visited_in_all w.turns) (to.taken ++ from.account.popped) e moved) [
              | inl since ↦ IsClosedEntry-more to.labels.bounds to.labels.bounds (option_to_list hand.popped) _ e (λ b k. k)
                  (λ x k. Contains-append_right back (back_of hand) x (Contains-append_left (option_to_list hand.popped) held x k))
                  (closed_in_all to.labels.bounds (option_to_list hand.popped) w.turns w.closed e since)
              | inr other ↦ elim (Contains-append_cases to.taken from.account.popped e other) [
                | inl stays ↦ inl (Contains-append_right back (back_of hand) e (Contains-append_right (option_to_list hand.popped) held e (rw taken at stays)))
                | inr before ↦ IsClosedEntry-more from.labels.bounds to.labels.bounds back _ e p.bounds_stay (Contains-append_left back (back_of hand)) (h.closed e before)
              ]
            ];
      }

  -- two joined seats
  pub closed_joined : (r s both : SeatRecord) (a b sum : Account) (back back' refused refused' : List Entry)
      → both ≡ joined r s → sum.pushed ≡ a.pushed ++ b.pushed → sum.popped ≡ a.popped ++ b.popped
      → IsClosedAccount problem r a back refused → IsClosedAccount problem s b back' refused'
      → IsClosedAccount problem both sum (back ++ back') (refused ++ refused')
  closed_joined r s both a b sum back back' refused refused' e pushed popped h k = record {
    own = λ f. rw (ap (λ (x : SeatRecord). x.lowerings) e, pushed, map-append entry_of s.lowerings r.lowerings)
        (omega (
          arith,
          h.own f,
          k.own f,
          total-append f (map entry_of s.lowerings) (map entry_of r.lowerings),
          total-append f a.pushed refused,
          total-append f b.pushed refused',
          total-append f (a.pushed ++ b.pushed) (refused ++ refused'),
          total-append f a.pushed b.pushed,
          total-append f refused refused',
        ));
    closed = λ x inside.
        let bounds = ap (λ (z : SeatRecord). z.bounds) e in
        elim (Contains-append_cases a.popped b.popped x (rw popped at inside)) [
          | inl one ↦ IsClosedEntry-more r.bounds both.bounds back (back ++ back') x (λ y i. rw bounds (Contains-append_right s.bounds r.bounds y i)) (Contains-append_left back back') (h.closed x one)
          | inr other ↦ IsClosedEntry-more s.bounds both.bounds back' (back ++ back') x (λ y i. rw bounds (Contains-append_left s.bounds r.bounds y i)) (Contains-append_right back back') (k.closed x other)
        ];
  }

-- one more entry was handed back, and its node waits
pub waits_more : (back refused : List Entry) (entry : Entry) (before after : List ℕ) → ((e : Entry) → Contains (back ++ refused) e → Contains before e.node)
    → ((v : ℕ) → Contains before v → Contains after v) → Contains after entry.node → (e : Entry) → Contains (back ++ (entry ∷ refused)) e → Contains after e.node
waits_more back refused entry before after waits kept inside e h = elim (Contains-append_cases back (entry ∷ refused) e h) [
  | inl old ↦ kept e.node (waits e (Contains-append_left back refused e old))
  | inr new ↦ elim (Contains-append_cases (entry ∷ []) refused e new) [
    | inl one ↦ subst (λ (x : Entry). Contains after x.node) (contains_one entry e one) inside
    | inr more ↦ kept e.node (waits e (Contains-append_right back refused e more))
  ]
]
