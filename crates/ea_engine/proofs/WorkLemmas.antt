-- A worker's turns so far: the invariant of the loop of `work`.
use Rattle.std.proofs.Common.{◌≡◌, ℕ, ◌+◌, ◌*◌, ◌^◌, ◌<◌, ◌≤◌, Bool, true, false, ◌||◌, cond, List, [], ◌∷◌, ◌++◌, map, length, get_or, take, refl, sym, ◌∙◌, ap, arith, length-append, append_assoc, append-nil, zero-add, below_more, subst, None, Some, Option, inl, inr, ◌⊎◌}
use Rattle.std.specs.Prelude.{Contains, IsSome, IfSome}
use Rattle.std.specs.Option.{option_to_list}
use Rattle.std.specs.List.{FoldsTo}
use Rattle.std.proofs.Math.Seq.{take-append_seam}
use Rattle.std.proofs.lemmas.List.{take-append-le, length-map}
use Rattle.std.proofs.lemmas.List.Sums.{fold-append}
use Rattle.std.proofs.lemmas.Bool.{false≢true}
use Rattle.std.proofs.lemmas.List.Elements.{All-append, All-nil, Contains-append_left}
use Rattle.std.proofs.lemmas.Fn.{FoldsTo-push}
use Rattle.std.specs.Prelude.{if◌then◌else◌}
use Rattle.arrayvec.specs.ArrayVec.{array_vec_len}
use Rattle.ea_road.specs.Roads.{IsNode}
use Rattle.ea_pool.specs.declared.heap.entry.Entry.{Entry}
use Rattle.ea_road.specs.Arrivals.{Reaches}
use Rattle.ea_engine.specs.Problems.{Problem, AreReachedOf}
use Rattle.ea_engine.specs.declared.settings.Pace.{Pace}
use Rattle.ea_engine.specs.declared.worker.turn.Turn.{Turn}
use Rattle.ea_engine.specs.declared.worker.turn.TurnEnd.{TurnEnd}
use Rattle.ea_engine.specs.declared.worker.turn.Hand.{Hand}
use Rattle.ea_engine.specs.declared.worker.turn.Flow.{Flow}
use Rattle.ea_engine.specs.declared.worker.turn.TurnKind.{TurnKind}
use Rattle.ea_engine.specs.declared.worker.turn.TurnKind.TheVariants.{Empty, Busy, Stale, Scanned, Refused, Cut}
use Rattle.ea_engine.specs.declared.worker.counters.Counters.{Counters}
use Rattle.ea_labels.specs.declared.record.Bound.{Bound}
use Rattle.ea_machine.specs.Totals.{total}
use Rattle.ea_machine.proofs.Totals.{total-append}
use Rattle.rand_core.specs.Stream.{Stream}
use Rattle.ea_labels.specs.declared.record.SeatRecord.{SeatRecord}
use Rattle.ea_pool.specs.declared.shared.account.Account.{Account}
use Rattle.ea_base.specs.declared.limits.TheConstants.{SHARES}
use Rattle.ea_pool.specs.Entries.{only}
use Rattle.ea_pool.specs.Kinds.{HeapKind, Least, Buckets}
use Rattle.ea_pool.specs.Pools.{NothingLeft, IsLeft}
use Rattle.ea_engine.specs.Turns.{Told, IsShaped, IsShapedAs, IsWorkDone, is_ended, idle_run, ends_worker, is_empty, is_busy, is_idle, is_leave, is_refused, counted, closed_by, AreTurnCounts, count_kind, lowered_in_all, visited_as, visited_in, visited_in_all, visited_count, IsRoomy}
use Rattle.ea_engine.specs.Closed.{entry_at, entry_of, IsClosedAs, IsClosedTurn, IsFreshAs, IsFreshTurn}
use Rattle.ea_engine.specs.Holds.{IsVisit}
use Rattle.ea_engine.specs.Worked.{Kit, kit, OnlySaw, Progress, IsTurn, IsWork, IsBrokenAs, IsLeftAs, IsFirstLeft, IsLoneAs, IsPoppingAs, AreInside}
use Rattle.ea_engine.proofs.Multisets.{same_length}
use Rattle.ea_engine.proofs.ProgressLemmas.{Progress-none, Progress-saw, Progress-then}
use Rattle.ea_engine.proofs.BoundLemmas.{IsStale-more, IsScanned-more, IsCut-more}
use Rattle.ea_engine.proofs.CounterLemmas.{index_push, count_push, visited_count_push, lowered_push, AreTurnCounts-push, pops_push, pushes_push, AreCounters-closed, IsRoomy-few}

some_one : (o : Option Entry) → IsSome o → length (option_to_list o) ≡ 1
some_one None h = absurd (false≢true h)
some_one (Some x) h = refl

none_zero : (o : Option Entry) → o ≡ None → length (option_to_list o) ≡ 0
none_zero o e = rw e refl

broken_size : (k : TurnKind) (broken : Option Entry) → IsBrokenAs k broken → length (option_to_list broken) ≡ cond (is_refused k) 1 0
broken_size Empty o e = none_zero o e
broken_size Busy o e = none_zero o e
broken_size Stale o e = none_zero o e
broken_size Scanned o e = none_zero o e
broken_size Cut o e = none_zero o e
broken_size Refused o e = some_one o e

whole_scan : (k : TurnKind) (broken : Option Entry) (leaves : Bool) → IsBrokenAs k broken → (is_refused k || leaves) ≡ false → broken ≡ None
whole_scan Empty o leaves e f = e
whole_scan Busy o leaves e f = e
whole_scan Stale o leaves e f = e
whole_scan Scanned o leaves e f = e
whole_scan Cut o leaves e f = e
whole_scan Refused o leaves e f = absurd (false≢true (sym f))

few_left : (k : TurnKind) (batch fresh : ℕ) (leaves : Bool) → IsLeftAs k batch fresh → (is_refused k || leaves) ≡ false → fresh < batch
few_left Empty batch fresh leaves e f = e
few_left Busy batch fresh leaves e f = e
few_left Stale batch fresh leaves e f = e
few_left Scanned batch fresh leaves e f = e
few_left Cut batch fresh leaves e f = e
few_left Refused batch fresh leaves e f = absurd (false≢true (sym f))

most_left : (k : TurnKind) (batch fresh : ℕ) → IsLeftAs k batch fresh → fresh ≤ batch
most_left Empty batch fresh e = omega (arith, e)
most_left Busy batch fresh e = omega (arith, e)
most_left Stale batch fresh e = omega (arith, e)
most_left Scanned batch fresh e = omega (arith, e)
most_left Cut batch fresh e = omega (arith, e)
most_left Refused batch fresh e = e.1

-- with batches of one entry a fresh one is left only by a refused push
one_left : (k : TurnKind) (batch fresh : ℕ) → batch ≡ 1 → IsLeftAs k batch fresh → fresh ≡ cond (is_refused k) 1 0
one_left Empty batch fresh one e = omega (arith, one, e)
one_left Busy batch fresh one e = omega (arith, one, e)
one_left Stale batch fresh one e = omega (arith, one, e)
one_left Scanned batch fresh one e = omega (arith, one, e)
one_left Cut batch fresh one e = omega (arith, one, e)
one_left Refused batch fresh one e = omega (arith, one, e.0, e.1)

pub popping_most : (k : TurnKind) (pops : ℕ) → IsPoppingAs k pops → pops ≤ 1
popping_most Empty pops e = omega (arith, e)
popping_most Busy pops e = omega (arith, e)
popping_most Stale pops e = e
popping_most Scanned pops e = e
popping_most Refused pops e = e
popping_most Cut pops e = e

-- an idle turn popped
popping_idle : (k : TurnKind) (pops : ℕ) → IsPoppingAs k pops → cond {A = ℕ} (is_empty k) 1 0 + cond {A = ℕ} (is_busy k) 1 0 ≤ pops
popping_idle Empty pops e = omega (arith, e)
popping_idle Busy pops e = omega (arith, e)
popping_idle Stale pops e = omega arith
popping_idle Scanned pops e = omega arith
popping_idle Refused pops e = omega arith
popping_idle Cut pops e = omega arith

visited_push : (ts : List Told) (t : Told) → visited_in_all (ts ++ t ∷ []) ≡ visited_in t.0 ++ visited_in_all ts
visited_push [] t = sym (append-nil (visited_in t.0))
visited_push (u ∷ ts) t = ap (λ xs. xs ++ visited_in u.0) (visited_push ts t) ∙ append_assoc (visited_in t.0) (visited_in_all ts) (visited_in u.0)

-- of an empty list
nothing_in : (f : Entry → ℕ) (xs : List Entry) → length xs ≡ 0 → total f xs ≡ 0
nothing_in f [] e = refl
nothing_in f (x ∷ xs) e = absurd (omega (arith, e))

none : {X : Type 0} (xs : List X) → length xs ≡ 0 → xs ≡ []
none [] e = refl
none (x ∷ xs) e = absurd (omega (arith, e))

-- a worker holds nothing
record IsBare (k : Kit) : Type 0 where
  taken : length k.taken ≡ 0
  fresh : length k.fresh ≡ 0

-- a turn that found both heaps empty leaves the account unchanged if the worker holds nothing
still : (a b : Kit) (words : ℕ) → IsBare a → IsBare b → Progress a b [] words 0 → NothingLeft a.account → NothingLeft b.account
still a b words bare bare' p nothing f = omega (
  arith,
  nothing f,
  p.pushed_are f,
  p.own_entries f,
  p.popped_are f,
  total-append f p.pushed a.account.pushed,
  total-append f p.pushed b.fresh,
  nothing_in f b.fresh bare'.fresh,
  nothing_in f (map entry_of p.lowerings) (length-map p.lowerings entry_of ∙ p.lowered_is),
  total-append f (map entry_of p.lowerings) a.fresh,
  nothing_in f a.fresh bare.fresh,
  total-append f b.account.popped a.taken,
  nothing_in f a.taken bare.taken,
  total-append f b.taken a.account.popped,
  nothing_in f b.taken bare'.taken,
)

-- if nothing is left, no entry is
none_left : (a : Account) (e : Entry) → NothingLeft a → IsLeft e a → ⊥
none_left a e nothing left = omega (arith, left, nothing (only e))

-- for each kind of heap, the first entry given was left
left_first : (kind : HeapKind) (e : Entry) (a : Account) → IsFirstLeft kind e a → IsLeft e a
left_first Least e a h = h.0
left_first Buckets e a h = h

-- if a turn found two heaps empty, this one or one before it, nothing is left
nothing_left : (kind : HeapKind) (k : TurnKind) (heaps n key node before : ℕ) (a b : Kit) (words : ℕ) → IsShapedAs k node key n → IsBare a → (is_refused k ≡ false → IsBare b) → Progress a b (visited_as k key node) words n
    → heaps ≡ 2 → IsLoneAs kind heaps a.account k (entry_at key node) → (0 < before → NothingLeft a.account) → 0 < before + cond (is_empty k) 1 0 → NothingLeft b.account
nothing_left kind Empty heaps n key node before a b words shaped bare bare' p two lone known some = still a b words bare (bare' refl) (subst (λ m. Progress a b [] words m) shaped.2 p) (lone two)
nothing_left kind Busy heaps n key node before a b words shaped bare bare' p two lone known some = absurd lone
nothing_left kind Stale heaps n key node before a b words shaped bare bare' p two lone known some = absurd (none_left a.account _ (known (omega (arith, some))) (left_first kind (entry_at key node) _ (lone two)))
nothing_left kind Scanned heaps n key node before a b words shaped bare bare' p two lone known some = absurd (none_left a.account _ (known (omega (arith, some))) (left_first kind (entry_at key node) _ (lone two)))
nothing_left kind Refused heaps n key node before a b words shaped bare bare' p two lone known some = absurd (none_left a.account _ (known (omega (arith, some))) (left_first kind (entry_at key node) _ (lone two)))
nothing_left kind Cut heaps n key node before a b words shaped bare bare' p two lone known some = absurd (none_left a.account _ (known (omega (arith, some))) (left_first kind (entry_at key node) _ (lone two)))

-- if nothing is left, a turn finds two heaps empty
empty_again : (kind : HeapKind) (k : TurnKind) (heaps key node : ℕ) (a : Account) → heaps ≡ 2 → IsLoneAs kind heaps a k (entry_at key node) → NothingLeft a → is_empty k ≡ true
empty_again kind Empty heaps key node a two lone nothing = refl
empty_again kind Busy heaps key node a two lone nothing = absurd lone
empty_again kind Stale heaps key node a two lone nothing = absurd (none_left a _ nothing (left_first kind (entry_at key node) _ (lone two)))
empty_again kind Scanned heaps key node a two lone nothing = absurd (none_left a _ nothing (left_first kind (entry_at key node) _ (lone two)))
empty_again kind Refused heaps key node a two lone nothing = absurd (none_left a _ nothing (left_first kind (entry_at key node) _ (lone two)))
empty_again kind Cut heaps key node a two lone nothing = absurd (none_left a _ nothing (left_first kind (entry_at key node) _ (lone two)))

module _ (problem : Problem) where
  pub IsClosedAs-more : (bs cs : List Bound) (hand hand' : List Entry) (k : TurnKind) (e : Entry) → ((b : Bound) → Contains bs b → Contains cs b) → ((x : Entry) → Contains hand x → Contains hand' x)
      → IsClosedAs problem bs hand k e → IsClosedAs problem cs hand' k e
  IsClosedAs-more bs cs hand hand' Empty e stays held h = tt
  IsClosedAs-more bs cs hand hand' Cut e stays held h = IsCut-more bs cs stays problem.query.target e h
  IsClosedAs-more bs cs hand hand' Busy e stays held h = tt
  IsClosedAs-more bs cs hand hand' Stale e stays held h = IsStale-more bs cs stays e h
  IsClosedAs-more bs cs hand hand' Scanned e stays held h = IsScanned-more bs cs stays problem e h
  IsClosedAs-more bs cs hand hand' Refused e stays held h = held e h

  -- what is fresh with more bounds is fresh with fewer
  IsFreshAs-less : (bs cs : List Bound) (k : TurnKind) (e : Entry) → ((b : Bound) → Contains bs b → Contains cs b) → IsFreshAs problem.query.target cs k e → IsFreshAs problem.query.target bs k e
  IsFreshAs-less bs cs Empty e stays h = tt
  IsFreshAs-less bs cs Busy e stays h = tt
  IsFreshAs-less bs cs Stale e stays h = tt
  IsFreshAs-less bs cs Scanned e stays h =
      (λ stale. h.0 (IsStale-more bs cs stays e stale), λ cut. h.1 (IsCut-more bs cs stays problem.query.target e cut))
  IsFreshAs-less bs cs Refused e stays h =
      (λ stale. h.0 (IsStale-more bs cs stays e stale), λ cut. h.1 (IsCut-more bs cs stays problem.query.target e cut))
  IsFreshAs-less bs cs Cut e stays h = λ stale. h (IsStale-more bs cs stays e stale)

  -- a visit before which labels were seen
  pub IsVisit-saw : (batch : ℕ) (r s : SeatRecord) (a : Account) (w : Stream) (taken fresh : List Entry) (to : Kit) (n : ℕ) (end : TurnEnd)
      → OnlySaw r s → IsVisit problem batch (kit s a w taken fresh) to n end → IsVisit problem batch (kit r a w taken fresh) to n end
  IsVisit-saw batch r s a w taken fresh to n end saw v = record {
    entry = v.entry;
    next = v.next;
    reached = v.reached;
    visit = record {
      visited = v.visit.visited;
      number_is = v.visit.number_is;
      shaped = v.visit.shaped;
      few = v.visit.few;
      broken_is = v.visit.broken_is;
      broken_visited = v.visit.broken_visited;
      broken_inside = v.visit.broken_inside;
      pops = v.visit.pops;
      pushes = v.visit.pushes;
      one_push_each = v.visit.one_push_each;
      fresh_few = v.visit.fresh_few;
      progress = Progress-then (kit r a w [] fresh) (kit s a w [] fresh) (kit to.labels to.account to.words [] to.fresh) [] [] [] 0 end.pushes end.pushes 0 end.turn.lowered end.turn.lowered
          (Progress-saw r s a w [] fresh saw) v.visit.progress refl (sym (zero-add end.pushes)) (sym (zero-add end.turn.lowered));
      closed = v.visit.closed;
      fresh = IsFreshAs-less r.bounds s.bounds end.turn.kind _ saw.bounds_stay v.visit.fresh;
    };
  }

  module _ {T : Type 0} (shows : T → Turn → Flow → T → Type 0) (heaps : ℕ) where
    pub record SoFar (from to : Kit) (pace : Pace) (tracer tracer' : T) (counters : Counters) (broken : Option Entry) (number idle : ℕ) (ended : Bool) : Type 0 where
      pub turns : List Told
      pub numbered : (i : ℕ) (d : Told) → i < length turns → (get_or turns i d).0.number ≡ i
      pub shaped : (i : ℕ) (d : Told) → i < length turns → IsShaped (get_or turns i d).0
      pub not_before : (n : ℕ) → n < length turns → IsWorkDone pace (take n turns) → ⊥
      pub number_is : length turns ≡ number
      pub idle_is : idle_run turns ≡ idle
      pub ended_is : is_ended turns ≡ ended
      pub few : lowered_in_all turns ≤ number * 2 ^ 28
      pub shown : FoldsTo (λ p t q. shows p t.0 t.1 q) tracer turns tracer'
      pub counted : AreTurnCounts turns counters
      pub pops_few : counters.pops ≤ length turns
      pub idle_pops : counters.empty + counters.busy ≤ counters.pops
      pub pushes_few : counters.pushes ≤ lowered_in_all turns + length turns
      pub one_each : pace.batch ≡ 1 → (counters.pops ≡ length turns) × (counters.pushes ≡ lowered_in_all turns)
      pub progress : Progress from to (visited_in_all turns) (2 * counters.pops + counters.pushes) (lowered_in_all turns)
      pub reached : AreReachedOf problem (visited_in_all turns)
      pub closed : (i : ℕ) (d : Told) → i < length turns → IsClosedTurn problem to.labels.bounds (option_to_list broken) (get_or turns i d).0
      pub fresh : (i : ℕ) (d : Told) → i < length turns → IsFreshTurn problem.query.target from.labels.bounds (get_or turns i d).0
      pub broken_visited : (entry : Entry) → Contains (option_to_list broken) entry → Contains (visited_in_all turns) entry
      pub broken_inside : IfSome broken (λ entry. IsNode problem.network.nodes entry.node)
      pub whole : ended ≡ false → broken ≡ None
      pub taken_few : length to.taken < pace.batch
      pub fresh_few : length to.fresh ≤ pace.batch
      pub fresh_left : ended ≡ false → length to.fresh < pace.batch
      pub fresh_back : pace.batch ≡ 1 → length to.fresh ≡ count_kind is_refused turns
      pub visited_is : length (visited_in_all turns) ≡ visited_count turns
      pub broken_back : length (option_to_list broken) ≡ count_kind is_refused turns
      pub never_busy : from.account.shares ≡ SHARES → count_kind is_busy turns ≡ 0
      pub stays_empty : pace.batch ≡ 1 → from.account.shares ≡ SHARES → heaps ≡ 2 → (i : ℕ) (d : Told) → i < length turns → 0 < count_kind is_empty (take i turns) → is_empty (get_or turns i d).0.kind ≡ true
      pub empty_so_far : pace.batch ≡ 1 → from.account.shares ≡ SHARES → heaps ≡ 2 → 0 < count_kind is_empty turns → NothingLeft to.account

    pub SoFar-start : (k : Kit) (pace : Pace) (tracer : T) (counters : Counters) (broken : Option Entry) → AreTurnCounts [] counters → counters.pops ≡ 0 → counters.pushes ≡ 0 → broken ≡ None
        → k.taken ≡ [] → k.fresh ≡ [] → 1 ≤ pace.batch
        → SoFar k k pace tracer tracer counters broken 0 0 false
    SoFar-start k pace tracer counters broken zeros pops pushes nothing taken fresh some = record {
      turns = [];
      numbered = λ i d lt. absurd (omega arith);
      shaped = λ i d lt. absurd (omega arith);
      not_before = λ n lt. absurd (omega arith);
      number_is = refl;
      idle_is = refl;
      ended_is = refl;
      few = omega arith;
      shown = refl;
      counted = zeros;
      pops_few = omega (arith, pops);
      idle_pops = omega (arith, zeros.empty, zeros.busy);
      pushes_few = omega (arith, pushes);
      one_each = λ one. (pops, pushes);
      progress = rw (pops, pushes) (Progress-none k);
      reached = All-nil (λ (e : Entry). Reaches problem.network problem.answers problem.query.sources e.node e.key);
      closed = λ i d lt. absurd (omega arith);
      fresh = λ i d lt. absurd (omega arith);
      broken_visited = λ e inside. absurd (omega (arith, (rw nothing at inside).1));
      broken_inside = rw nothing tt;
      whole = λ e. nothing;
      taken_few = omega (arith, ap length taken, some);
      fresh_few = omega (arith, ap length fresh);
      fresh_left = λ e. omega (arith, ap length fresh, some);
      fresh_back = λ one. ap length fresh;
      visited_is = refl;
      broken_back = rw nothing refl;
      never_busy = λ whole. refl;
      stays_empty = λ one whole two i d lt. absurd (omega arith);
      empty_so_far = λ one whole two some. absurd (omega (arith, some));
    }

    pub SoFar-roomy : (from to : Kit) (pace : Pace) (tracer tracer' : T) (counters : Counters) (broken : Option Entry) (number idle : ℕ) (ended : Bool)
        → SoFar from to pace tracer tracer' counters broken number idle ended → number ≤ 1000000000 → IsRoomy counters
    SoFar-roomy from to pace tracer tracer' counters broken number idle ended h few =
        IsRoomy-few h.turns counters h.counted (omega (arith, h.number_is)) (omega (arith, h.few)) h.pops_few h.pushes_few

    -- no proper prefix of the turn list is over, nor is the list while the loop continues
    not_over : (from to : Kit) (pace : Pace) (tracer tracer' : T) (counters : Counters) (broken : Option Entry) (number idle : ℕ)
        → (h : SoFar from to pace tracer tracer' counters broken number idle false) → idle < pace.patience → number < pace.turns → IsWorkDone pace h.turns → ⊥
    not_over from to pace tracer tracer' counters broken number idle h low more over = elim over [
      | inl spent ↦ omega (arith, spent, h.number_is)
      | inr (inl done) ↦ false≢true (sym h.ended_is ∙ done)
      | inr (inr waits) ↦ omega (arith, waits, h.idle_is)
    ]

    -- one more turn
    module _ {kind : HeapKind} (from mid to : Kit) (pace : Pace) (tracer tracer' tracer'' : T) (counters counters' : Counters) (broken : Option Entry) (number idle idle' : ℕ) (ended' : Bool) (end : TurnEnd) (flow : Flow)
        (h : SoFar from mid pace tracer tracer' counters broken number idle false)
        (low : idle < pace.patience) (more : number < pace.turns)
        (one : IsTurn problem kind pace.batch heaps mid to number end)
        (pushes : end.pushes ≤ end.turn.lowered + 1)
        (told : shows tracer' end.turn flow tracer'')
        (counts : counters' ≡ counted counters end)
        (idles : idle' ≡ (if is_idle end.turn.kind then idle + 1 else 0))
        (ends : ended' ≡ (is_refused end.turn.kind || is_leave flow)) where
      told_turn : Told
      told_turn = (end.turn, flow)

      none_refused : count_kind is_refused h.turns ≡ 0
      none_refused = sym h.broken_back ∙ ap (λ o. length (option_to_list o)) (h.whole refl)

      pops_now : counters'.pops ≡ counters.pops + end.pops
      pops_now = ap (λ (c : Counters). c.pops) counts ∙ pops_push end counters

      pushes_now : counters'.pushes ≡ counters.pushes + end.pushes
      pushes_now = ap (λ (c : Counters). c.pushes) counts ∙ pushes_push end counters

      counted_now : AreTurnCounts (h.turns ++ (end.turn, flow) ∷ []) counters'
      counted_now = subst (λ (c : Counters). AreTurnCounts (h.turns ++ (end.turn, flow) ∷ []) c) (sym counts) (AreTurnCounts-push h.turns end flow counters h.counted)

      refused_now : count_kind is_refused (h.turns ++ (end.turn, flow) ∷ []) ≡ cond (is_refused end.turn.kind) 1 0
      refused_now = count_push is_refused h.turns (end.turn, flow) ∙ ap (λ n. n + cond (is_refused end.turn.kind) 1 0) none_refused ∙ zero-add _

      bare : pace.batch ≡ 1 → IsBare mid
      bare is = record { taken = omega (arith, is, h.taken_few); fresh = omega (arith, is, h.fresh_left refl) }

      bare_after : pace.batch ≡ 1 → is_refused end.turn.kind ≡ false → IsBare to
      bare_after is not = record {
        taken = omega (arith, is, one.taken_few);
        fresh = one_left end.turn.kind pace.batch (length to.fresh) is one.fresh_few ∙ ap (λ b. cond b 1 0) not;
      }

      lone : pace.batch ≡ 1 → from.account.shares ≡ SHARES → IsLoneAs kind heaps mid.account end.turn.kind (entry_at end.turn.key end.turn.node)
      lone is whole = one.lone (none mid.taken (bare is).taken) (h.progress.pool_shares ∙ whole)

      pub SoFar-more : SoFar from to pace tracer tracer'' counters' end.broken (number + 1) idle' ended'
      SoFar-more = record {
        turns = h.turns ++ (end.turn, flow) ∷ [];
        numbered = index_push (λ i t. t.0.number ≡ i) h.turns (end.turn, flow) h.numbered (one.number_is ∙ sym h.number_is);
        shaped = index_push (λ i t. IsShaped t.0) h.turns (end.turn, flow) h.shaped one.shaped;
        not_before = λ n lt. below_more (λ m. IsWorkDone pace (take m (h.turns ++ (end.turn, flow) ∷ [])) → ⊥) (length h.turns)
            (λ m less over. h.not_before m less (rw (take-append-le m h.turns ((end.turn, flow) ∷ []) (omega arith)) at over))
            (λ over. not_over from mid pace tracer tracer' counters broken number idle h low more (rw (take-append_seam h.turns ((end.turn, flow) ∷ [])) at over))
            n (omega (arith, length-append h.turns ((end.turn, flow) ∷ [])));
        number_is = length-append h.turns ((end.turn, flow) ∷ []) ∙ ap (λ n. n + 1) h.number_is;
        idle_is = fold-append (λ (n : ℕ) (t : Told). if is_idle t.0.kind then n + 1 else 0) 0 h.turns ((end.turn, flow) ∷ [])
            ∙ ap (λ n. if is_idle end.turn.kind then n + 1 else 0) h.idle_is ∙ sym idles;
        ended_is = fold-append (λ (b : Bool) (t : Told). ends_worker t) false h.turns ((end.turn, flow) ∷ []) ∙ sym ends;
        few = omega (arith, lowered_push h.turns (end.turn, flow), h.few, one.few);
        shown = FoldsTo-push (λ p t q. shows p t.0 t.1 q) tracer h.turns tracer' (end.turn, flow) tracer'' h.shown told;
        counted = counted_now;
        pops_few = omega (arith, pops_now, h.pops_few, popping_most end.turn.kind end.pops one.pops, length-append h.turns ((end.turn, flow) ∷ []));
        idle_pops = omega (
          arith,
          pops_now,
          h.idle_pops,
          h.counted.empty,
          h.counted.busy,
          counted_now.empty,
          counted_now.busy,
          count_push is_empty h.turns (end.turn, flow),
          count_push is_busy h.turns (end.turn, flow),
          popping_idle end.turn.kind end.pops one.pops,
        );
        pushes_few = omega (arith, pushes_now, h.pushes_few, pushes, lowered_push h.turns (end.turn, flow), length-append h.turns ((end.turn, flow) ∷ []));
        one_each = λ is.
            let each = one.one_push_each is in
            let before = h.one_each is in (
              omega (arith, pops_now, each.0, before.0, length-append h.turns ((end.turn, flow) ∷ [])),
              omega (arith, pushes_now, each.1, before.1, lowered_push h.turns (end.turn, flow)),
            );
        progress = Progress-then from mid to (visited_in_all h.turns) (visited_in end.turn) _ (2 * counters.pops + counters.pushes) (2 * end.pops + end.pushes) _
            (lowered_in_all h.turns) end.turn.lowered _ h.progress one.progress
            (visited_push h.turns (end.turn, flow))
            (omega (arith, pops_now, pushes_now)) (lowered_push h.turns (end.turn, flow));
        reached = rw (visited_push h.turns (end.turn, flow)) (All-append (λ (e : Entry). Reaches problem.network problem.answers problem.query.sources e.node e.key) (visited_in end.turn) (visited_in_all h.turns) one.reached h.reached);
        closed = index_push (λ i t. IsClosedTurn problem to.labels.bounds (option_to_list end.broken) t.0) h.turns (end.turn, flow)
            (λ i d lt. IsClosedAs-more mid.labels.bounds to.labels.bounds (option_to_list broken) (option_to_list end.broken) _ _ one.progress.bounds_stay (λ x inside. absurd (omega (arith, (rw (h.whole refl) at inside).1))) (h.closed i d lt)) one.closed;
        fresh = index_push (λ i t. IsFreshTurn problem.query.target from.labels.bounds t.0) h.turns (end.turn, flow) h.fresh (IsFreshAs-less from.labels.bounds mid.labels.bounds end.turn.kind _ h.progress.bounds_stay one.fresh);
        broken_visited = λ e inside. rw (visited_push h.turns (end.turn, flow)) (Contains-append_left (visited_in end.turn) (visited_in_all h.turns) e (one.broken_visited e inside));
        broken_inside = one.broken_inside;
        whole = λ e. whole_scan end.turn.kind end.broken (is_leave flow) one.broken_is (sym ends ∙ e);
        taken_few = one.taken_few;
        fresh_few = most_left end.turn.kind pace.batch (length to.fresh) one.fresh_few;
        fresh_left = λ e. few_left end.turn.kind pace.batch (length to.fresh) (is_leave flow) one.fresh_few (sym ends ∙ e);
        fresh_back = λ is. one_left end.turn.kind pace.batch (length to.fresh) is one.fresh_few ∙ sym refused_now;
        visited_is = omega (arith, h.visited_is, visited_count_push h.turns (end.turn, flow), ap length (visited_push h.turns (end.turn, flow)), length-append (visited_in end.turn) (visited_in_all h.turns));
        broken_back = broken_size end.turn.kind end.broken one.broken_is ∙ sym refused_now;
        never_busy = λ whole. omega (arith, count_push is_busy h.turns (end.turn, flow), h.never_busy whole, ap (λ b. cond {A = ℕ} b 1 0) (one.never_busy (h.progress.pool_shares ∙ whole)));
        stays_empty = λ is whole two. index_push (λ i t. 0 < count_kind is_empty (take i (h.turns ++ (end.turn, flow) ∷ [])) → is_empty t.0.kind ≡ true) h.turns (end.turn, flow)
            (λ i d lt some. h.stays_empty is whole two i d lt (rw (take-append-le i h.turns ((end.turn, flow) ∷ []) (omega arith)) at some))
            (λ some. empty_again kind end.turn.kind heaps end.turn.key end.turn.node mid.account two (lone is whole) (h.empty_so_far is whole two (rw (take-append_seam h.turns ((end.turn, flow) ∷ [])) at some)));
        empty_so_far = λ is whole two some. nothing_left kind end.turn.kind heaps end.turn.lowered end.turn.key end.turn.node (count_kind is_empty h.turns) mid to _ one.shaped (bare is) (bare_after is) one.progress two (lone is whole) (h.empty_so_far is whole two)
            (omega (arith, some, count_push is_empty h.turns (end.turn, flow)));
      }

    -- this many of the lowered entries are pushed or fresh
    pushed_or_fresh : (a b : Kit) (visited : List Entry) (words lowered : ℕ) (p : Progress a b visited words lowered) → length a.fresh ≡ 0 → length p.pushed + length b.fresh ≡ lowered
    pushed_or_fresh a b visited words lowered p bare = omega (
      arith,
      same_length (p.pushed ++ b.fresh) (map entry_of p.lowerings ++ a.fresh) p.own_entries,
      length-append p.pushed b.fresh,
      length-append (map entry_of p.lowerings) a.fresh,
      length-map p.lowerings entry_of,
      p.lowered_is,
    )

    pushed_more : (a b : Kit) (visited : List Entry) (words lowered : ℕ) (p : Progress a b visited words lowered) → length b.account.pushed ≡ length p.pushed + length a.account.pushed
    pushed_more a b visited words lowered p = omega (
      arith,
      same_length b.account.pushed (p.pushed ++ a.account.pushed) p.pushed_are,
      length-append p.pushed a.account.pushed,
    )

    pub fresh_of_lowered : (from to : Kit) (pace : Pace) (tracer tracer' : T) (counters : Counters) (broken : Option Entry) (number idle : ℕ) (ended : Bool)
        → (h : SoFar from to pace tracer tracer' counters broken number idle ended) → from.fresh ≡ [] → length to.fresh ≤ counters.lowered
    fresh_of_lowered from to pace tracer tracer' counters broken number idle ended h bare =
        omega (arith, pushed_or_fresh from to _ _ _ h.progress (ap length bare), h.counted.lowered)

    pub SoFar-end : (from to : Kit) (pace : Pace) (tracer tracer' : T) (counters counters' : Counters) (hand : Hand) (number idle : ℕ) (ended : Bool)
        → SoFar from to pace tracer tracer' counters hand.popped number idle ended → number ≤ 1000000000 → (ended ≡ true) ⊎ (pace.patience ≤ idle) ⊎ (pace.turns ≤ number)
        → from.taken ≡ [] → from.fresh ≡ [] → to.taken ≡ hand.taken.items → to.fresh ≡ hand.fresh.items
        → AreInside problem.network.nodes hand.taken.items → AreInside problem.network.nodes hand.fresh.items
        → length hand.fresh.items ≤ counters.lowered
        → counters' ≡ closed_by (array_vec_len hand.taken) (array_vec_len hand.fresh) counters
        → IsWork problem shows heaps from to pace tracer tracer' counters' hand
    SoFar-end from to pace tracer tracer' counters counters' hand number idle ended h small why bare_taken bare_fresh taken fresh inside inside' few closes =
        let c = closed_by (array_vec_len hand.taken) (array_vec_len hand.fresh) counters in
        let roomy = SoFar-roomy from to pace tracer tracer' counters hand.popped number idle ended h small in
        let one_popped : length (option_to_list hand.popped) ≡ counters.refused = h.broken_back ∙ sym h.counted.refused in
        subst (λ (d : Counters). IsWork problem shows heaps from to pace tracer tracer' d hand) (sym closes) (record {
          turns = h.turns;
          lawful = record {
            numbered = h.numbered;
            shaped = λ k d lt. h.shaped k d lt;
            over = elim why [
              | inl done ↦ inr (inl (h.ended_is ∙ done))
              | inr (inl waits) ↦ inr (inr (omega (arith, waits, h.idle_is)))
              | inr (inr spent) ↦ inl (omega (arith, spent, h.number_is))
            ];
            not_before = h.not_before;
          };
          shown = h.shown;
          counted = AreCounters-closed pace.batch h.turns counters (array_vec_len hand.taken) (array_vec_len hand.fresh) h.counted few h.pops_few h.idle_pops h.pushes_few
              (λ is. (
                (h.one_each is).0,
                (h.one_each is).1,
                omega (arith, is, h.taken_few, ap length taken),
                omega (arith, h.fresh_back is, ap length fresh, h.counted.refused),
              ));
          progress = h.progress;
          reached = λ k d lt. h.reached k d lt;
          closed = λ k d lt. h.closed k d lt;
          fresh = λ k d lt. h.fresh k d lt;
          hand_popped = h.broken_visited;
          hand_inside = record { popped = h.broken_inside; taken = inside; fresh = inside' };
          hand_few = omega (arith, h.taken_few, h.fresh_few, ap length taken, ap length fresh, one_or_none hand.popped);
          unvisited_is = refl;
          returned_is = omega (arith, one_popped);
          pushed_is = omega (
            arith,
            pushed_or_fresh from to _ _ _ h.progress (ap length bare_fresh),
            pushed_more from to _ _ _ h.progress,
            ap length fresh,
            h.counted.lowered,
            few,
          );
          pushed_few = omega (arith, roomy.lowered);
          popped_is = omega (
            arith,
            same_length (to.account.popped ++ from.taken) (visited_in_all h.turns ++ (to.taken ++ from.account.popped)) h.progress.popped_are,
            length-append to.account.popped from.taken,
            ap length bare_taken,
            length-append (visited_in_all h.turns) (to.taken ++ from.account.popped),
            length-append to.taken from.account.popped,
            ap length taken,
            h.visited_is,
            h.counted.stale,
            h.counted.scanned,
            h.counted.refused,
            h.counted.cut,
          );
          never_busy = λ whole. h.counted.busy ∙ h.never_busy whole;
          stays_empty = λ is whole two k d lt some. h.stays_empty is whole two k d lt some;
          empty_at_end = λ is whole two some. h.empty_so_far is whole two (omega (arith, some, h.counted.empty));
        })
      where
        one_or_none : (o : Option Entry) → length (option_to_list o) ≤ 1
        one_or_none None = omega arith
        one_or_none (Some x) = omega arith
