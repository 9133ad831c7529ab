-- What a worker did with its two seats and its generator, and what its tracer saw.
use Rattle.std.specs.Prelude.{◌≡◌, ℕ, ◌+◌, ◌*◌, ◌^◌, ◌<◌, ◌≤◌, false, List, [], ◌++◌, map, length, Contains, All, None, Option, IsSome, IfSome}
use Rattle.std.specs.Option.{option_to_list}
use Rattle.arrayvec.specs.ArrayVec.{array_vec_len}
use Rattle.ea_engine.specs.declared.worker.turn.Hand.{Hand}
use Rattle.ea_engine.specs.declared.worker.turn.TurnEnd.{TurnEnd}
use Rattle.ea_engine.specs.declared.worker.turn.TurnKind.{TurnKind}
use Rattle.ea_engine.specs.declared.worker.turn.TurnKind.TheVariants.{Empty, Busy, Stale, Scanned, Refused, Cut}
use Rattle.std.specs.List.{FoldsTo}
use Rattle.rand_core.specs.Stream.{Stream}
use Rattle.ea_road.specs.Roads.{IsNode}
use Rattle.ea_pool.specs.declared.heap.entry.Entry.{Entry}
use Rattle.ea_pool.specs.Entries.{SameEntries}
use Rattle.ea_engine.specs.declared.settings.Pace.{Pace}
use Rattle.ea_engine.specs.declared.worker.turn.Turn.{Turn}
use Rattle.ea_engine.specs.declared.worker.turn.Flow.{Flow}
use Rattle.ea_engine.specs.declared.worker.counters.Counters.{Counters}
use Rattle.ea_engine.specs.Words.{after_words}
use Rattle.ea_labels.specs.declared.record.Bound.{Bound}
use Rattle.ea_labels.specs.declared.record.Lowering.{Lowering}
use Rattle.ea_labels.specs.declared.record.SeatRecord.{SeatRecord}
use Rattle.ea_pool.specs.declared.shared.account.Account.{Account}
use Rattle.ea_base.specs.declared.limits.TheConstants.{SHARES}
use Rattle.ea_pool.specs.Kinds.{HeapKind, Least, Buckets}
use Rattle.ea_pool.specs.Pools.{NothingLeft, IsLeft, IsLeastLeft}
use Rattle.ea_engine.specs.Problems.{Problem, AreReachedOf}
use Rattle.ea_engine.specs.Turns.{Told, IsTurnList, IsShaped, is_busy, StaysEmpty, AreCounters, visited_in, visited_in_all, lowered_in_all}
use Rattle.ea_engine.specs.Closed.{entry_at, entry_of, IsClosedTurn, IsFreshTurn}

-- What a worker has: its two seats, its generator, the popped entries that it hasn't visited, and the fresh
-- entries that the pool hasn't taken.
pub record Kit : Type 0 where
  pub labels : SeatRecord
  pub account : Account
  pub words : Stream
  pub taken : List Entry
  pub fresh : List Entry

abbrev pub kit : SeatRecord → Account → Stream → List Entry → List Entry → Kit
kit r a s taken fresh = record { labels = r; account = a; words = s; taken = taken; fresh = fresh }

-- A seat of the labels saw some of them and lowered none.
pub record OnlySaw (from to : SeatRecord) : Type 0 where
  pub lowerings_are : to.lowerings ≡ from.lowerings
  pub bounds_stay : (b : Bound) → Contains from.bounds b → Contains to.bounds b
  pub shares_are : to.shares ≡ from.shares

-- From `from` to `to` the worker visited these entries, drew this many words and lowered this many labels.
-- Each popped entry was visited or is taken; the entry of each lowered label was pushed or is fresh.
pub record Progress (from to : Kit) (visited : List Entry) (words lowered : ℕ) : Type 0 where
  pub lowerings : List Lowering
  pub pushed : List Entry
  pub lowerings_are : to.labels.lowerings ≡ lowerings ++ from.labels.lowerings
  pub lowered_is : length lowerings ≡ lowered
  pub bounds_stay : (b : Bound) → Contains from.labels.bounds b → Contains to.labels.bounds b
  pub label_shares : to.labels.shares ≡ from.labels.shares
  pub pool_shares : to.account.shares ≡ from.account.shares
  pub popped_are : SameEntries (to.account.popped ++ from.taken) (visited ++ (to.taken ++ from.account.popped))
  pub pushed_are : SameEntries to.account.pushed (pushed ++ from.account.pushed)
  pub own_entries : SameEntries (pushed ++ to.fresh) (map entry_of lowerings ++ from.fresh)
  pub words_are : to.words ≡ after_words words from.words

-- The popped entries that a worker hands back.
abbrev pub back_of : Hand → List Entry
back_of h = option_to_list h.popped ++ h.taken.items

-- The number of entries that a worker hands back.
abbrev pub hand_size : Hand → ℕ
hand_size h = length (option_to_list h.popped) + array_vec_len h.taken + array_vec_len h.fresh

-- The entries are at some of this many nodes.
abbrev pub AreInside : ℕ → List Entry → Type 0
AreInside nodes entries = (entry : Entry) → Contains entries entry → IsNode nodes entry.node

-- The entries that a worker hands back are at some of this many nodes.
pub record IsHandInside (nodes : ℕ) (hand : Hand) : Type 0 where
  pub popped : IfSome hand.popped (λ entry. IsNode nodes entry.node)
  pub taken : AreInside nodes hand.taken.items
  pub fresh : AreInside nodes hand.fresh.items

-- A scan ends early exactly if a push was refused.
abbrev pub IsBrokenAs : TurnKind → Option Entry → Type 0
IsBrokenAs Empty broken = broken ≡ None
IsBrokenAs Busy broken = broken ≡ None
IsBrokenAs Stale broken = broken ≡ None
IsBrokenAs Scanned broken = broken ≡ None
IsBrokenAs Refused broken = IsSome broken
IsBrokenAs Cut broken = broken ≡ None

-- Fewer fresh entries than a batch are left; after a refused push, at least one.
abbrev pub IsLeftAs : TurnKind → ℕ → ℕ → Type 0
IsLeftAs Empty batch fresh = fresh < batch
IsLeftAs Busy batch fresh = fresh < batch
IsLeftAs Stale batch fresh = fresh < batch
IsLeftAs Scanned batch fresh = fresh < batch
IsLeftAs Refused batch fresh = (0 < fresh) × (fresh ≤ batch)
IsLeftAs Cut batch fresh = fresh < batch

-- An entry that was left, with the least key if heaps give their least entry first.
abbrev pub IsFirstLeft : HeapKind → Entry → Account → Type 0
IsFirstLeft Least entry account = IsLeastLeft entry account
IsFirstLeft Buckets entry account = IsLeft entry account

-- For a seat with all shares, and its account before a turn: no turn is busy. With two heaps, a turn that
-- found both empty shows that nothing is left, and a turn that popped an entry shows that it was left, with
-- the least key as the kind of heap promises.
abbrev pub IsLoneAs : HeapKind → ℕ → Account → TurnKind → Entry → Type 0
IsLoneAs kind heaps account Empty entry = heaps ≡ 2 → NothingLeft account
IsLoneAs kind heaps account Busy entry = ⊥
IsLoneAs kind heaps account Stale entry = heaps ≡ 2 → IsFirstLeft kind entry account
IsLoneAs kind heaps account Scanned entry = heaps ≡ 2 → IsFirstLeft kind entry account
IsLoneAs kind heaps account Refused entry = heaps ≡ 2 → IsFirstLeft kind entry account
IsLoneAs kind heaps account Cut entry = heaps ≡ 2 → IsFirstLeft kind entry account

-- Only a turn that pops is idle.
abbrev pub IsPoppingAs : TurnKind → ℕ → Type 0
IsPoppingAs Empty pops = pops ≡ 1
IsPoppingAs Busy pops = pops ≡ 1
IsPoppingAs Stale pops = pops ≤ 1
IsPoppingAs Scanned pops = pops ≤ 1
IsPoppingAs Refused pops = pops ≤ 1
IsPoppingAs Cut pops = pops ≤ 1

module _ (problem : Problem) where
  -- One turn with batches of this size, on a pool of this many heaps of a kind.
  pub record IsTurn (kind : HeapKind) (batch heaps : ℕ) (from to : Kit) (number : ℕ) (end : TurnEnd) : Type 0 where
    pub number_is : end.turn.number ≡ number
    pub shaped : IsShaped end.turn
    pub few : end.turn.lowered ≤ 2 ^ 28
    pub broken_is : IsBrokenAs end.turn.kind end.broken
    pub broken_visited : (entry : Entry) → Contains (option_to_list end.broken) entry → Contains (visited_in end.turn) entry
    pub broken_inside : IfSome end.broken (λ entry. IsNode problem.network.nodes entry.node)
    pub pops : IsPoppingAs end.turn.kind end.pops
    pub one_push_each : batch ≡ 1 → (end.pops ≡ 1) × (end.pushes ≡ end.turn.lowered)
    pub taken_few : length to.taken < batch
    pub fresh_few : IsLeftAs end.turn.kind batch (length to.fresh)
    pub progress : Progress from to (visited_in end.turn) (2 * end.pops + end.pushes) end.turn.lowered
    pub reached : AreReachedOf problem (visited_in end.turn)
    pub closed : IsClosedTurn problem to.labels.bounds (option_to_list end.broken) end.turn
    pub fresh : IsFreshTurn problem.query.target from.labels.bounds end.turn
    -- A seat with all shares is never busy, and learns more from a pop.
    pub never_busy : from.account.shares ≡ SHARES → is_busy end.turn.kind ≡ false
    pub lone : from.taken ≡ [] → from.account.shares ≡ SHARES → IsLoneAs kind heaps from.account end.turn.kind (entry_at end.turn.key end.turn.node)

  -- The same, with at most this many pushes more than labels fell.
  pub record IsTurnWithin (kind : HeapKind) (batch heaps extra : ℕ) (from to : Kit) (number : ℕ) (end : TurnEnd) : Type 0 where
    pub turn : IsTurn kind batch heaps from to number end
    pub pushes : end.pushes ≤ end.turn.lowered + extra

  module _ {T : Type 0} (shows : T → Turn → Flow → T → Type 0) where
    -- The worker showed its tracer the turns of one lawful turn list, each once and in order. The pool has
    -- this many heaps.
    pub record IsWork (heaps : ℕ) (from to : Kit) (pace : Pace) (tracer tracer' : T) (counters : Counters) (hand : Hand) : Type 0 where
      pub turns : List Told
      pub lawful : IsTurnList pace turns
      pub shown : FoldsTo (λ p t q. shows p t.0 t.1 q) tracer turns tracer'
      pub counted : AreCounters pace.batch turns counters
      pub progress : Progress from to (visited_in_all turns) (2 * counters.pops + counters.pushes) (lowered_in_all turns)
      pub reached : AreReachedOf problem (visited_in_all turns)
      pub closed : All (λ t. IsClosedTurn problem to.labels.bounds (option_to_list hand.popped) t.0) turns
      pub fresh : All (λ t. IsFreshTurn problem.query.target from.labels.bounds t.0) turns
      pub hand_popped : (entry : Entry) → Contains (option_to_list hand.popped) entry → Contains (visited_in_all turns) entry
      pub hand_inside : IsHandInside problem.network.nodes hand
      pub hand_few : hand_size hand ≤ 2 * pace.batch
      pub unvisited_is : counters.unvisited ≡ array_vec_len hand.taken
      pub returned_is : counters.returned ≡ hand_size hand
      pub pushed_is : length to.account.pushed ≡ length from.account.pushed + counters.pushed
      pub pushed_few : counters.pushed < 2 ^ 62
      pub popped_is : length to.account.popped ≡ length from.account.popped + counters.popped
      -- A seat with all shares is never busy.
      pub never_busy : from.account.shares ≡ SHARES → counters.busy ≡ 0
      -- With batches of one entry, if a turn found two heaps empty, so did each later one, and what it pushed
      -- is what it popped.
      pub stays_empty : pace.batch ≡ 1 → from.account.shares ≡ SHARES → heaps ≡ 2 → StaysEmpty turns
      pub empty_at_end : pace.batch ≡ 1 → from.account.shares ≡ SHARES → heaps ≡ 2 → 0 < counters.empty → NothingLeft to.account
