-- What a worker holds after a pop, and the effect of visiting the next entry.
use Rattle.std.specs.Prelude.{◌≡◌, ℕ, ◌^◌, ◌<◌, ◌≤◌, List, [], ◌∷◌, ◌++◌, length, reverse, Contains, IfSome}
use Rattle.std.specs.Option.{option_to_list}
use Rattle.rand_core.specs.Stream.{Stream}
use Rattle.ea_base.specs.declared.limits.TheConstants.{MOST_BATCH, SHARES}
use Rattle.ea_road.specs.Arrivals.{Reaches}
use Rattle.ea_road.specs.Roads.{IsNode}
use Rattle.ea_pool.specs.declared.heap.entry.Entry.{Entry}
use Rattle.ea_pool.specs.declared.shared.account.Account.{Account}
use Rattle.ea_pool.specs.Batches.{IsLowest, MatchSome}
use Rattle.ea_pool.specs.Entries.{AreKnown, IsAscending}
use Rattle.ea_pool.specs.Kinds.{HeapKind, Least, Buckets}
use Rattle.ea_pool.specs.Pools.{AreLeft, NothingLeft, PopsAll, SameBooks}
use Rattle.ea_pool.specs.Seats as pools
use Rattle.ea_pool.specs.Tries.{LookedAt, WasBusy}
use Rattle.ea_pool.specs.declared.shared.reply.PoppedSome.{PoppedSome}
use Rattle.ea_pool.specs.declared.shared.words.TheConstants.{EMPTY}
use Rattle.ea_engine.specs.declared.worker.turn.TurnEnd.{TurnEnd}
use Rattle.ea_engine.specs.Problems.{Problem}
use Rattle.ea_engine.specs.Closed.{IsClosedTurn, IsFreshTurn}
use Rattle.ea_engine.specs.Looks.{first_heap, second_heap}
use Rattle.ea_engine.specs.Turns.{IsShaped, visited_in}
use Rattle.ea_engine.specs.Words.{after_words}
use Rattle.ea_engine.specs.Worked.{Kit, kit, Progress, IsBrokenAs, IsLeftAs}

-- Heaps that give the least entry first give entries in ascending order.
abbrev pub ComeInOrder : HeapKind → List Entry → Type 0
ComeInOrder Least entries = IsAscending entries
ComeInOrder Buckets entries = Unit {0}

-- A pop from this many heaps of a kind returned between one and `most` known entries, the first one last. If
-- the seat has all shares, the entries were left in the pool. If it also has just two heaps, the first has
-- the least key of all that is left; with buckets, no key that is left is below the word under which it was
-- popped.
pub record TookSome (known : ℕ → ℕ → Type 0) (kind : HeapKind) (heaps most : ℕ) (taken : List Entry) (before after : Account) : Type 0 where
  pub out : List Entry
  pub turned : taken ≡ reverse out
  pub some : 0 < length out
  pub few : length out ≤ most
  pub popped : PopsAll before out after
  pub known_all : AreKnown known out
  pub ascending : ComeInOrder kind out
  pub left : before.shares ≡ SHARES → AreLeft out before
  pub word : ℕ
  pub lowest : IsLowest kind heaps word out before

-- A seat of the pool by which a batch may be taken; no entry is taken.
pub record MayTake (pool : pools.PoolView) (seat : pools.SeatView) (most : ℕ) (taken : List Entry) : Type 0 where
  pub of_pool : pools.IsSeatOf pool seat
  pub none : taken ≡ []
  pub some : 0 < most
  pub few : most ≤ MOST_BATCH

-- What a pop by two drawn words returned, from a pool with heaps of a kind: the entries that it took, or what
-- it saw of the two heaps. A seat with all shares is never busy; with two heaps it finds them empty only if
-- nothing is left.
pub record PopsDrawn (known : ℕ → ℕ → Type 0) (kind : HeapKind) (pool : pools.PoolView) (most : ℕ) (taken : List Entry) (before after : pools.SeatView) (words words' : Stream) (reply : PoppedSome) : Type 0 where
  pub of_pool : pools.IsSeatOf pool after
  pub popped : MatchSome reply (TookSome known kind pool.heaps most taken before.account after.account)
      (SameBooks before.account after.account × (taken ≡ [])) (SameBooks before.account after.account × (taken ≡ []))
  pub looked : MatchSome reply (Unit {0})
      (LookedAt (first_heap pool.heaps words) EMPTY (second_heap pool.heaps words) EMPTY before.seen after.seen)
      (WasBusy (first_heap pool.heaps words) (second_heap pool.heaps words) before.seen after.seen)
  pub alone : before.account.shares ≡ SHARES → MatchSome reply (Unit {0}) (Unit {0}) ⊥
  pub nothing : before.account.shares ≡ SHARES → pool.heaps ≡ 2 → MatchSome reply (Unit {0}) (NothingLeft before.account) (Unit {0})
  pub words_are : words' ≡ after_words 2 words

-- What a worker has, without its taken entries.
abbrev pub without_taken : Kit → Kit
without_taken k = kit k.labels k.account k.words [] k.fresh

module _ (problem : Problem) (batch : ℕ) where
  -- The entry was visited, with batches of this size; no other was taken.
  pub record IsVisitOf (entry : Entry) (from to : Kit) (number : ℕ) (end : TurnEnd) : Type 0 where
    pub visited : visited_in end.turn ≡ entry ∷ []
    pub number_is : end.turn.number ≡ number
    pub shaped : IsShaped end.turn
    pub few : end.turn.lowered ≤ 2 ^ 28
    pub broken_is : IsBrokenAs end.turn.kind end.broken
    pub broken_visited : (popped : Entry) → Contains (option_to_list end.broken) popped → Contains (visited_in end.turn) popped
    pub broken_inside : IfSome end.broken (λ popped. IsNode problem.network.nodes popped.node)
    pub pops : end.pops ≡ 0
    pub pushes : end.pushes ≤ end.turn.lowered
    pub one_push_each : batch ≡ 1 → end.pushes ≡ end.turn.lowered
    pub fresh_few : IsLeftAs end.turn.kind batch (length to.fresh)
    pub progress : Progress from to [] end.pushes end.turn.lowered
    pub closed : IsClosedTurn problem to.labels.bounds (option_to_list end.broken) end.turn
    pub fresh : IsFreshTurn problem.query.target from.labels.bounds end.turn

  -- The last of the taken entries was visited.
  pub record IsVisit (from to : Kit) (number : ℕ) (end : TurnEnd) : Type 0 where
    pub entry : Entry
    pub next : from.taken ≡ to.taken ++ entry ∷ []
    pub reached : Reaches problem.network problem.answers problem.query.sources entry.node entry.key
    pub visit : IsVisitOf entry (without_taken from) (without_taken to) number end
