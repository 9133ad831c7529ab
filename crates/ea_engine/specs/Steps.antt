-- What a worker does in a step of its turn, and that its means still fit its tables.
use Rattle.std.specs.Prelude.{ℕ, List, []}
use Rattle.rand_core.specs.Stream.{Stream}
use Rattle.ea_road.specs.declared.arc.Arc.{Arc}
use Rattle.ea_pool.specs.declared.heap.entry.Entry.{Entry}
use Rattle.ea_pool.specs.Kinds.{HeapKind}
use Rattle.ea_engine.specs.declared.worker.means.Means.{Means}
use Rattle.ea_engine.specs.declared.worker.scan.Followed.{Followed}
use Rattle.ea_engine.specs.declared.worker.scan.ScanEnd.{ScanEnd}
use Rattle.ea_engine.specs.declared.worker.turn.Lists.{Lists}
use Rattle.ea_engine.specs.declared.worker.turn.TurnEnd.{TurnEnd}
use Rattle.ea_engine.specs.Equipped.{AreHeld, AreMeans}
use Rattle.ea_engine.specs.Holds.{IsVisit, IsVisitOf}
use Rattle.ea_engine.specs.Looks.{first_heap, second_heap, SawAs}
use Rattle.ea_engine.specs.Problems.{Problem}
use Rattle.ea_engine.specs.Scans.{IsRelaxed, IsScan}
use Rattle.ea_engine.specs.Seated.{Tables, kit_of, kit_with}
use Rattle.ea_engine.specs.Worked.{IsTurnWithin}

module _ {K R E : Type 0} (known : ℕ → ℕ → Type 0) (problem : Problem) (tables : Tables) (stream : R → Stream) (batch : ℕ) where
  -- An arc from the entry's node was relaxed.
  pub record Relaxes (before : Means K R E) (fresh : List Entry) (after : Means K R E) (left : List Entry) (entry : Entry) (arc : Arc) (followed : Followed) : Type 0 where
    pub means : AreMeans known tables after left
    pub relaxed : IsRelaxed problem batch (kit_of stream before [] fresh) (kit_of stream after [] left) entry arc followed

  -- The arcs from the entry's node were relaxed.
  pub record ScansEntry (before : Means K R E) (fresh : List Entry) (after : Means K R E) (left : List Entry) (entry : Entry) (end : ScanEnd) : Type 0 where
    pub means : AreMeans known tables after left
    pub scan : IsScan problem batch (kit_of stream before [] fresh) (kit_of stream after [] left) entry end

  -- The entry was visited.
  pub record VisitsEntry (before : Means K R E) (fresh : List Entry) (after : Means K R E) (left : List Entry) (entry : Entry) (number : ℕ) (end : TurnEnd) : Type 0 where
    pub means : AreMeans known tables after left
    pub visited : IsVisitOf problem batch entry (kit_of stream before [] fresh) (kit_of stream after [] left) number end

  -- The last of the taken entries was visited.
  pub record VisitsTaken (before : Means K R E) (lists : Lists) (after : Means K R E) (left : Lists) (number : ℕ) (end : TurnEnd) : Type 0 where
    pub means : AreHeld known tables after left
    pub visit : IsVisit problem batch (kit_with stream before lists) (kit_with stream after left) number end

  -- A turn was taken, on heaps of a kind, with at most this many pushes more than labels fell.
  pub record TakesTurn (kind : HeapKind) (extra : ℕ) (before : Means K R E) (lists : Lists) (after : Means K R E) (left : Lists) (number : ℕ) (end : TurnEnd) : Type 0 where
    pub means : AreHeld known tables after left
    pub turn : IsTurnWithin problem kind batch tables.pool.heaps extra (kit_with stream before lists) (kit_with stream after left) number end

  -- A turn that pops was taken: what it saw of the two heaps that its words draw.
  pub record TakesPop (kind : HeapKind) (before : Means K R E) (lists : Lists) (after : Means K R E) (left : Lists) (number : ℕ) (end : TurnEnd) : Type 0 where
    pub turn : TakesTurn kind 0 before lists after left number end
    pub saw : SawAs end.turn.kind (first_heap tables.pool.heaps (stream before.rng)) (second_heap tables.pool.heaps (stream before.rng)) before.pool_seat.seen after.pool_seat.seen
