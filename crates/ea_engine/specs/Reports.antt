-- What a caller of a run learns of each worker.
use Rattle.std.specs.Prelude.{◌≡◌, ℕ, ◌+◌, ◌*◌, ◌<◌, List, length, slice_index_or}
use Rattle.std.specs.List.{FoldsTo}
use Rattle.rand_core.specs.Stream.{Stream}
use Rattle.ea_road.specs.declared.source.Source.{Source}
use Rattle.ea_road.specs.Roads.{Roads}
use Rattle.ea_engine.specs.declared.settings.Pace.{Pace}
use Rattle.ea_engine.specs.declared.worker.turn.Turn.{Turn}
use Rattle.ea_engine.specs.declared.worker.turn.Flow.{Flow}
use Rattle.ea_engine.specs.declared.worker.counters.Counters.{Counters}
use Rattle.ea_engine.specs.Words.{after_words}
use Rattle.ea_engine.specs.Problems.{AreReached}
use Rattle.ea_engine.specs.Turns.{Told, IsTurnList, AreCounters, visited_in_all}

-- The counters belong to one lawful turn list, which took the tracer from one state to the other and the
-- generator past its words. Each entry that its turns visited is at a node that the sources reach at its key.
pub record IsReport {T : Type 0} (shows : T → Turn → Flow → T → Type 0) (network : Roads) (answers : ℕ → ℕ → ℕ → ℕ → Type 0) (sources : List Source) (pace : Pace) (words words' : Stream) (tracer tracer' : T) (counters : Counters) : Type 0 where
  pub turns : List Told
  pub lawful : IsTurnList pace turns
  pub shown : FoldsTo (λ p t q. shows p t.0 t.1 q) tracer turns tracer'
  pub counted : AreCounters pace.batch turns counters
  pub reached : AreReached network answers sources (visited_in_all turns)
  pub words_are : words' ≡ after_words (2 * counters.pops + counters.pushes) words

-- A report of each worker.
abbrev pub AreReports : {R T : Type 0} → (R → Stream) → (T → Turn → Flow → T → Type 0) → Roads → (ℕ → ℕ → ℕ → ℕ → Type 0) → List Source → Pace → List R → List R → List T → List T → List Counters → Type 0
AreReports {R} {T} stream shows network answers sources pace rngs rngs' tracers tracers' counters =
    (k : ℕ) (c : Counters) (r : R) (t : T) → k < length rngs → IsReport shows network answers sources pace (stream (slice_index_or rngs k r)) (stream (slice_index_or rngs' k r)) (slice_index_or tracers k t) (slice_index_or tracers' k t) (slice_index_or counters k c)
