-- What a run promises besides its answer, and what it requires of its crew.
use Rattle.std.specs.Prelude.{◌≡◌, ℕ, ◌+◌, ◌-◌, ◌*◌, All, length, vec_len, Bool}
use Rattle.rand_core.specs.Stream.{Stream}
use Rattle.ea_road.specs.Queries.{Asking}
use Rattle.ea_road.specs.Roads.{Roads}
use Rattle.ea_search.specs.Answers.{Answered}
use Rattle.ea_search.specs.Underway.{IsFinished}
use Rattle.ea_engine.specs.declared.run.crew.Crew.{Crew}
use Rattle.ea_engine.specs.declared.run.known_run.Ended.{Ended}
use Rattle.ea_engine.specs.declared.run.ran.Ran.{Ran}
use Rattle.ea_engine.specs.declared.run.solved.Solved.{Solved}
use Rattle.ea_engine.specs.declared.run.workers.Begun.{Begun}
use Rattle.ea_engine.specs.declared.worker.turn.Flow.{Flow}
use Rattle.ea_engine.specs.declared.worker.turn.Turn.{Turn}
use Rattle.ea_engine.specs.Limits.{AreSettings, pace_of}
use Rattle.ea_engine.specs.Problems.{Problem, IsNamedProblem}
use Rattle.ea_engine.specs.Reports.{AreReports}
use Rattle.ea_engine.specs.Rowed.{HasBegun}
use Rattle.ea_engine.specs.Seeds.{AreSeeds}
use Rattle.ea_engine.specs.Tallies.{IsTally, IsLoneTally, returned_by_all}

-- The settings are within the limits, and each worker has a generator and a tracer that may be called.
pub record IsCrew {R G T : Type 0} (callable : T → Type 0) (crew : Crew R G T) : Type 0 where
  pub settings : AreSettings crew.settings
  pub rngs : vec_len crew.rngs ≡ crew.settings.workers
  pub tracers : vec_len crew.tracers ≡ crew.settings.workers
  pub callable_all : All callable crew.tracers.items

-- A call's network, travel times and query make the problem that `K` names, and its crew may run.
pub record IsNamedCall {R G T : Type 0} (known : ℕ → ℕ → Type 0) (problem : Problem) (network : Roads) (answers : ℕ → ℕ → ℕ → ℕ → Type 0) (classes : ℕ) (query : Asking) (callable : T → Type 0) (crew : Crew R G T) : Type 0 where
  pub named : IsNamedProblem known problem network answers classes query
  pub is_crew : IsCrew callable crew

module _ {R G T : Type 0} (stream : R → Stream) (shows : T → Turn → Flow → T → Type 0) where
  -- A run of this problem by this crew: its counts balance, what workers don't account for are the seeds, a
  -- worker that runs alone is never busy, each worker reports its turns, and each has its place.
  pub record IsRunOf (network : Roads) (answers : ℕ → ℕ → ℕ → ℕ → Type 0) (query : Asking) (crew : Crew R G T) (ran : Ran R T) : Type 0 where
    pub tally : IsTally (length query.sources) ran.seeded ran.returned ran.drained ran.finish ran.results.counters.items
    pub seeds : AreSeeds query.sources (ran.seeded + (ran.returned - returned_by_all ran.results.counters.items))
    pub lone : IsLoneTally crew.settings.batch (crew.settings.workers * crew.settings.heaps) ran.drained ran.results.counters.items
    pub reports : AreReports stream shows network answers query.sources (pace_of crew.settings) crew.rngs.items ran.results.rngs.items crew.tracers.items ran.results.tracers.items ran.results.counters.items
    pub counters_len : vec_len ran.results.counters ≡ crew.settings.workers
    pub rngs_len : vec_len ran.results.rngs ≡ crew.settings.workers
    pub tracers_len : vec_len ran.results.tracers ≡ crew.settings.workers

  -- The finishing pass may begin, with storage for walks if they are asked for.
  pub record HasRun (network : Roads) (answers : ℕ → ℕ → ℕ → ℕ → Type 0) (query : Asking) (crew : Crew R G T) (walks : Bool) (begun : Begun R T) : Type 0 where
    pub begun_is : HasBegun network answers query walks begun
    pub run : IsRunOf network answers query crew begun.ran

  -- The finishing pass is over too, with storage for walks if they are asked for.
  pub record IsEnded (network : Roads) (answers : ℕ → ℕ → ℕ → ℕ → Type 0) (query : Asking) (crew : Crew R G T) (walks : Bool) (ended : Ended R T) : Type 0 where
    pub finished : IsFinished network answers query ended.finished.table.items ended.finished.todo
    pub walks_are : ended.finished.todo.walks ≡ walks
    pub run : IsRunOf network answers query crew ended.ran

-- An answer, and how the run went that found it.
abbrev pub solved_of : {R T : Type 0} → Answered → Ran R T → Solved R T
solved_of answer ran = record {
  answer = answer;
  seeded = ran.seeded;
  returned = ran.returned;
  drained = ran.drained;
  finish = ran.finish;
  counters = ran.results.counters;
  rngs = ran.results.rngs;
  tracers = ran.results.tracers;
}

-- How the run went, from what is solved.
abbrev pub ran_of : {R T : Type 0} → Solved R T → Ran R T
ran_of solved = record {
  seeded = solved.seeded;
  returned = solved.returned;
  drained = solved.drained;
  finish = solved.finish;
  results = record { counters = solved.counters; rngs = solved.rngs; tracers = solved.tracers };
}
