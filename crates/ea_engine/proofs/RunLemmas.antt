-- From a row of finished workers to how the run went.
use Rattle.std.proofs.Common.{◌≡◌, ℕ, ◌+◌, ◌*◌, ◌<◌, ◌≤◌, List, length, sym, ◌∙◌, ap, arith, subst, ◌-◌}
use Rattle.std.proofs.lemmas.List.{length-map}
use Rattle.rand_core.specs.Stream.{Stream}
use Rattle.ea_base.specs.declared.limits.TheConstants.{MOST_BATCH, MOST_WORKERS}
use Rattle.ea_road.specs.Queries.{Asking}
use Rattle.ea_road.specs.Roads.{Roads}
use Rattle.ea_engine.specs.declared.worker.counters.Counters.{Counters}
use Rattle.ea_engine.specs.declared.run.crew.Crew.{Crew}
use Rattle.ea_engine.specs.declared.run.ran.Ran.{Ran}
use Rattle.ea_engine.specs.declared.run.row.Place.{Place}
use Rattle.ea_engine.specs.declared.settings.Pace.{Pace}
use Rattle.ea_engine.specs.declared.worker.turn.Flow.{Flow}
use Rattle.ea_engine.specs.declared.worker.turn.Turn.{Turn}
use Rattle.ea_engine.specs.Limits.{pace_of}
use Rattle.ea_engine.specs.Problems.{Problem, IsNamed}
use Rattle.ea_engine.specs.Rowed.{HaveWorked, IsDoneRow, IsSettledRow}
use Rattle.ea_engine.specs.Runs.{IsCrew, IsRunOf}
use Rattle.ea_engine.specs.Seated.{Tables}
use Rattle.ea_engine.specs.Seeds.{AreSeeds}
use Rattle.ea_engine.specs.Tallies.{busy_by_all, empty_by_all, returned_by_all, IsTally, IsLoneTally}
use Rattle.ea_engine.proofs.DoneRows.{some_of, seated_done, reports_of_row, lone_of_row}
use Rattle.ea_engine.proofs.GroundLemmas.{reports_of}
use Rattle.ea_engine.proofs.RowedLemmas.{all_done-length, sum_of_ends}
use Rattle.ea_engine.proofs.SeedLemmas.{AreSeeds-few, AreSeeds-some}

module _ {K R T E : Type 0} (problem : Problem) (tables : Tables) (stream : R → Stream) (shows : T → Turn → Flow → T → Type 0) where
  pub worked_done : (pace : Pace) (seeded : ℕ) (waiting : List ℕ) (rngs : List R) (tracers : List T) (row : List (Place K R T E))
      → HaveWorked problem tables stream shows pace seeded waiting rngs tracers row
      → pace.batch ≤ MOST_BATCH → length rngs ≤ MOST_WORKERS → 0 < length rngs → 0 < length tracers → IsDoneRow problem tables seeded waiting row
  worked_done pace seeded waiting rngs tracers row w few few_workers some_rng some_tracer =
      seated_done problem tables stream shows pace few rngs tracers w.before row (some_of rngs some_rng) (some_of tracers some_tracer) seeded waiting w.seated w.ran w.row_len (omega (arith, few_workers, w.rngs_len))

  module _ {G : Type 0} (callable : T → Type 0) (crew : Crew R G T) (is_crew : IsCrew callable crew)
      (seeded back : ℕ) (waiting : List ℕ) (row : List (Place K R T E)) (ran : Ran R T)
      (worked : HaveWorked problem tables stream shows (pace_of crew.settings) seeded waiting crew.rngs.items crew.tracers.items row)
      (settled : IsSettledRow seeded back row ran) where
    ends_len : length settled.ends ≡ length crew.rngs.items
    ends_len = omega (arith, ap length settled.row_is, all_done-length settled.ends, worked.row_len, worked.rngs_len)

    counters_count : length ran.results.counters.items ≡ length settled.ends
    counters_count = ap length settled.counters_are ∙ length-map settled.ends (λ e. e.counters)

    -- what the workers don't account for
    own_seeds : seeded + back ≡ ran.seeded + (ran.returned - returned_by_all ran.results.counters.items)
    own_seeds = omega (arith, settled.seeded_is, settled.returned_is, sum_of_ends (λ (k : Counters). k.returned) _ _ settled.counters_are)

    tally_of : (sources : ℕ) → seeded + back ≤ sources → (0 < sources → 0 < seeded + back)
        → IsTally sources ran.seeded ran.returned ran.drained ran.finish ran.results.counters.items
    tally_of sources few some =
        let sum = λ (f : Counters → ℕ). sum_of_ends f _ _ settled.counters_are in
        record {
          balance = omega (arith, settled.seeded_is, settled.balance, sum (λ k. k.pushed), sum (λ k. k.popped));
          few_open = settled.few_open;
          some_open = settled.some_open;
          hands = omega (arith, settled.returned_is, sum (λ k. k.returned));
          seeds = omega (arith, own_seeds, few);
          begun = λ any. omega (arith, own_seeds, some any);
        }

    lone_of : tables.pool.heaps ≡ crew.settings.workers * crew.settings.heaps
        → IsLoneTally crew.settings.batch (crew.settings.workers * crew.settings.heaps) ran.drained ran.results.counters.items
    lone_of heaps_are =
        let rng = some_of crew.rngs.items (omega (arith, is_crew.rngs, is_crew.settings.some_worker, crew.rngs.ok)) in
        let tracer = some_of crew.tracers.items (omega (arith, is_crew.tracers, is_crew.settings.some_worker, crew.tracers.ok)) in
        let few : length ran.results.counters.items ≡ 1 → length settled.ends ≡ 1 = λ one. omega (arith, one, counters_count) in
        let lone = λ (one : length ran.results.counters.items ≡ 1). lone_of_row problem tables stream shows (pace_of crew.settings) is_crew.settings.batch
        crew.rngs.items crew.tracers.items worked.before row settled.ends rng tracer seeded waiting worked.seated worked.ran
        (omega (arith, few one, ends_len, worked.rngs_len)) settled.row_is (few one) in
        record {
          never_busy = λ one. ap busy_by_all settled.counters_are ∙ (lone one).0;
          empty_at_end = λ is one two some. omega (
            arith,
            (lone one).1 is (heaps_are ∙ two) (omega (arith, some, ap empty_by_all settled.counters_are)),
            settled.balance,
          );
        }

    pub run_of : (known : ℕ → ℕ → Type 0) (network : Roads) (answers : ℕ → ℕ → ℕ → ℕ → Type 0) (query : Asking)
        → IsNamed known problem network answers query → tables.pool.heaps ≡ crew.settings.workers * crew.settings.heaps
        → AreSeeds problem.query.sources (seeded + back)
        → IsRunOf stream shows network answers query crew ran
    run_of known network answers query named heaps_are seeds =
        let asked = subst (λ (q : Asking). AreSeeds q.sources (seeded + back)) (sym named.query_is) seeds in
        let r = ran.results in
        let end = some_of settled.ends (omega (arith, ends_len, is_crew.rngs, is_crew.settings.some_worker, crew.rngs.ok)) in
        record {
          tally = tally_of (length query.sources) (AreSeeds-few _ _ asked) (AreSeeds-some _ _ asked);
          seeds = subst (λ n. AreSeeds query.sources n) own_seeds asked;
          lone = lone_of heaps_are;
          reports = rw (settled.rngs_are, settled.tracers_are, settled.counters_are)
              (reports_of known problem network answers query named stream shows (pace_of crew.settings) _ _ _ _ _
              (reports_of_row problem tables stream shows (pace_of crew.settings) is_crew.settings.batch
              crew.rngs.items crew.tracers.items worked.before row settled.ends seeded waiting end worked.seated worked.ran worked.rngs_len ends_len settled.row_is));
          counters_len = omega (arith, counters_count, ends_len, r.counters.ok, crew.rngs.ok, is_crew.rngs);
          rngs_len = omega (arith, ends_len, ap length settled.rngs_are, length-map settled.ends (λ e. e.rng), r.rngs.ok, crew.rngs.ok, is_crew.rngs);
          tracers_len = omega (arith, ends_len, ap length settled.tracers_are, length-map settled.ends (λ e. e.tracer), r.tracers.ok, crew.rngs.ok, is_crew.rngs);
        }
