-- From the row before the workers run to the row in which they are done.
use Rattle.std.proofs.Common.{◌≡◌, ℕ, zero, suc, ◌+◌, ◌<◌, ◌≤◌, List, [], ◌∷◌, ◌++◌, map, length, get_or, take, drop, length-drop, All, refl, sym, ◌∙◌, ap, arith, subst}
use Rattle.std.specs.Prelude.{sum_by}
use Rattle.rand_core.specs.Stream.{Stream}
use Rattle.ea_engine.specs.Problems.{Problem}
use Rattle.ea_engine.specs.declared.run.row.Place.{Place}
use Rattle.ea_engine.specs.declared.run.row.Place.TheVariants as place
use Rattle.ea_engine.specs.declared.worker.means.Seats.{Seats}
use Rattle.ea_engine.specs.Seated.{Tables, AreSeatsOf}
use Rattle.ea_engine.specs.declared.worker.turn.Flow.{Flow}
use Rattle.ea_engine.specs.declared.settings.Pace.{Pace}
use Rattle.ea_engine.specs.declared.worker.turn.Turn.{Turn}
use Rattle.ea_engine.specs.declared.worker.work_loop.WorkerEnd.{WorkerEnd}
use Rattle.ea_engine.specs.Ends.{AreFresh, IsEndPlace}
use Rattle.ea_engine.specs.Reports.{IsReport, AreReports}
use Rattle.ea_engine.specs.Rowed.{all_done, IsFirstEnd, IsSeeded, AreSeated, IsDoneRow}
use Rattle.ea_engine.specs.Rows.{MayStart, IsReadyRow, IsRun, IsRunRow, IsSeatedRow}
use Rattle.ea_base.specs.declared.limits.TheConstants.{SHARES}
use Rattle.ea_engine.specs.Tallies.{busy_by_all, empty_by_all}
use Rattle.ea_base.specs.declared.limits.TheConstants.{MOST_BATCH, MOST_WORKERS}
use Rattle.ea_engine.specs.Worked.{Kit}
use Rattle.ea_engine.proofs.AccountLemmas.{closed_worked}
use Rattle.ea_engine.proofs.Multisets.{same_length}
use Rattle.std.proofs.lemmas.List.{take_all}
use Rattle.ea_engine.proofs.BoundLemmas.{IsReachedBy-more}
use Rattle.ea_engine.proofs.RowedLemmas.{nothing_after}

all_done-at : {K R T E : Type 0} (ends : List (WorkerEnd K R T E)) (k : ℕ) (d : Place K R T E) (end : WorkerEnd K R T E) → k < length ends → get_or (all_done ends) k d ≡ place.Done (get_or ends k end)
all_done-at [] k d end lt = absurd (omega (arith, lt))
all_done-at (e ∷ ends) zero d end lt = refl
all_done-at (e ∷ ends) (suc k) d end lt = all_done-at ends k d end (omega (arith, lt))

get_or-map : {X Y : Type 0} (f : X → Y) (xs : List X) (k : ℕ) (d : X) (e : Y) → k < length xs → get_or (map f xs) k e ≡ f (get_or xs k d)
get_or-map f [] k d e lt = absurd (omega (arith, lt))
get_or-map f (x ∷ xs) zero d e lt = refl
get_or-map f (x ∷ xs) (suc k) d e lt = get_or-map f xs k d e (omega (arith, lt))

-- the contents of a vector whose slice was written
pub written : {X : Type 0} (n : ℕ) (xs ys : List X) → n ≡ length xs → length ys ≡ length xs → take n (ys ++ drop (length ys) xs) ≡ ys
written n xs ys is same =
    let none = length-drop (length ys) xs in
    ap (λ zs. take n zs) (nothing_after ys (drop (length ys) xs) (omega arith)) ∙ take_all n ys (omega arith)

-- an element of a list that is not empty
pub some_of : {X : Type 0} (xs : List X) → 0 < length xs → X
some_of [] lt = absurd (omega (arith, lt))
some_of (x ∷ xs) lt = x

module _ {K R T E : Type 0} (problem : Problem) (tables : Tables)
    (stream : R → Stream) (shows : T → Turn → Flow → T → Type 0) (pace : Pace) (batch_few : pace.batch ≤ MOST_BATCH) where
  abbrev Runs : Place K R T E → Place K R T E → Type 0
  Runs = IsRun problem tables stream shows pace

  abbrev place_of : Seats K E → R → T → Place K R T E
  place_of seats rng tracer =
      place.Ready (record { means = record { label_seat = seats.label_seat; pool_seat = seats.pool_seat; rng = rng }; tracer = tracer })

  -- a worker that began with fresh seats
  end_of_fresh : (seats : Seats K E) (rng : R) (tracer : T) (p : Place K R T E) → AreFresh tables seats → Runs (place_of seats rng tracer) p
      → IsEndPlace problem tables p
  end_of_fresh seats rng tracer (place.Ready r) fresh run = absurd run
  end_of_fresh seats rng tracer place.Running fresh run = absurd run
  end_of_fresh seats rng tracer (place.Done end) fresh run =
      let w = run.work in
      let start : Kit = record { labels = seats.label_seat.history; account = seats.pool_seat.account; words = stream rng; taken = []; fresh = [] } in
      record {
        fit = run.seats;
        closed = closed_worked problem shows tables.pool.heaps start _ pace tracer end.tracer end.counters end.hand [] [] w refl refl refl refl
            (record { own = λ f. rw (fresh.lowerings, fresh.pushed) refl; closed = λ e inside. absurd (omega (arith, (rw fresh.popped at inside).1)) });
        inside = w.hand_inside;
        pushed_is = omega (arith, ap length fresh.pushed, w.pushed_is);
        pushed_few = w.pushed_few;
        popped_is = omega (arith, ap length fresh.popped, w.popped_is);
        returned_is = w.returned_is;
        returned_few = omega (arith, w.hand_few, batch_few);
        label_share = w.progress.label_shares ∙ fresh.label_share;
        pool_share = w.progress.pool_shares ∙ fresh.pool_share;
      }

  pub record First (seats : Seats K E) (seeded : ℕ) (waiting : List ℕ) (p : Place K R T E) : Type 0 where
    pub end : WorkerEnd K R T E
    pub is : p ≡ place.Done end
    pub first : IsFirstEnd problem tables seeded waiting end
    pub label_shares : end.label_seat.history.shares ≡ seats.label_seat.history.shares
    pub pool_shares : end.pool_seat.account.shares ≡ seats.pool_seat.account.shares

  end_of_first : (seats : Seats K E) (rng : R) (tracer : T) (seeded : ℕ) (waiting : List ℕ) (p : Place K R T E) → IsSeeded problem tables seeded waiting seats → Runs (place_of seats rng tracer) p → First seats seeded waiting p
  end_of_first seats rng tracer seeded waiting (place.Ready r) began run = absurd run
  end_of_first seats rng tracer seeded waiting place.Running began run = absurd run
  end_of_first seats rng tracer seeded waiting (place.Done end) began run =
      let w = run.work in
      let h = began.gathered in
      let start : Kit = record { labels = seats.label_seat.history; account = seats.pool_seat.account; words = stream rng; taken = []; fresh = [] } in
      record {
        end = end;
        is = refl;
        first = record {
          fit = run.seats;
          handed = record {
            back = h.back;
            refused = h.refused;
            closed = closed_worked problem shows tables.pool.heaps start _ pace tracer end.tracer end.counters end.hand h.back h.refused w refl refl refl refl h.closed;
            waits = h.waits;
          };
          inside = w.hand_inside;
          offered = λ source among. IsReachedBy-more seats.label_seat.history.bounds end.label_seat.history.bounds w.progress.bounds_stay source.node source.departure (began.offered source among);
          pushed_is = omega (arith, began.pushed, w.pushed_is);
          pushed_few = omega (arith, w.pushed_few);
          popped_is = omega (arith, ap length began.popped, w.popped_is);
          returned_is = w.returned_is;
          returned_few = omega (arith, w.hand_few, batch_few);
        };
        label_shares = w.progress.label_shares;
        pool_shares = w.progress.pool_shares;
      }

  -- the whole row
  module _ (main : Seats K E) (fresh : List (Seats K E)) (rngs : List R) (tracers : List T) (row row' : List (Place K R T E)) (rng : R) (tracer : T)
      (seated : IsSeatedRow (main ∷ fresh) rngs tracers row) (ran : IsRunRow problem tables stream shows pace row row')
      (length_is : length row ≡ suc (length fresh)) (length'_is : length row' ≡ length row)
      (all_fresh : All (AreFresh tables) fresh) where
    runs_at : (k : ℕ) (d : Place K R T E) → k < length row → Runs (place_of (get_or (main ∷ fresh) k main) (get_or rngs k rng) (get_or tracers k tracer)) (get_or row' k d)
    runs_at k d lt = subst (λ p. Runs p (get_or row' k d)) (seated k main rng tracer d lt) (ran k d lt)

    others_done : (p' : Place K R T E) (others : List (Place K R T E)) → row' ≡ p' ∷ others → All (IsEndPlace problem tables) others
    others_done p' others e k d lt =
        let inside : suc k < length row = omega (arith, ap length e, lt) in
        let at : get_or row' (suc k) d ≡ get_or others k d = ap (λ ps. get_or ps (suc k) d) e in
        subst (λ p. IsEndPlace problem tables p) at
        (end_of_fresh (get_or fresh k main) (get_or rngs (suc k) rng) (get_or tracers (suc k) tracer) (get_or row' (suc k) d) (all_fresh k main (omega arith)) (runs_at (suc k) d inside))

    pub done_row : (seeded : ℕ) (waiting : List ℕ) → IsSeeded problem tables seeded waiting main
        → main.label_seat.history.shares + length fresh ≡ 64 → main.pool_seat.account.shares + length fresh ≡ 64
        → length row ≤ MOST_WORKERS
        → IsDoneRow problem tables seeded waiting row'
    done_row seeded waiting began label_shares pool_shares few = go row' refl
      where
        go : (ps : List (Place K R T E)) → row' ≡ ps → IsDoneRow problem tables seeded waiting row'
        go [] e = absurd (omega (arith, ap length e))
        go (p ∷ others) e =
            let here : Runs (place_of main (get_or rngs 0 rng) (get_or tracers 0 tracer)) p = subst (λ ps. Runs (place_of main (get_or rngs 0 rng) (get_or tracers 0 tracer)) (get_or ps 0 p)) e (runs_at 0 p (omega arith)) in
            let first = end_of_first main (get_or rngs 0 rng) (get_or tracers 0 tracer) seeded waiting p began here in
            record {
              first = first.end;
              others = others;
              row_is = e ∙ ap (λ q. q ∷ others) first.is;
              few = omega (arith, length'_is, few);
              first_end = first.first;
              other_ends = others_done p others e;
              label_shares = omega (arith, first.label_shares, label_shares, ap length e);
              pool_shares = omega (arith, first.pool_shares, pool_shares, ap length e);
            }

  pub seated_done : (rngs : List R) (tracers : List T) (row row' : List (Place K R T E)) (rng : R) (tracer : T) (seeded : ℕ) (waiting : List ℕ)
      → AreSeated problem tables seeded waiting rngs tracers row
      → IsRunRow problem tables stream shows pace row row' → length row' ≡ length row → length row ≤ MOST_WORKERS
      → IsDoneRow problem tables seeded waiting row'
  seated_done rngs tracers row row' rng tracer seeded waiting a ran same few =
      done_row a.main a.fresh rngs tracers row row' rng tracer a.seated ran (omega (arith, a.length_is)) same a.all_fresh seeded waiting a.seeds a.label_shares a.pool_shares few

  -- the workers may start
  pub ready_row : (callable : T → Type 0) (rngs : List R) (tracers : List T) (row : List (Place K R T E)) (rng : R) (tracer : T) (seeded : ℕ) (waiting : List ℕ)
      → AreSeated problem tables seeded waiting rngs tracers row → All callable tracers → length row ≤ length tracers → length row ≤ MOST_WORKERS
      → IsReadyRow tables callable row
  ready_row callable rngs tracers row rng tracer seeded waiting a may few few_workers = record {
    each = λ k d lt.
        subst (λ p. MayStart tables callable p) (sym (a.seated k a.main rng tracer d lt)) (
          fits k (omega (arith, lt, a.length_is)),
          may k tracer (omega (arith, lt, few)),
        );
    few = few_workers;
  }
    where
      fits : (j : ℕ) → j < suc (length a.fresh) → AreSeatsOf tables (get_or (a.main ∷ a.fresh) j a.main).label_seat (get_or (a.main ∷ a.fresh) j a.main).pool_seat
      fits zero lower = a.seeds.fit
      fits (suc j) lower = (a.all_fresh j a.main (omega (arith, lower))).fit

  -- the report of each worker
  report_of : (p : Place K R T E) (end : WorkerEnd K R T E) (r : R) (t : T) (seats : Seats K E) → p ≡ place.Done end → Runs (place_of seats r t) p
      → IsReport shows problem.network problem.answers problem.query.sources pace (stream r) (stream end.rng) t end.tracer end.counters
  report_of p end r t seats done run =
      let w = (subst (λ q. Runs (place_of seats r t) q) done run).work in
      record { turns = w.turns; lawful = w.lawful; shown = w.shown; counted = w.counted; reached = w.reached; words_are = w.progress.words_are }

  pub reports_of_row : (rngs : List R) (tracers : List T) (row row' : List (Place K R T E)) (ends : List (WorkerEnd K R T E)) (seeded : ℕ) (waiting : List ℕ) (end : WorkerEnd K R T E)
      → AreSeated problem tables seeded waiting rngs tracers row
      → IsRunRow problem tables stream shows pace row row' → length row ≡ length rngs → length ends ≡ length rngs
      → row' ≡ all_done ends
      → AreReports stream shows problem.network problem.answers problem.query.sources pace rngs (map (λ e. e.rng) ends) tracers (map (λ e. e.tracer) ends) (map (λ e. e.counters) ends)
  reports_of_row rngs tracers row row' ends seeded waiting end a ran len count done k c r t lt =
      let inside : k < length row = omega (arith, lt, len) in
      let among : k < length ends = omega (arith, lt, count) in
      let d : Place K R T E = place.Running in
      let run = subst (λ p. Runs p (get_or row' k d)) (a.seated k a.main r t d inside) (ran k d inside) in
      let at : get_or row' k d ≡ place.Done (get_or ends k end) = ap (λ ps. get_or ps k d) done ∙ all_done-at ends k d end among in
      rw (get_or-map (λ (e : WorkerEnd K R T E). e.rng) ends k end r among, get_or-map (λ (e : WorkerEnd K R T E). e.tracer) ends k end t among, get_or-map (λ (e : WorkerEnd K R T E). e.counters) ends k end c among)
      (report_of (get_or row' k d) (get_or ends k end) (get_or rngs k r) (get_or tracers k t) (get_or (a.main ∷ a.fresh) k a.main) at run)

  -- what a worker that runs alone shows
  pub lone_of_row : (rngs : List R) (tracers : List T) (row row' : List (Place K R T E)) (ends : List (WorkerEnd K R T E)) (rng : R) (tracer : T) (seeded : ℕ) (waiting : List ℕ)
      → AreSeated problem tables seeded waiting rngs tracers row
      → IsRunRow problem tables stream shows pace row row' → length row ≡ 1 → row' ≡ all_done ends → length ends ≡ 1
      → (busy_by_all (map (λ end. end.counters) ends) ≡ 0) × (pace.batch ≡ 1 → tables.pool.heaps ≡ 2 → 0 < empty_by_all (map (λ end. end.counters) ends) → seeded + sum_by (λ end. end.counters.pushed) ends ≡ sum_by (λ end. end.counters.popped) ends)
  lone_of_row rngs tracers row row' [] rng tracer seeded waiting a ran len done one = absurd (omega (arith, one))
  lone_of_row rngs tracers row row' (end ∷ other ∷ ends) rng tracer seeded waiting a ran len done one = absurd (omega (arith, one))
  lone_of_row rngs tracers row row' (end ∷ []) rng tracer seeded waiting a ran len done one =
      let d : Place K R T E = place.Running in
      let inside : 0 < length row = omega (arith, len) in
      let run = subst (λ p. Runs p (get_or row' 0 d)) (a.seated 0 a.main rng tracer d inside) (ran 0 d inside) in
      let w = (subst (λ q. Runs (place_of a.main (get_or rngs 0 rng) (get_or tracers 0 tracer)) q) (ap (λ ps. get_or ps 0 d) done) run).work in
      let whole : a.main.pool_seat.account.shares ≡ SHARES = omega (arith, a.pool_shares, a.length_is, len) in
      let account = a.main.pool_seat.account in
      let end_account = end.pool_seat.account in (
        omega (arith, w.never_busy whole),
        λ one_each two some. omega (
          arith,
          same_length end_account.pushed end_account.popped (w.empty_at_end one_each whole two (omega (arith, some))),
          w.pushed_is,
          a.seeds.pushed,
          ap length a.seeds.popped,
          w.popped_is,
        ),
      )
