-- Gathering a row, one worker at a time.
use Rattle.std.proofs.Common.{◌≡◌, ℕ, zero, suc, ◌+◌, ◌<◌, ◌^◌, List, [], ◌∷◌, ◌++◌, map, length, All, refl, sym, ◌∙◌, ap, arith, length-append, subst}
use Rattle.std.specs.Prelude.{sum_by}
use Rattle.std.proofs.lemmas.List.{map-append, append-nil, append_assoc}
use Rattle.std.proofs.lemmas.List.Folds.{fold-map}
use Rattle.std.proofs.lemmas.List.Sums.{fold-append}
use Rattle.std.proofs.lemmas.List.Elements.{All-head}
use Rattle.ea_engine.specs.Problems.{Problem}
use Rattle.ea_engine.specs.declared.worker.counters.Counters.{Counters}
use Rattle.ea_engine.specs.declared.run.gathering.Gathering.{Gathering}
use Rattle.ea_engine.specs.declared.run.row.Place.{Place}
use Rattle.ea_engine.specs.declared.run.row.Place.TheVariants as place
use Rattle.ea_engine.specs.declared.worker.work_loop.WorkerEnd.{WorkerEnd}
use Rattle.ea_engine.specs.Ends.{IsEnd, IsEndPlace}
use Rattle.ea_engine.specs.Grown.{Joins}
use Rattle.ea_engine.specs.Seated.{Tables}
use Rattle.ea_engine.specs.Rowed.{all_done, AreGathered, IsDonePlace}
use Rattle.ea_engine.proofs.BoundLemmas.{IsReachedBy-more}

pub sum_push : {X : Type 0} (f : X → ℕ) (xs : List X) (x : X) → sum_by f (xs ++ x ∷ []) ≡ sum_by f xs + f x
sum_push {X} f xs x = fold-append (λ (n : ℕ) (y : X). n + f y) 0 xs (x ∷ [])

pub sum_of_ends : {K R T E : Type 0} (f : Counters → ℕ) (counters : List Counters) (ends : List (WorkerEnd K R T E)) → counters ≡ map (λ end. end.counters) ends → sum_by f counters ≡ sum_by (λ end. f end.counters) ends
sum_of_ends {K} {R} {T} {E} f counters ends is = ap (sum_by f) is ∙ fold-map (λ (n : ℕ) (c : Counters). n + f c) (λ (end : WorkerEnd K R T E). end.counters) 0 ends

pub all_done-push : {K R T E : Type 0} (ends : List (WorkerEnd K R T E)) (end : WorkerEnd K R T E) → all_done (ends ++ end ∷ []) ≡ all_done ends ++ place.Done end ∷ []
all_done-push [] end = refl
all_done-push (e ∷ ends) end = ap (λ ps. place.Done e ∷ ps) (all_done-push ends end)

pub all_done-more : {K R T E : Type 0} (row : List (Place K R T E)) (ends : List (WorkerEnd K R T E)) (end : WorkerEnd K R T E) (p : Place K R T E) (rest after : List (Place K R T E))
    → row ≡ all_done ends ++ rest → rest ≡ p ∷ after → p ≡ place.Done end → row ≡ all_done (ends ++ end ∷ []) ++ after
all_done-more row ends end p rest after e f h =
    e ∙ ap (λ ps. all_done ends ++ ps) (f ∙ ap (λ q. q ∷ after) h) ∙ sym (ap (λ ps. ps ++ after) (all_done-push ends end) ∙ append_assoc (all_done ends) (place.Done end ∷ []) after)

pub all_done-length : {K R T E : Type 0} (ends : List (WorkerEnd K R T E)) → length (all_done ends) ≡ length ends
all_done-length [] = refl
all_done-length (e ∷ ends) = ap suc (all_done-length ends)

pub nothing_after : {X : Type 0} (xs ys : List X) → length ys ≡ 0 → xs ++ ys ≡ xs
nothing_after xs [] e = append-nil xs
nothing_after xs (y ∷ ys) e = absurd (omega (arith, e))

-- if more was handed back, a node waits already, or it was handed back just now
pub waits_or : (waiting before more after : ℕ) → (0 < before → 0 < waiting) → after ≡ before + more → 0 < after → 0 < waiting + more
waits_or waiting zero more after some is lt = omega (arith, is, lt)
waits_or waiting (suc before) more after some is lt = omega (arith, some (omega arith))

-- the same after the first worker's entries are kept
pub waits_first : (waiting back hand after : ℕ) → (0 < back → 0 < waiting) → after ≡ back + hand → 0 < after → 0 < waiting + hand
waits_first waiting zero hand after some is lt = omega (arith, is, lt)
waits_first waiting (suc back) hand after some is lt = omega (arith, some (omega arith))

-- the first place of a row and those after it
pub split_first : {K R T E : Type 0} (row : List (Place K R T E)) (first end : WorkerEnd K R T E) (p : Place K R T E) (others rest : List (Place K R T E))
    → row ≡ place.Done first ∷ others → row ≡ p ∷ rest → p ≡ place.Done end → (first ≡ end) × (others ≡ rest)
split_first row first end p others rest e f h = (cc, cc)

pub first_place_done : {K R T E : Type 0} (row : List (Place K R T E)) (first : WorkerEnd K R T E) (p : Place K R T E) (others rest : List (Place K R T E))
    → row ≡ place.Done first ∷ others → row ≡ p ∷ rest → IsDonePlace p
first_place_done row first p others rest e f =
    let is : place.Done first ≡ p = cc in
    subst (λ q. IsDonePlace q) is tt

module _ {K R T E : Type 0} (problem : Problem) (tables : Tables) where
  -- the place of a worker that is done
  done_by_end : (p : Place K R T E) → IsEndPlace problem tables p → IsDonePlace p
  done_by_end (place.Ready r) h = h
  done_by_end place.Running h = h
  done_by_end (place.Done e) h = tt

  pub first_done : (p : Place K R T E) (rest after : List (Place K R T E)) → All (IsEndPlace problem tables) rest → rest ≡ p ∷ after → IsDonePlace p
  first_done p rest after all e = done_by_end p (All-head (IsEndPlace problem tables) p after (rw e at all))

  pub first_end : (p : Place K R T E) (end : WorkerEnd K R T E) (rest after : List (Place K R T E)) → All (IsEndPlace problem tables) rest → rest ≡ p ∷ after → p ≡ place.Done end
      → IsEnd problem tables end
  first_end p end rest after all e h =
      let here = All-head (IsEndPlace problem tables) p after (rw e at all) in
      subst (λ q. IsEndPlace problem tables q) h here

  -- one more worker
  pub gathered_more : (seeded back : ℕ) (ends : List (WorkerEnd K R T E)) (end : WorkerEnd K R T E) (g h : Gathering K R T E)
      → AreGathered problem tables seeded back ends g
      → Joins problem tables end g h → end.counters.pushed < 2 ^ 62
      → AreGathered problem tables seeded back (ends ++ end ∷ []) h
  gathered_more seeded back ends end g h a j low =
      let count = length-append ends (end ∷ []) in
      let more = j.results in
      record {
        account = j.account;
        offered = λ source among. IsReachedBy-more g.seats.label_seat.history.bounds h.seats.label_seat.history.bounds j.bounds source.node source.departure (a.offered source among);
        counters_are = more.counters ∙ ap (λ xs. xs ++ end.counters ∷ []) a.counters_are ∙ sym (map-append (λ (e : WorkerEnd K R T E). e.counters) ends (end ∷ []));
        rngs_are = more.rngs ∙ ap (λ xs. xs ++ end.rng ∷ []) a.rngs_are ∙ sym (map-append (λ (e : WorkerEnd K R T E). e.rng) ends (end ∷ []));
        tracers_are = more.tracers ∙ ap (λ xs. xs ++ end.tracer ∷ []) a.tracers_are ∙ sym (map-append (λ (e : WorkerEnd K R T E). e.tracer) ends (end ∷ []));
        pushed_is = omega (arith, a.pushed_is, j.pushed, sum_push (λ (e : WorkerEnd K R T E). e.counters.pushed) ends end);
        pushed_few = omega (arith, a.pushed_few, j.pushed, low, count);
        popped_is = omega (arith, a.popped_is, j.popped, sum_push (λ (e : WorkerEnd K R T E). e.counters.popped) ends end);
        returned_is = omega (arith, a.returned_is, j.returned, sum_push (λ (e : WorkerEnd K R T E). e.counters.returned) ends end);
        returned_few = omega (arith, a.returned_few, j.returned, j.returned_few, count);
        few = omega (arith, a.few, j.opens.few, j.returned);
        some = λ more. j.opens.some (waits_or (length g.todo.waiting) g.returned end.counters.returned h.returned a.some j.returned more);
      }
