-- The sums beside the steps of all classes are, beside the steps of one class, the sums of its speeds.
use Rattle.std.proofs.Common.{◌≡◌, true, ℕ, zero, suc, ◌+◌, ◌-◌, ◌*◌, ◌<◌, ◌≤◌, ap, sym, ◌∙◌, arith, List, length, get_or, take, drop, length-take, length-drop}
use Rattle.std.proofs.lemmas.List.{get_or-drop, get_or-take}
use Rattle.std.specs.Prelude.{nat_lt, slice_index}
use Rattle.std.proofs.lemmas.Bool.Decides.{nat_tests}
use Rattle.ea_travel_times.specs.Speeds.{end_at, sum_to, time_at, value_at, AreRunSums, AreSpeeds, AreSums}
use Rattle.ea_travel_times.specs.Timetables.{run_of}
use Rattle.ea_travel_times.proofs.Speeding.{sum_by_step, sum_small}

run_at : {A : Type 0} (list : List A) (first count place : ℕ) (d : A) → place < count → get_or (take count (drop first list)) place d ≡ get_or list (first + place) d
run_at list first count place d inside = get_or-take count (drop first list) place d inside ∙ get_or-drop first list place d

run_length : {A : Type 0} (list : List A) (first count : ℕ) → first + count ≤ length list → length (take count (drop first list)) ≡ count
run_length list first count inside = omega (arith, length-take count (drop first list), length-drop first list)

pub run_sums : (period : ℕ) (list : List (ℕ × ℕ)) (sums : List ℕ) (first count : ℕ) → AreSums list sums → first + count ≤ length list → AreSpeeds period (run_of list first count) → AreRunSums (run_of list first count) (take count (drop first sums))
run_sums period list sums first count are inside speeds = record {
  count = run_length sums first count (omega (arith, are.count, inside)) ∙ sym (run_length list first count inside);
  each = λ place found. each place (omega (arith, run_length list first count inside, found));
}
  where
    many : length (run_of list first count) ≡ count
    many = run_length list first count inside

    at : (place : ℕ) → place < count → time_at (run_of list first count) place ≡ time_at list (first + place)
    at place below = ap (λ (step : ℕ × ℕ). step.0) (run_at list first count place (0, 0) below)

    worth : (place : ℕ) → place < count → value_at (run_of list first count) place ≡ value_at list (first + place)
    worth place below = ap (λ (step : ℕ × ℕ). step.1) (run_at list first count place (0, 0) below)

    last : (place : ℕ) → place + 1 < length (run_of list first count) → time_at (run_of list first count) (place + 1) ≤ end_at period (run_of list first count) place
    last place room = let is : nat_lt (place + 1) (length (run_of list first count)) ≡ true = grind (arith, nat_tests) in rw is (omega arith)

    beside : (place : ℕ) → place < count → slice_index sums (first + place) ≡ sum_to (run_of list first count) (time_at (run_of list first count) place)
    beside zero below =
        let here : first + 0 ≡ first = omega arith in
        let start : time_at list (first + 0) ≡ 0 = sym (at 0 below) ∙ speeds.from_zero in
        are.first.anew (first + 0) (omega (arith, here, below, inside, are.count)) start ∙ sym (ap (sum_to (run_of list first count)) speeds.from_zero)
    beside (suc place) below =
        let next : first + suc place ≡ first + place + 1 = omega arith in
        let one : suc place ≡ place + 1 = omega arith in
        let early : place < count = omega (arith, below) in
        let run : List (ℕ × ℕ) = run_of list first count in
        let up : time_at (run_of list first count) place < time_at (run_of list first count) (place + 1) = speeds.ascend place (omega (arith, below, many)) in
        let here : time_at (run_of list first count) (place + 1) ≡ time_at list (first + place + 1) = ap (time_at (run_of list first count)) (sym one) ∙ at (suc place) below ∙ ap (time_at list) next in
        let step = sum_by_step period (run_of list first count) speeds place (time_at (run_of list first count) (place + 1)) (omega (arith, early, many)) (omega (arith, up)) (last place (omega (arith, below, many))) in
        let small = sum_small period (run_of list first count) speeds (time_at (run_of list first count) (place + 1)) in
        let low = speeds.within (place + 1) (omega (arith, below, many)) in
        let before = beside place early in
        let product : value_at (run_of list first count) place * (time_at (run_of list first count) (place + 1) - time_at (run_of list first count) place) ≡ value_at list (first + place) * (time_at list (first + place + 1) - time_at list (first + place)) =
        ap (λ v. v * (time_at (run_of list first count) (place + 1) - time_at (run_of list first count) place)) (worth place early) ∙ ap (λ t. value_at list (first + place) * (t - time_at (run_of list first count) place)) here ∙ ap (λ t. value_at list (first + place) * (time_at list (first + place + 1) - t)) (at place early) in
        let is = are.first.on (first + place) (omega (arith, below, inside, are.count)) (omega (arith, here, up)) (omega (arith, before, product, step, small, low, speeds.period_to)) in
        ap (slice_index sums) next ∙ is ∙ omega (arith, before, product, step) ∙ ap (λ p. sum_to (run_of list first count) (time_at (run_of list first count) p)) (sym one)

    each : (place : ℕ) → place < count → slice_index (take count (drop first sums)) place ≡ sum_to (run_of list first count) (time_at (run_of list first count) place)
    each place below = run_at sums first count place 0 below ∙ beside place below
