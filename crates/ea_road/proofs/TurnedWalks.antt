-- A walk in time is a walk of the turned question, reversed.
use Rattle.std.proofs.Common.{◌≡◌, refl, ℕ, zero, suc, ◌-◌, ◌≤◌, ◌⊎◌, inl, inr, List, [], ◌∷◌, ◌++◌, map, arith, ap, subst, sym}
use Rattle.std.specs.Prelude.{Some, None, reverse, slice_get}
use Rattle.std.proofs.lemmas.List.{reverse-append}
use Rattle.ea_base.specs.declared.limits.TheConstants.{HORIZON}
use Rattle.ea_travel_times.specs.Answers.{IsFifo}
use Rattle.ea_travel_times.specs.Departures.{IsDepartureBy, IsInTime, IsLatest}
use Rattle.ea_travel_times.specs.TurnedLaws.{has_latest}
use Rattle.ea_travel_times.specs.TurnedTimes.{IsTurned}
use Rattle.ea_road.specs.declared.arc.Arc.{Arc}
use Rattle.ea_road.specs.Roads.{Roads, IsArc, IsNetwork, top_class}
use Rattle.ea_road.specs.Arrivals.{Arrives, stays, goes}
use Rattle.ea_road.specs.Turned.{turned_arc, turned_roads}
use Rattle.ea_road.proofs.Arcs.{is_question}
use Rattle.ea_road.proofs.Turning.{mapped_back}

mapped : (arcs : List Arc) (place : ℕ) (arc : Arc) → slice_get arcs place ≡ Some arc → slice_get (map turned_arc arcs) place ≡ Some (turned_arc arc)
mapped [] place arc at = cc
mapped (first ∷ arcs) zero arc at = let same : first ≡ arc = cc in ap (λ a. Some (turned_arc a)) same
mapped (first ∷ arcs) (suc place) arc at = mapped arcs place arc at

-- an arc turned round is an arc of the turned network
pub arc_turned : (roads : Roads) (number : ℕ) (arc : Arc) → IsArc roads number arc → IsArc (turned_roads roads) number (turned_arc arc)
arc_turned roads number arc is = record { from_one = is.from_one; found = mapped roads.arcs (number - 1) arc is.found }

-- an arc of the turned network, turned round, is an arc
pub arc_back : (roads : Roads) (number : ℕ) (arc : Arc) → IsArc (turned_roads roads) number arc → IsArc roads number (turned_arc arc)
arc_back roads number arc is = record { from_one = is.from_one; found = mapped_back roads.arcs (number - 1) arc is.found }

-- an arc before a walk
pub arrives_by_first : (roads : Roads) (answers : ℕ → ℕ → ℕ → ℕ → Type 0) (arc : Arc) {departure time number node arrival : ℕ} {walk : List ℕ} → departure ≤ HORIZON → IsArc roads number arc → answers arc.class arc.weight departure time → Arrives roads answers arc.head time walk node arrival → Arrives roads answers arc.tail departure (number ∷ walk) node arrival
arrives_by_first roads answers arc within is_arc answer stays = goes stays within is_arc refl answer
arrives_by_first roads answers arc within is_arc answer (goes before inside is_last tail on) =
    goes (arrives_by_first roads answers arc within is_arc answer before) inside is_last tail on

pub reverse-push : (walk : List ℕ) (number : ℕ) → reverse (walk ++ number ∷ []) ≡ number ∷ reverse walk
reverse-push walk number = reverse-append walk (number ∷ [])

module _
    (roads : Roads)
    (answers : ℕ → ℕ → ℕ → ℕ → Type 0)
    (classes : ℕ)
    (network : IsNetwork roads)
    (classed : top_class roads.arcs ≤ classes)
    (fifo : IsFifo answers classes)
  where
    -- who leaves earlier arrives no later
    pub arrives_earlier : {start departure node arrival : ℕ} {walk : List ℕ} (sooner : ℕ) → sooner ≤ departure → Arrives roads answers start departure walk node arrival → (time : ℕ) × Arrives roads answers start sooner walk node time × (time ≤ arrival)
    arrives_earlier sooner order stays = (sooner, stays, order)
    arrives_earlier sooner order (goes {node} {time} {number} {arrival} {arc} before within is_arc tail answer) =
        let front = arrives_earlier sooner order before in
        let low : front.0 ≤ HORIZON = omega (arith, front.2, within) in
        let asked = is_question roads classes number front.0 arc network classed is_arc low in
        let later = is_question roads classes number time arc network classed is_arc within in
        let best = fifo.has_answer arc.class arc.weight front.0 asked in
        let no_later = fifo.in_order arc.class arc.weight front.0 time best.0 arrival asked later best.1 answer front.2 in
        (best.0, goes front.1 low is_arc tail best.1, no_later)

    -- a turned walk is in time, reversed
    pub turned_in_time : {start departure node time : ℕ} {walk : List ℕ} → departure ≤ HORIZON → Arrives (turned_roads roads) (IsTurned answers) start departure walk node time → time ≤ HORIZON → (arrival : ℕ) × Arrives roads answers node (HORIZON - time) (reverse walk) start arrival × (arrival ≤ HORIZON - departure)
    turned_in_time {departure} low stays within = (HORIZON - departure, stays, omega arith)
    turned_in_time {start} {departure} low (goes {walk} {node} {time} {number} {arrival} {arc} before inside is_arc tail answer) within =
        step answer (turned_in_time low before inside)
      where
        step : IsTurned answers arc.class arc.weight time arrival → (last : ℕ) × Arrives roads answers node (HORIZON - time) (reverse walk) start last × (last ≤ HORIZON - departure) → (last : ℕ) × Arrives roads answers arc.head (HORIZON - arrival) (reverse (walk ++ number ∷ [])) start last × (last ≤ HORIZON - departure)
        step (inr none) rest = absurd (omega (arith, none.1, within))
        step (inl found) rest =
            let in_time = found.1.in_time in
            let sooner = arrives_earlier in_time.reached in_time.by rest.1 in
            let here : found.0 ≡ HORIZON - arrival = omega (arith, found.2, in_time.within) in
            let onward = subst (λ n. Arrives roads answers n in_time.reached (reverse walk) start sooner.0) (sym tail) sooner.1 in
            let whole = arrives_by_first roads answers (turned_arc arc) in_time.within (arc_back roads number arc is_arc) in_time.answer onward in
            let left = subst (λ d. Arrives roads answers arc.head d (number ∷ reverse walk) start sooner.0) here whole in (
              sooner.0,
              subst (λ w. Arrives roads answers arc.head (HORIZON - arrival) w start sooner.0) (sym (reverse-push walk number)) left,
              omega (arith, sooner.2, rest.2),
            )

    -- a walk in time is a turned walk, reversed, that is no later
    pub in_time_turned : {start departure node arrival : ℕ} {walk : List ℕ} (by : ℕ) → departure ≤ HORIZON → Arrives roads answers start departure walk node arrival → arrival ≤ by → by ≤ HORIZON → (time : ℕ) × Arrives (turned_roads roads) (IsTurned answers) node (HORIZON - by) (reverse walk) start time × (time ≤ HORIZON - departure)
    in_time_turned by low stays order within = (HORIZON - by, stays, omega arith)
    in_time_turned {start} {departure} by low (goes {walk} {node} {time} {number} {arrival} {arc} before inside is_arc tail answer) order within =
        step
        (λ latest after low_enough. in_time_turned latest low before after low_enough)
        (has_latest answers classes fifo arc.class arc.weight by (is_question roads classes number by arc network classed is_arc within))
      where
        in_time : IsInTime answers arc.class arc.weight by time
        in_time = record { within = inside; reached = arrival; answer = answer; by = order }

        back : by ≡ HORIZON - (HORIZON - by)
        back = omega (arith, within)

        step : ((latest : ℕ) → time ≤ latest → latest ≤ HORIZON → (last : ℕ) × Arrives (turned_roads roads) (IsTurned answers) node (HORIZON - latest) (reverse walk) start last × (last ≤ HORIZON - departure)) → ((latest : ℕ) × IsDepartureBy answers arc.class arc.weight by latest) ⊎ IsLatest answers arc.class arc.weight by None → (last : ℕ) × Arrives (turned_roads roads) (IsTurned answers) arc.head (HORIZON - by) (reverse (walk ++ number ∷ [])) start last × (last ≤ HORIZON - departure)
        step front (inr none) = absurd (none time in_time)
        step front (inl found) =
            let latest = found.1 in
            let rest = front found.0 (latest.latest time in_time) latest.in_time.within in
            let answer : IsTurned answers arc.class arc.weight (HORIZON - by) (HORIZON - found.0) = inl (found.0, subst (λ a. IsDepartureBy answers arc.class arc.weight a found.0) back latest, refl) in
            let onward = subst (λ n. Arrives (turned_roads roads) (IsTurned answers) n (HORIZON - found.0) (reverse walk) start rest.0) (sym tail) rest.1 in
            let whole = arrives_by_first (turned_roads roads) (IsTurned answers) (turned_arc arc) (omega arith) (arc_turned roads number arc is_arc) answer onward in (
              rest.0,
              subst (λ w. Arrives (turned_roads roads) (IsTurned answers) arc.head (HORIZON - by) w start rest.0) (sym (reverse-push walk number)) whole,
              rest.2,
            )
