-- The latest departure by trips is that of the last trip that arrives in time.
use Rattle.std.proofs.Common.{◌≡◌, ℕ, ◌+◌, ◌-◌, ◌*◌, ◌/◌, ◌%◌, ◌<◌, ◌≤◌, ◌⊎◌, inl, inr, true, false, min, refl, ap, sym, ◌∙◌, arith, leb, List, length}
use Rattle.std.proofs.Math.Nat.{div-add-mod, mul-le-mul_left, mod-zero}
use Rattle.std.proofs.lemmas.Nat.{mod_below}
use Rattle.std.proofs.lemmas.Bool.Decides.{leb_tells}
use Rattle.std.specs.Prelude.{None}
use Rattle.ea_base.specs.declared.limits.TheConstants.{HORIZON}
use Rattle.ea_travel_times.specs.Departures.{IsDepartureBy, IsLatest}
use Rattle.ea_travel_times.specs.LastSteps.{IsLastDone, done_at}
use Rattle.ea_travel_times.specs.Speeds.{never, time_at, value_at}
use Rattle.ea_travel_times.specs.Times.{mod_of}
use Rattle.ea_travel_times.specs.TripLaws.{later_arrives, later_leaves}
use Rattle.ea_travel_times.specs.Trips.{AreTrips, IsArrivalByTrips, IsTrip}

module _ (period : ℕ) (steps : List (ℕ × ℕ)) (are : AreTrips period steps) where
  -- a trip in time is at the last place or before it
  place_to : (left begin place other : ℕ) (last : IsLastDone period steps left begin place) → other < length steps → begin + done_at steps other ≤ left → other ≤ place
  place_to left begin place other last found by = elim (leb_tells other place) [
    | inl low ↦ low.1
    | inr high ↦
        let later = later_arrives period steps are (place + 1) other (omega (arith, high.1)) found in
        let late = last.next_late (omega (arith, high.1, found)) in
        absurd (omega (arith, later, late, by))
  ]

  trip_to : (left begin place time extra : ℕ) (last : IsLastDone period steps left begin place) → IsTrip period steps time extra → time + extra ≤ left → time ≤ begin + time_at steps place
  trip_to left begin place time extra last trip by = by_period (leb_tells period 0)
    where
      by_period : ((leb period 0 ≡ true) × (period ≤ 0)) ⊎ ((leb period 0 ≡ false) × (0 < period)) → time ≤ begin + time_at steps place
      by_period (inl none) =
          let zero_period : period ≡ 0 = omega (arith, none.1) in
          let start : begin ≡ 0 = last.begins ∙ ap (λ p. p * last.turns) zero_period ∙ omega arith in
          let same : time_at steps trip.place ≡ time = trip.leaves ∙ ap (λ p. time % p) zero_period ∙ mod-zero time in
          let low = place_to left begin place trip.place last trip.found (omega (arith, start, same, trip.takes, by)) in
          let order = later_leaves period steps are trip.place place low last.found in
          omega (arith, order, same)
      by_period (inr some) =
          let parts = div-add-mod time period in
          elim (leb_tells (time / period) last.turns) [
            | inl early ↦ elim (leb_tells last.turns (time / period)) [
              | inl late ↦
                  let turn : time / period ≡ last.turns = omega (arith, early.1, late.1) in
                  let products : period * (time / period) ≡ period * last.turns = ap (λ n. period * n) turn in
                  let low = place_to left begin place trip.place last trip.found (omega (arith, products, parts, last.begins, trip.leaves, trip.takes, by)) in
                  let order = later_leaves period steps are trip.place place low last.found in
                  omega (arith, order, products, parts, last.begins, trip.leaves)
              | inr before ↦
                  let more = mul-le-mul_left {m = time / period + 1} {n = last.turns} period (omega (arith, before.1)) in
                  let product : period * (time / period + 1) ≡ period * (time / period) + period = omega arith in
                  let below = mod_below time period some.1 in
                  omega (arith, more, product, parts, below, last.begins)
            ]
            | inr past ↦
                let more = mul-le-mul_left {m = last.turns + 1} {n = time / period} period (omega (arith, past.1)) in
                let product : period * (last.turns + 1) ≡ period * last.turns + period = omega arith in
                let first = later_arrives period steps are 0 trip.place (omega arith) trip.found in
                let late = last.turn_late some.1 in
                absurd (omega (arith, more, product, parts, last.begins, first, late, trip.leaves, trip.takes, by))
          ]

  -- a trip leaves at the last place
  trip_at : (left begin place : ℕ) (last : IsLastDone period steps left begin place) → IsTrip period steps (begin + time_at steps place) (value_at steps place)
  trip_at left begin place last = record { place = place; found = last.found; leaves = leaves (leb_tells period 0); takes = refl }
    where
      leaves : ((leb period 0 ≡ true) × (period ≤ 0)) ⊎ ((leb period 0 ≡ false) × (0 < period)) → time_at steps place ≡ (begin + time_at steps place) % period
      leaves (inl none) =
          let zero_period : period ≡ 0 = omega (arith, none.1) in
          let start : begin ≡ 0 = last.begins ∙ ap (λ p. p * last.turns) zero_period ∙ omega arith in
          let same : begin + time_at steps place ≡ time_at steps place = omega (arith, start) in
          sym (ap (λ p. (begin + time_at steps place) % p) zero_period ∙ mod-zero (begin + time_at steps place) ∙ same)
      leaves (inr some) =
          let start : begin + time_at steps place ≡ period * last.turns + time_at steps place = ap (λ n. n + time_at steps place) last.begins in
          sym (ap (λ n. n % period) start ∙ mod_of period last.turns (time_at steps place) (are.within place last.found some.1))

  pub last_trip_is_latest : (weight arrival begin place : ℕ) → weight ≤ arrival → arrival ≤ HORIZON → IsLastDone period steps (arrival - weight) begin place → IsDepartureBy (λ class. IsArrivalByTrips period steps) 0 weight arrival (begin + time_at steps place)
  last_trip_is_latest weight arrival begin place enough within last =
      let by = last.by in
      record {
        in_time = record {
          within = omega (arith, by, within);
          reached = min (begin + time_at steps place + weight + value_at steps place) never;
          answer = inl (
            begin + time_at steps place,
            value_at steps place,
            record { not_before = omega arith; trip = trip_at (arrival - weight) begin place last; least = λ other also order trip. order },
            refl,
          );
          by = omega (arith, by, enough);
        };
        latest = λ later in_time. bound later in_time.reached in_time.by in_time.answer;
      }
    where
      bound : (later reached : ℕ) → reached ≤ arrival → IsArrivalByTrips period steps weight later reached → later ≤ begin + time_at steps place
      bound later reached soon (inr after) = absurd (omega (arith, after.1, soon, within))
      bound later reached soon (inl next) =
          let order = next.2.not_before in
          let low = trip_to (arrival - weight) begin place next.0 next.1 last next.2.trip (omega (arith, next.3, soon, within, enough)) in
          omega (arith, order, low)

  pub no_trip_in_time : (weight arrival : ℕ) → arrival ≤ HORIZON → arrival < weight + done_at steps 0 → IsLatest (λ class. IsArrivalByTrips period steps) 0 weight arrival None
  no_trip_in_time weight arrival within few departure in_time = never_by in_time.reached in_time.by in_time.answer
    where
      done : (time extra : ℕ) → IsTrip period steps time extra → done_at steps 0 ≤ time + extra
      done time extra trip =
          let first = later_arrives period steps are 0 trip.place (omega arith) trip.found in
          let low = small (leb_tells period 0) in
          omega (arith, first, low, trip.takes)
        where
          small : ((leb period 0 ≡ true) × (period ≤ 0)) ⊎ ((leb period 0 ≡ false) × (0 < period)) → time_at steps trip.place ≤ time
          small (inl none) =
              let zero_period : period ≡ 0 = omega (arith, none.1) in
              let same : time_at steps trip.place ≡ time = trip.leaves ∙ ap (λ p. time % p) zero_period ∙ mod-zero time in
              omega (arith, same)
          small (inr some) = let parts = div-add-mod time period in omega (arith, parts, trip.leaves)

      never_by : (reached : ℕ) → reached ≤ arrival → IsArrivalByTrips period steps weight departure reached → ⊥
      never_by reached soon (inr after) = omega (arith, after.1, soon, within)
      never_by reached soon (inl next) = let low = done next.0 next.1 next.2.trip in omega (arith, low, next.3, soon, within, few)
