-- The first trip at or after a departure.
use Rattle.std.proofs.Common.{◌≡◌, ℕ, ◌+◌, ◌-◌, ◌*◌, ◌/◌, ◌%◌, ◌<◌, ◌≤◌, ◌⊎◌, inl, inr, true, false, min, refl, ap, sym, ◌∙◌, arith, leb, List, length}
use Rattle.std.proofs.Math.Nat.{div-add-mod, mod-le, mul-le-mul_left, mod-zero}
use Rattle.std.proofs.lemmas.Nat.{mod_below}
use Rattle.std.proofs.lemmas.Bool.Decides.{leb_tells}
use Rattle.ea_travel_times.specs.Speeds.{never, time_at, value_at}
use Rattle.ea_travel_times.specs.Times.{mod_of}
use Rattle.ea_travel_times.specs.Trips.{AreTrips, IsArrivalByTrips, IsTrip}
use Rattle.ea_travel_times.specs.TripLaws.{later_leaves}

module _ (period : ℕ) (steps : List (ℕ × ℕ)) (are : AreTrips period steps) where
  -- the trips before a place leave before the phase, so a trip at or after it is at that place or a later one
  place_from : (phase place other : ℕ) → place ≤ length steps → (0 < place → time_at steps (place - 1) < phase) → other < length steps → phase ≤ time_at steps other → place ≤ other
  place_from phase place other inside before found late = elim (leb_tells place other) [
    | inl low ↦ low.1
    | inr high ↦
        let order = later_leaves period steps are other (place - 1) (omega (arith, high.1)) (omega (arith, high.1, inside)) in
        let early = before (omega (arith, high.1)) in
        absurd (omega (arith, order, early, late))
  ]

  -- a trip of an earlier period leaves before the departure's period
  turn_of : (departure other also : ℕ) → 0 < period → departure ≤ other → IsTrip period steps other also → departure / period ≤ other / period
  turn_of departure other also some order trip = elim (leb_tells (departure / period) (other / period)) [
    | inl low ↦ low.1
    | inr high ↦
        let left = div-add-mod departure period in
        let right = div-add-mod other period in
        let less = mul-le-mul_left {m = other / period + 1} {n = departure / period} period (omega (arith, high.1)) in
        let product : period * (other / period + 1) ≡ period * (other / period) + period = omega arith in
        let below = mod_below other period some in
        absurd (omega (arith, less, product, left, right, order, below))
  ]

  module _ (weight departure phase place arrival : ℕ) (is : phase ≡ departure % period) (inside : place ≤ length steps) (before : 0 < place → time_at steps (place - 1) < phase) where
    within_turn : (other also : ℕ) → place < length steps → phase ≤ time_at steps place → departure ≤ other → IsTrip period steps other also → departure - phase + time_at steps place ≤ other
    within_turn other also found late order trip = by_period (leb_tells period 0)
      where
        same_turn : phase ≤ time_at steps trip.place → time_at steps place ≤ time_at steps trip.place
        same_turn early = later_leaves period steps are place trip.place (place_from phase place trip.place inside before trip.found early) trip.found

        by_period : ((leb period 0 ≡ true) × (period ≤ 0)) ⊎ ((leb period 0 ≡ false) × (0 < period)) → departure - phase + time_at steps place ≤ other
        by_period (inl none) =
            let zero_period : period ≡ 0 = omega (arith, none.1) in
            let left : phase ≡ departure = is ∙ ap (λ p. departure % p) zero_period ∙ mod-zero departure in
            let right : time_at steps trip.place ≡ other = trip.leaves ∙ ap (λ p. other % p) zero_period ∙ mod-zero other in
            let kept = same_turn (omega (arith, left, right, order)) in
            omega (arith, kept, left, right)
        by_period (inr some) =
            let left = div-add-mod departure period in
            let right = div-add-mod other period in
            let turns = turn_of departure other also some.1 order trip in
            let below = are.within place found some.1 in
            elim (leb_tells (other / period) (departure / period)) [
              | inl low ↦
                  let same : departure / period ≡ other / period = omega (arith, low.1, turns) in
                  let products : period * (departure / period) ≡ period * (other / period) = ap (λ n. period * n) same in
                  let kept = same_turn (omega (arith, left, right, products, order, is, trip.leaves)) in
                  omega (arith, kept, left, right, products, is, trip.leaves)
              | inr high ↦
                  let more = mul-le-mul_left {m = departure / period + 1} {n = other / period} period (omega (arith, high.1)) in
                  let product : period * (departure / period + 1) ≡ period * (departure / period) + period = omega arith in
                  omega (arith, more, product, left, right, is, below)
            ]

    leaves_so : place < length steps → time_at steps place ≡ (departure - phase + time_at steps place) % period
    leaves_so found = by_period (leb_tells period 0)
      where
        by_period : ((leb period 0 ≡ true) × (period ≤ 0)) ⊎ ((leb period 0 ≡ false) × (0 < period)) → time_at steps place ≡ (departure - phase + time_at steps place) % period
        by_period (inl none) =
            let zero_period : period ≡ 0 = omega (arith, none.1) in
            let left : phase ≡ departure = is ∙ ap (λ p. departure % p) zero_period ∙ mod-zero departure in
            let same : time_at steps place ≡ departure - phase + time_at steps place = omega (arith, left) in
            same ∙ sym (ap (λ p. (departure - phase + time_at steps place) % p) zero_period ∙ mod-zero (departure - phase + time_at steps place))
        by_period (inr some) =
            let left = div-add-mod departure period in
            let begin : departure - phase + time_at steps place ≡ period * (departure / period) + time_at steps place = omega (arith, left, is) in
            sym (ap (λ n. n % period) begin ∙ mod_of period (departure / period) (time_at steps place) (are.within place found some.1))

    pub trip_this_turn : place < length steps → phase ≤ time_at steps place → arrival ≡ min (departure - phase + time_at steps place + weight + value_at steps place) never → IsArrivalByTrips period steps weight departure arrival
    trip_this_turn found late arrives = inl (
      departure - phase + time_at steps place,
      value_at steps place,
      record {
        not_before = let part = mod-le departure period in omega (arith, late, is, part);
        trip = record { place = place; found = found; leaves = leaves_so found; takes = refl };
        least = λ other also order trip. within_turn other also found late order trip;
      },
      arrives,
    )

    -- none is left in this period
    none_left : (other also : ℕ) → length steps ≤ place → departure ≤ other → (trip : IsTrip period steps other also) → phase ≤ time_at steps trip.place → ⊥
    none_left other also past order trip early = let from = place_from phase place trip.place inside before trip.found early in omega (arith, from, past, trip.found)

    pub trip_next_turn : 0 < period → length steps ≤ place → arrival ≡ min (departure - phase + period + time_at steps 0 + weight + value_at steps 0) never → IsArrivalByTrips period steps weight departure arrival
    trip_next_turn some past arrives = inl (
      departure - phase + period + time_at steps 0,
      value_at steps 0,
      record {
        not_before = let below = mod_below departure period some in omega (arith, is, below);
        trip = record {
          place = 0;
          found = are.some;
          leaves =
              let left = div-add-mod departure period in
              let product : period * (departure / period + 1) ≡ period * (departure / period) + period = omega arith in
              let begin : departure - phase + period + time_at steps 0 ≡ period * (departure / period + 1) + time_at steps 0 = omega (arith, left, is, product) in
              sym (ap (λ n. n % period) begin ∙ mod_of period (departure / period + 1) (time_at steps 0) (are.within 0 are.some some));
          takes = refl;
        };
        least = λ other also order trip. next_turn other also order trip;
      },
      arrives,
    )
      where
        next_turn : (other also : ℕ) → departure ≤ other → IsTrip period steps other also → departure - phase + period + time_at steps 0 ≤ other
        next_turn other also order trip =
            let left = div-add-mod departure period in
            let right = div-add-mod other period in
            let turns = turn_of departure other also some order trip in
            let first = later_leaves period steps are 0 trip.place (omega arith) trip.found in
            elim (leb_tells (other / period) (departure / period)) [
              | inl low ↦
                  let same : departure / period ≡ other / period = omega (arith, low.1, turns) in
                  let products : period * (departure / period) ≡ period * (other / period) = ap (λ n. period * n) same in
                  absurd (none_left other also past order trip (omega (arith, left, right, products, order, is, trip.leaves)))
              | inr high ↦
                  let more = mul-le-mul_left {m = departure / period + 1} {n = other / period} period (omega (arith, high.1)) in
                  let product : period * (departure / period + 1) ≡ period * (departure / period) + period = omega arith in
                  omega (arith, more, product, left, right, is, first, trip.leaves)
            ]

    pub no_trip_left : period ≤ 0 → length steps ≤ place → arrival ≡ never → IsArrivalByTrips period steps weight departure arrival
    no_trip_left none past arrives = inr (
      (λ time extra order early trip.
          let zero_period : period ≡ 0 = omega (arith, none) in
          let left : phase ≡ departure = is ∙ ap (λ p. departure % p) zero_period ∙ mod-zero departure in
          let right : time_at steps trip.place ≡ time = trip.leaves ∙ ap (λ p. time % p) zero_period ∙ mod-zero time in
          none_left time extra past order trip (omega (arith, left, right, order))),
      arrives,
    )
