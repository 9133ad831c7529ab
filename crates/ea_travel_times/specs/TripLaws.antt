-- Travel times by trips are first in, first out, if no trip overtakes another.
use Rattle.std.proofs.Common.{◌≡◌, ℕ, zero, suc, ◌+◌, ◌-◌, ◌*◌, ◌/◌, ◌%◌, ◌<◌, ◌≤◌, ◌⊎◌, inl, inr, Bool, true, false, cond, min, refl, ap, sym, ◌∙◌, arith, leb, List, [], ◌∷◌, length}
use Rattle.std.proofs.Math.Nat.{div-add-mod, mul-le-mul_left, mod-zero}
use Rattle.std.proofs.lemmas.Bool.Decides.{leb_tells, nat_tests}
use Rattle.std.specs.Prelude.{nat_eq}
use Rattle.ea_base.specs.declared.limits.TheConstants.{HORIZON}
use Rattle.ea_travel_times.specs.Speeds.{never, time_at, value_at}
use Rattle.ea_travel_times.specs.SpeedLaws.{IsFirst, first_of_sums}
use Rattle.ea_travel_times.specs.Trips.{AreTrips, IsArrivalByTrips, IsTrip}

-- what grows from each place to the next grows from each place to each later one
pub grows : (value : ℕ → ℕ) (count place more : ℕ) → ((at : ℕ) → at + 1 < count → value at ≤ value (at + 1)) → place + more < count → value place ≤ value (place + more)
grows value count place zero next below = let same : place + 0 ≡ place = omega arith in rw same (omega arith)
grows value count place (suc more) next below =
    let same : place + suc more ≡ place + more + 1 = omega arith in
    let before = grows value count place more next (omega (arith, below)) in
    let last = next (place + more) (omega (arith, below)) in
    rw same (omega (arith, before, last))

module _ (period : ℕ) (steps : List (ℕ × ℕ)) (are : AreTrips period steps) where
  pub later_leaves : (place later : ℕ) → place ≤ later → later < length steps → time_at steps place ≤ time_at steps later
  later_leaves place later order below =
      let same : place + (later - place) ≡ later = omega arith in
      rw same at (grows (time_at steps) (length steps) place (later - place) (λ at inside. let up = are.ascend at inside in omega (arith, up)) (omega (arith, below)))

  pub earlier_place : (place later : ℕ) → place < length steps → later < length steps → time_at steps place ≤ time_at steps later → place ≤ later
  earlier_place place later found below order = elim (leb_tells place later) [
    | inl low ↦ low.1
    | inr high ↦
        let up = are.ascend later (omega (arith, high.1, found)) in
        let rest = later_leaves (later + 1) place (omega (arith, high.1)) found in
        absurd (omega (arith, up, rest, order))
  ]

  pub later_arrives : (place later : ℕ) → place ≤ later → later < length steps → time_at steps place + value_at steps place ≤ time_at steps later + value_at steps later
  later_arrives place later order below =
      let same : place + (later - place) ≡ later = omega arith in
      rw same at (grows (λ at. time_at steps at + value_at steps at) (length steps) place (later - place) are.in_order (omega (arith, below)))

  -- a trip that leaves no later arrives no later
  pub trips_keep : (time extra later also : ℕ) → IsTrip period steps time extra → IsTrip period steps later also → time ≤ later → time + extra ≤ later + also
  trips_keep time extra later also this that order = by_turn (leb_tells period 0)
    where
      first : ℕ
      first = time / period

      second : ℕ
      second = later / period

      one_turn : time_at steps this.place ≤ time_at steps that.place → time_at steps this.place + extra ≤ time_at steps that.place + also
      one_turn early = let both = later_arrives this.place that.place (earlier_place this.place that.place this.found that.found early) that.found in omega (arith, both, this.takes, that.takes)

      next_turn : 0 < period → time_at steps this.place + extra ≤ period + time_at steps that.place + also
      next_turn some =
          let up = later_arrives this.place (length steps - 1) (omega (arith, this.found)) (omega (arith, this.found)) in
          let from = later_arrives 0 that.place (omega arith) that.found in
          omega (arith, are.turn some, up, from, this.takes, that.takes)

      by_turn : ((leb period 0 ≡ true) × (period ≤ 0)) ⊎ ((leb period 0 ≡ false) × (0 < period)) → time + extra ≤ later + also
      by_turn (inl none) =
          let zero_period : period ≡ 0 = omega (arith, none.1) in
          let left : time_at steps this.place ≡ time = this.leaves ∙ ap (λ p. time % p) zero_period ∙ mod-zero time in
          let right : time_at steps that.place ≡ later = that.leaves ∙ ap (λ p. later % p) zero_period ∙ mod-zero later in
          let kept = one_turn (omega (arith, left, right, order)) in
          omega (arith, kept, left, right)
      by_turn (inr some) =
          let left = div-add-mod time period in
          let right = div-add-mod later period in
          elim (leb_tells (later / period) (time / period)) [
            | inl low ↦ elim (leb_tells (time / period) (later / period)) [
              | inl high ↦
                  let same : time / period ≡ later / period = omega (arith, low.1, high.1) in
                  let products : period * (time / period) ≡ period * (later / period) = ap (λ n. period * n) same in
                  let kept = one_turn (omega (arith, left, right, order, products, this.leaves, that.leaves)) in
                  omega (arith, kept, left, right, products, this.leaves, that.leaves)
              | inr high ↦
                  let less = mul-le-mul_left {m = later / period + 1} {n = time / period} period (omega (arith, high.1)) in
                  let product : period * (later / period + 1) ≡ period * (later / period) + period = omega arith in
                  let below = are.within that.place that.found some.1 in
                  absurd (omega (arith, less, product, left, right, order, that.leaves, below))
            ]
            | inr high ↦
                let more = mul-le-mul_left {m = time / period + 1} {n = later / period} period (omega (arith, high.1)) in
                let product : period * (time / period + 1) ≡ period * (time / period) + period = omega arith in
                let kept = next_turn some.1 in
                omega (arith, more, product, left, right, kept, this.leaves, that.leaves)
          ]

-- who leaves later arrives no earlier
pub trips_in_order : (period : ℕ) (steps : List (ℕ × ℕ)) (weight departure later arrival next : ℕ) → AreTrips period steps → IsArrivalByTrips period steps weight departure arrival → IsArrivalByTrips period steps weight later next → departure ≤ later → arrival ≤ next
trips_in_order period steps weight departure later arrival next are (inl this) (inl that) order =
    let early : this.0 ≤ that.0 = this.2.least that.0 that.1 (omega (arith, that.2.not_before, order)) that.2.trip in
    let kept = trips_keep period steps are this.0 this.1 that.0 that.1 this.2.trip that.2.trip early in
    omega (arith, kept, this.3, that.3)
trips_in_order period steps weight departure later arrival next are (inl this) (inr that) order = omega (arith, this.3, that.1)
trips_in_order period steps weight departure later arrival next are (inr this) (inl that) order = elim (leb_tells that.0 HORIZON) [
  | inl low ↦ absurd (this.0 that.0 that.1 (omega (arith, that.2.not_before, order)) low.1 that.2.trip)
  | inr high ↦ omega (arith, this.1, that.3, high.1)
]
trips_in_order period steps weight departure later arrival next are (inr this) (inr that) order = omega (arith, this.1, that.1)

pub trips_not_before : (period : ℕ) (steps : List (ℕ × ℕ)) (weight departure arrival : ℕ) → departure ≤ HORIZON → IsArrivalByTrips period steps weight departure arrival → departure ≤ arrival
trips_not_before period steps weight departure arrival within (inl this) = omega (arith, this.2.not_before, this.3, within)
trips_not_before period steps weight departure arrival within (inr this) = omega (arith, this.1, within)

-- ---- each departure has an arrival

-- 1 if a step has this time, else 0
leaving_at : List (ℕ × ℕ) → ℕ → ℕ
leaving_at [] time = 0
leaving_at (step ∷ steps) time = cond (nat_eq step.0 time) 1 (leaving_at steps time)

place_of : (steps : List (ℕ × ℕ)) (time : ℕ) → 1 ≤ leaving_at steps time → (place : ℕ) × (place < length steps) × (time_at steps place ≡ time)
unfolding leaving_at
place_of [] time has = absurd (omega (arith, has))
place_of (step ∷ steps) time has = one (nat_eq step.0 time) refl (λ more. place_of steps time more)
  where
    one : (b : Bool) → nat_eq step.0 time ≡ b → (1 ≤ leaving_at steps time → (place : ℕ) × (place < length steps) × (time_at steps place ≡ time)) → (place : ℕ) × (place < length (step ∷ steps)) × (time_at (step ∷ steps) place ≡ time)
    one true is rest = let same : step.0 ≡ time = grind (arith, nat_tests) in (0, omega arith, same)
    one false is rest = let found = rest (rw is at has) in (suc found.0, omega (arith, found.1), found.2)

leaving_from : (steps : List (ℕ × ℕ)) (time place : ℕ) → place < length steps → time_at steps place ≡ time → 1 ≤ leaving_at steps time
unfolding leaving_at
leaving_from [] time place below is = absurd (omega (arith, below))
leaving_from (step ∷ steps) time zero below is = let same : nat_eq step.0 time ≡ true = grind (arith, nat_tests) in rw same (omega arith)
leaving_from (step ∷ steps) time (suc place) below is = one (nat_eq step.0 time) (leaving_from steps time place (omega (arith, below)) is)
  where
    one : (b : Bool) → 1 ≤ leaving_at steps time → 1 ≤ cond b 1 (leaving_at steps time)
    one true rest = omega arith
    one false rest = rest

pub trips_have_answer : (period : ℕ) (steps : List (ℕ × ℕ)) (weight departure : ℕ) → departure ≤ HORIZON → (arrival : ℕ) × IsArrivalByTrips period steps weight departure arrival
trips_have_answer period steps weight departure within =
    let first = first_of_sums (λ n. leaving_at steps ((departure + n) % period)) 1 (never - departure) in
    found first.0 first.1 (leb_tells (never - departure) first.0)
  where
    found : (count : ℕ) → IsFirst (λ n. leaving_at steps ((departure + n) % period)) 1 (never - departure) count
        → ((leb (never - departure) count ≡ true) × (never - departure ≤ count)) ⊎ ((leb (never - departure) count ≡ false) × (count < never - departure)) → (arrival : ℕ) × IsArrivalByTrips period steps weight departure arrival
    found count is (inl past) = (
      never,
      inr (
        λ time extra order early trip.
            let same : departure + (time - departure) ≡ time = omega arith in
            let place : time_at steps trip.place ≡ (departure + (time - departure)) % period = trip.leaves ∙ ap (λ n. n % period) (sym same) in
            let has = leaving_from steps ((departure + (time - departure)) % period) trip.place trip.found place in
            let bound = is.least (time - departure) has in
            omega (arith, bound, past.1, order, early, within),
        refl,
      ),
    )
    found count is (inr inside) =
        let place = place_of steps ((departure + count) % period) (is.enough inside.1) in (
          min (departure + count + weight + value_at steps place.0) never,
          inl (
            departure + count,
            value_at steps place.0,
            record {
              not_before = omega arith;
              trip = record { place = place.0; found = place.1; leaves = place.2; takes = refl };
              least = λ other also order trip.
                  let same : departure + (other - departure) ≡ other = omega arith in
                  let at : time_at steps trip.place ≡ (departure + (other - departure)) % period = trip.leaves ∙ ap (λ n. n % period) (sym same) in
                  let has = leaving_from steps ((departure + (other - departure)) % period) trip.place trip.found at in
                  let bound = is.least (other - departure) has in
                  omega (arith, bound, order);
            },
            refl,
          ),
        )
