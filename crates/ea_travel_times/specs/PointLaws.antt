-- Travel times by points are first in, first out.
use Rattle.std.proofs.Common.{◌≡◌, ℕ, zero, suc, ◌+◌, ◌-◌, ◌*◌, ◌/◌, ◌%◌, ◌<◌, ◌≤◌, ◌⊎◌, inl, inr, true, false, refl, ap, sym, ◌∙◌, arith, leb, subst, List, length}
use Rattle.std.proofs.Math.Nat.{div-add-mod, div-mul-le_self, lt-div-mul-add, mul-div_cancel, mul-le-mul_left, mod-zero}
use Rattle.std.proofs.lemmas.Nat.{mod_below}
use Rattle.std.proofs.lemmas.Bool.Decides.{leb_tells}
use Rattle.ea_travel_times.specs.Speeds.{time_at, value_at}
use Rattle.ea_travel_times.specs.Trips.{AreTrips}
use Rattle.ea_travel_times.specs.TripLaws.{later_arrives, later_leaves}
use Rattle.ea_travel_times.specs.Points.{line, IsBetween, IsAfterLast, IsBeforeFirst, IsValue, IsArrivalByPoints, ArePoints}

-- what grows by at most n whole divisors has a quotient that grows by at most n
pub quotient_grows : (n m d b : ℕ) → 0 < d → n ≤ m + d * b → n / d ≤ m / d + b
quotient_grows n m d b some few = elim (leb_tells (n / d) (m / d + b)) [
  | inl low ↦ low.1
  | inr high ↦
      let most = div-mul-le_self n d in
      let least = lt-div-mul-add {a = m} {b = d} some in
      let more = mul-le-mul_left {m = m / d + b + 1} {n = n / d} d (omega (arith, high.1)) in
      let product : d * (m / d + b + 1) ≡ d * (m / d) + d * b + d = omega arith in
      absurd (omega (arith, most, least, more, product, few))
]

-- along a line that falls at most as fast as time goes by, who leaves later arrives no earlier: with a, b and c between the points
line_grows : (x y a b c : ℕ) → x ≤ y + (a + b + c) → 0 < a + b + c → (x * (a + b) + y * c) / (a + b + c) ≤ (x * a + y * (b + c)) / (a + b + c) + b
line_grows x y a b c slope some =
    let steep = mul-le-mul_left {m = x} {n = y + (a + b + c)} b slope in
    let product : b * (y + (a + b + c)) ≡ b * y + (a + b + c) * b = omega arith in
    quotient_grows (x * (a + b) + y * c) (x * a + y * (b + c)) (a + b + c) b some (omega (arith, steep, product))

pub line_in_order : (t x s y u v : ℕ) → t < s → t + x ≤ s + y → t ≤ u → u ≤ v → v ≤ s → u + line t x s y u ≤ v + line t x s y v
line_in_order t x s y u v rises slope from order to =
    let left : s - u ≡ (s - v) + (v - u) = omega (arith, from, order, to) in
    let right : v - t ≡ (v - u) + (u - t) = omega (arith, from, order, to) in
    let whole : s - t ≡ (s - v) + (v - u) + (u - t) = omega (arith, from, order, to) in
    let grows = line_grows x y (s - v) (v - u) (u - t) (omega (arith, slope, whole, rises)) (omega (arith, rises, whole)) in
    rw (left, right, whole) (omega (arith, grows, order))

pub line_begins : (t x s y : ℕ) → t < s → line t x s y t ≡ x
line_begins t x s y rises =
    let none : t - t ≡ 0 = omega arith in
    let product : x * (s - t) + y * 0 ≡ x * (s - t) = omega arith in
    rw none (rw product (mul-div_cancel x {n = s - t} (omega (arith, rises))))

pub line_ends : (t x s y : ℕ) → t < s → line t x s y s ≡ y
line_ends t x s y rises =
    let none : s - s ≡ 0 = omega arith in
    let product : x * 0 + y * (s - t) ≡ y * (s - t) = omega arith in
    rw none (rw product (mul-div_cancel y {n = s - t} (omega (arith, rises))))

-- what leaves on a line arrives between its ends
line_from : (t x s y u : ℕ) → t < s → t + x ≤ s + y → t ≤ u → u ≤ s → t + x ≤ u + line t x s y u
line_from t x s y u rises slope from to = let kept = line_in_order t x s y t u rises slope (omega arith) from to in omega (arith, kept, line_begins t x s y rises)

line_to : (t x s y u : ℕ) → t < s → t + x ≤ s + y → t ≤ u → u ≤ s → u + line t x s y u ≤ s + y
line_to t x s y u rises slope from to = let kept = line_in_order t x s y u s rises slope from to (omega arith) in omega (arith, kept, line_ends t x s y rises)

-- ---- in order

module _ (period : ℕ) (points : List (ℕ × ℕ)) (are : ArePoints period points) where
  -- when who leaves at a point arrives
  abbrev sum_at : ℕ → ℕ
  sum_at place = time_at points place + value_at points place

  to_last : (place : ℕ) → place < length points → place ≤ length points - 1
  to_last place found = omega arith

  has_last : length points - 1 < length points
  has_last = let some = are.some in omega arith

  -- a time between two points, with their values
  between_from : (at value : ℕ) (is : IsBetween points at value) → time_at points is.place + value_at points is.place ≤ at + value
  between_from at value is =
      let kept = line_from (time_at points is.place) (value_at points is.place) (time_at points (is.place + 1)) (value_at points (is.place + 1)) at (are.ascend is.place is.found) (are.in_order is.place is.found) is.not_before (omega (arith, is.below)) in
      omega (arith, kept, is.is)

  between_to : (at value : ℕ) (is : IsBetween points at value) → at + value ≤ time_at points (is.place + 1) + value_at points (is.place + 1)
  between_to at value is =
      let kept = line_to (time_at points is.place) (value_at points is.place) (time_at points (is.place + 1)) (value_at points (is.place + 1)) at (are.ascend is.place is.found) (are.in_order is.place is.found) is.not_before (omega (arith, is.below)) in
      omega (arith, kept, is.is)

  between_in_order : (at value later next : ℕ) (this : IsBetween points at value) (that : IsBetween points later next) → at ≤ later → at + value ≤ later + next
  between_in_order at value later next this that order = by_place (leb_tells this.place that.place) (leb_tells that.place this.place)
    where
      by_place : ((leb this.place that.place ≡ true) × (this.place ≤ that.place)) ⊎ ((leb this.place that.place ≡ false) × (that.place < this.place))
          → ((leb that.place this.place ≡ true) × (that.place ≤ this.place)) ⊎ ((leb that.place this.place ≡ false) × (this.place < that.place)) → at + value ≤ later + next
      by_place (inl low) (inl high) =
          let same : that.place ≡ this.place = omega (arith, low.1, high.1) in
          let is : next ≡ line (time_at points this.place) (value_at points this.place) (time_at points (this.place + 1)) (value_at points (this.place + 1)) later =
          that.is ∙ ap (λ p. line (time_at points p) (value_at points p) (time_at points (p + 1)) (value_at points (p + 1)) later) same in
          let below : later < time_at points (this.place + 1) = rw (sym same) that.below in
          let kept = line_in_order (time_at points this.place) (value_at points this.place) (time_at points (this.place + 1)) (value_at points (this.place + 1)) at later (are.ascend this.place this.found) (are.in_order this.place this.found) this.not_before order (omega (arith, below)) in
          omega (arith, kept, this.is, is)
      by_place (inl low) (inr high) =
          let up = between_to at value this in
          let rest = later_arrives period points are (this.place + 1) that.place (omega (arith, high.1)) (omega (arith, that.found)) in
          let down = between_from later next that in
          omega (arith, up, rest, down)
      by_place (inr past) _ =
          let late = later_leaves period points are (that.place + 1) this.place (omega (arith, past.1)) (omega (arith, this.found)) in
          absurd (omega (arith, late, order, this.not_before, that.below))

  -- ---- with no period

  stays_in_order : period ≡ 0 → (at value later next : ℕ) → IsValue period points at value → IsValue period points later next → at ≤ later → at + value ≤ later + next
  stays_in_order none at value later next (inl this) (inl that) order = between_in_order at value later next this that order
  stays_in_order none at value later next (inl this) (inr (inl that)) order =
      let up = between_to at value this in
      let rest = later_arrives period points are (this.place + 1) (length points - 1) (to_last (this.place + 1) this.found) has_last in
      omega (arith, up, rest, that.stays none, that.not_before)
  stays_in_order none at value later next (inl this) (inr (inr that)) order =
      let early = later_leaves period points are 0 this.place (omega arith) (omega (arith, this.found)) in
      absurd (omega (arith, early, order, this.not_before, that.below))
  stays_in_order none at value later next (inr (inl this)) (inl that) order =
      let late = later_leaves period points are (that.place + 1) (length points - 1) (to_last (that.place + 1) that.found) has_last in
      absurd (omega (arith, late, order, this.not_before, that.below))
  stays_in_order none at value later next (inr (inl this)) (inr (inl that)) order = omega (arith, this.stays none, that.stays none, order)
  stays_in_order none at value later next (inr (inl this)) (inr (inr that)) order =
      let late = later_leaves period points are 0 (length points - 1) (omega arith) has_last in
      absurd (omega (arith, late, order, this.not_before, that.below))
  stays_in_order none at value later next (inr (inr this)) (inl that) order =
      let rest = later_arrives period points are 0 that.place (omega arith) (omega (arith, that.found)) in
      let down = between_from later next that in
      omega (arith, rest, down, this.stays none, this.below)
  stays_in_order none at value later next (inr (inr this)) (inr (inl that)) order =
      let rest = later_arrives period points are 0 (length points - 1) (omega arith) has_last in
      omega (arith, rest, this.stays none, this.below, that.stays none, that.not_before)
  stays_in_order none at value later next (inr (inr this)) (inr (inr that)) order = omega (arith, this.stays none, that.stays none, order)

  -- ---- with a period

  -- a time lies on the line from the last point to the first one of the next period
  record IsOnTurn (at value : ℕ) : Type 0 where
    not_before : time_at points (length points - 1) ≤ at
    below : at < time_at points 0 + period
    is : value ≡ line (time_at points (length points - 1)) (value_at points (length points - 1)) (time_at points 0 + period) (value_at points 0) at

  abbrev IsSpot : ℕ → ℕ → Type 0
  IsSpot at value = IsBetween points at value ⊎ IsOnTurn at value

  turn_rises : 0 < period → time_at points (length points - 1) < time_at points 0 + period
  turn_rises some = let below = are.within (length points - 1) has_last some in omega (arith, below)

  turn_from : 0 < period → (at value : ℕ) (is : IsOnTurn at value) → time_at points (length points - 1) + value_at points (length points - 1) ≤ at + value
  turn_from some at value is =
      let turn = are.turn some in
      let kept = line_from (time_at points (length points - 1)) (value_at points (length points - 1)) (time_at points 0 + period) (value_at points 0) at (turn_rises some) (omega (arith, turn)) is.not_before (omega (arith, is.below)) in
      omega (arith, kept, is.is)

  turn_to : 0 < period → (at value : ℕ) (is : IsOnTurn at value) → at + value ≤ time_at points 0 + period + value_at points 0
  turn_to some at value is =
      let turn = are.turn some in
      let kept = line_to (time_at points (length points - 1)) (value_at points (length points - 1)) (time_at points 0 + period) (value_at points 0) at (turn_rises some) (omega (arith, turn)) is.not_before (omega (arith, is.below)) in
      omega (arith, kept, is.is)

  spots_in_order : 0 < period → (at value later next : ℕ) → IsSpot at value → IsSpot later next → at ≤ later → at + value ≤ later + next
  spots_in_order some at value later next (inl this) (inl that) order = between_in_order at value later next this that order
  spots_in_order some at value later next (inl this) (inr that) order =
      let up = between_to at value this in
      let rest = later_arrives period points are (this.place + 1) (length points - 1) (to_last (this.place + 1) this.found) has_last in
      let down = turn_from some later next that in
      omega (arith, up, rest, down)
  spots_in_order some at value later next (inr this) (inl that) order =
      let late = later_leaves period points are (that.place + 1) (length points - 1) (to_last (that.place + 1) that.found) has_last in
      absurd (omega (arith, late, order, this.not_before, that.below))
  spots_in_order some at value later next (inr this) (inr that) order =
      let turn = are.turn some in
      let kept = line_in_order (time_at points (length points - 1)) (value_at points (length points - 1)) (time_at points 0 + period) (value_at points 0) at later (turn_rises some) (omega (arith, turn)) this.not_before order (omega (arith, that.below)) in
      omega (arith, kept, this.is, that.is)

  spot_from : 0 < period → (at value : ℕ) → IsSpot at value → sum_at 0 ≤ at + value
  spot_from some at value (inl is) =
      let rest = later_arrives period points are 0 is.place (omega arith) (omega (arith, is.found)) in
      let down = between_from at value is in
      omega (arith, rest, down)
  spot_from some at value (inr is) =
      let rest = later_arrives period points are 0 (length points - 1) (omega arith) has_last in
      let down = turn_from some at value is in
      omega (arith, rest, down)

  spot_to : 0 < period → (at value : ℕ) → IsSpot at value → at + value ≤ sum_at 0 + period
  spot_to some at value (inl is) =
      let up = between_to at value is in
      let rest = later_arrives period points are (is.place + 1) (length points - 1) (to_last (is.place + 1) is.found) has_last in
      let turn = are.turn some in
      omega (arith, up, rest, turn)
  spot_to some at value (inr is) = let up = turn_to some at value is in omega (arith, up)

  -- a departure, seen a period later, is a number of periods and a time from the first point on, before that of the next period
  record IsPlaced (departure value : ℕ) : Type 0 where
    turns : ℕ
    spot : ℕ
    at : departure + period ≡ period * turns + spot
    not_before : time_at points 0 ≤ spot
    below : spot < time_at points 0 + period
    is : IsSpot spot value

  placed : 0 < period → (departure value : ℕ) → IsValue period points (departure % period) value → IsPlaced departure value
  placed some departure value (inl is) =
      let parts = div-add-mod departure period in
      let first = later_leaves period points are 0 is.place (omega arith) (omega (arith, is.found)) in
      let rest = mod_below departure period some in
      let product : period * (departure / period + 1) ≡ period * (departure / period) + period = omega arith in
      record {
        turns = departure / period + 1;
        spot = departure % period;
        at = omega (arith, parts, product);
        not_before = omega (arith, first, is.not_before);
        below = omega (arith, rest);
        is = inl is;
      }
  placed some departure value (inr (inl is)) =
      let parts = div-add-mod departure period in
      let first = later_leaves period points are 0 (length points - 1) (omega arith) has_last in
      let rest = mod_below departure period some in
      let product : period * (departure / period + 1) ≡ period * (departure / period) + period = omega arith in
      record {
        turns = departure / period + 1;
        spot = departure % period;
        at = omega (arith, parts, product);
        not_before = omega (arith, first, is.not_before);
        below = omega (arith, rest);
        is = inr (record { not_before = is.not_before; below = omega (arith, rest); is = is.goes_on some });
      }
  placed some departure value (inr (inr is)) =
      let parts = div-add-mod departure period in
      let inside = are.within 0 are.some some in
      let before = are.within (length points - 1) has_last some in
      record {
        turns = departure / period;
        spot = departure % period + period;
        at = omega (arith, parts);
        not_before = omega (arith, inside);
        below = omega (arith, is.below);
        is = inr (record { not_before = omega (arith, before); below = omega (arith, is.below); is = is.goes_on some });
      }

  placed_in_order : 0 < period → (departure value later next : ℕ) (this : IsPlaced departure value) (that : IsPlaced later next) → departure ≤ later → departure + value ≤ later + next
  placed_in_order some departure value later next this that order = by_turns (leb_tells this.turns that.turns) (leb_tells that.turns this.turns)
    where
      by_turns : ((leb this.turns that.turns ≡ true) × (this.turns ≤ that.turns)) ⊎ ((leb this.turns that.turns ≡ false) × (that.turns < this.turns))
          → ((leb that.turns this.turns ≡ true) × (that.turns ≤ this.turns)) ⊎ ((leb that.turns this.turns ≡ false) × (this.turns < that.turns)) → departure + value ≤ later + next
      by_turns (inl low) (inl high) =
          let same : this.turns ≡ that.turns = omega (arith, low.1, high.1) in
          let products : period * this.turns ≡ period * that.turns = ap (λ n. period * n) same in
          let kept = spots_in_order some this.spot value that.spot next this.is that.is (omega (arith, order, this.at, that.at, products)) in
          omega (arith, kept, this.at, that.at, products)
      by_turns (inl low) (inr high) =
          let more = mul-le-mul_left {m = this.turns + 1} {n = that.turns} period (omega (arith, high.1)) in
          let product : period * (this.turns + 1) ≡ period * this.turns + period = omega arith in
          let up = spot_to some this.spot value this.is in
          let down = spot_from some that.spot next that.is in
          omega (arith, more, product, up, down, this.at, that.at)
      by_turns (inr past) _ =
          let more = mul-le-mul_left {m = that.turns + 1} {n = this.turns} period (omega (arith, past.1)) in
          let product : period * (that.turns + 1) ≡ period * that.turns + period = omega arith in
          absurd (omega (arith, more, product, order, this.at, that.at, this.not_before, that.below))

  pub points_in_order : (weight departure later arrival next : ℕ) → IsArrivalByPoints period points weight departure arrival → IsArrivalByPoints period points weight later next → departure ≤ later → arrival ≤ next
  points_in_order weight departure later arrival next this that order = elim (leb_tells period 0) [
    | inl none ↦
        let zero_period : period ≡ 0 = omega (arith, none.1) in
        let left : departure % period ≡ departure = ap (λ p. departure % p) zero_period ∙ mod-zero departure in
        let right : later % period ≡ later = ap (λ p. later % p) zero_period ∙ mod-zero later in
        let kept = stays_in_order zero_period (departure % period) this.0 (later % period) that.0 this.1 that.1 (omega (arith, left, right, order)) in
        omega (arith, kept, left, right, this.2, that.2)
    | inr some ↦
        let kept = placed_in_order some.1 departure this.0 later that.0 (placed some.1 departure this.0 this.1) (placed some.1 later that.0 that.1) order in
        omega (arith, kept, this.2, that.2)
  ]

  -- ---- each departure has an arrival

  place_of : (at place : ℕ) → place < length points → time_at points 0 ≤ at → at < time_at points place → (found : ℕ) × (found + 1 ≤ place) × (time_at points found ≤ at) × (at < time_at points (found + 1))
  place_of at zero inside from below = absurd (omega (arith, from, below))
  place_of at (suc place) inside from below = elim (leb_tells (time_at points place) at) [
    | inl low ↦ (let next : suc place ≡ place + 1 = omega arith in let P : ℕ → Type 0 = λ n. at < time_at points n in (place, omega arith, low.1, subst P next below))
    | inr high ↦
        let found = place_of at place (omega (arith, inside)) from high.1 in
        (found.0, omega (arith, found.1), found.2, found.3)
  ]

  value_of : (at : ℕ) → (value : ℕ) × IsValue period points at value
  value_of at = by_first (leb_tells (time_at points 0) at)
    where
      after : ((leb period 0 ≡ true) × (period ≤ 0)) ⊎ ((leb period 0 ≡ false) × (0 < period)) → time_at points (length points - 1) ≤ at → (value : ℕ) × IsValue period points at value
      after (inl none) late = (value_at points (length points - 1), inr (inl (record { not_before = late; stays = λ _. refl; goes_on = λ some. absurd (omega (arith, none.1, some)) })))
      after (inr some) late = (
        line (time_at points (length points - 1)) (value_at points (length points - 1)) (time_at points 0 + period) (value_at points 0) at,
        inr (inl (record { not_before = late; stays = λ none. absurd (omega (arith, none, some.1)); goes_on = λ _. refl })),
      )

      before : ((leb period 0 ≡ true) × (period ≤ 0)) ⊎ ((leb period 0 ≡ false) × (0 < period)) → at < time_at points 0 → (value : ℕ) × IsValue period points at value
      before (inl none) early = (value_at points 0, inr (inr (record { below = early; stays = λ _. refl; goes_on = λ some. absurd (omega (arith, none.1, some)) })))
      before (inr some) early = (
        line (time_at points (length points - 1)) (value_at points (length points - 1)) (time_at points 0 + period) (value_at points 0) (at + period),
        inr (inr (record { below = early; stays = λ none. absurd (omega (arith, none, some.1)); goes_on = λ _. refl })),
      )

      inside : time_at points 0 ≤ at → at < time_at points (length points - 1) → (value : ℕ) × IsValue period points at value
      inside from below =
          let found = place_of at (length points - 1) has_last from below in (
            line (time_at points found.0) (value_at points found.0) (time_at points (found.0 + 1)) (value_at points (found.0 + 1)) at,
            inl (record { place = found.0; found = omega (arith, found.1, has_last); not_before = found.2; below = found.3; is = refl }),
          )

      by_last : time_at points 0 ≤ at → ((leb (time_at points (length points - 1)) at ≡ true) × (time_at points (length points - 1) ≤ at)) ⊎ ((leb (time_at points (length points - 1)) at ≡ false) × (at < time_at points (length points - 1))) → (value : ℕ) × IsValue period points at value
      by_last from (inl late) = after (leb_tells period 0) late.1
      by_last from (inr early) = inside from early.1

      by_first : ((leb (time_at points 0) at ≡ true) × (time_at points 0 ≤ at)) ⊎ ((leb (time_at points 0) at ≡ false) × (at < time_at points 0)) → (value : ℕ) × IsValue period points at value
      by_first (inl from) = by_last from.1 (leb_tells (time_at points (length points - 1)) at)
      by_first (inr early) = before (leb_tells period 0) early.1

  pub points_have_answer : (weight departure : ℕ) → (arrival : ℕ) × IsArrivalByPoints period points weight departure arrival
  points_have_answer weight departure =
      let found = value_of (departure % period) in
      (departure + weight + found.0, (found.0, found.1, refl))
