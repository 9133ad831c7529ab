-- The latest departure by points lies on the line from the last point that is done in time.
use Rattle.std.proofs.Common.{◌≡◌, ℕ, ◌+◌, ◌-◌, ◌*◌, ◌/◌, ◌%◌, ◌<◌, ◌≤◌, ◌⊎◌, inl, inr, true, false, refl, ap, sym, ◌∙◌, subst, arith, leb, List, length}
use Rattle.std.proofs.Math.Nat.{div-add-mod, div-mul-le_self, lt-div-mul-add, mul-add, mul-le-mul_left, mod-zero}
use Rattle.std.proofs.lemmas.Nat.{mod_below}
use Rattle.std.proofs.lemmas.Bool.Decides.{leb_tells}
use Rattle.std.specs.Prelude.{MatchOption, None, Option, Some}
use Rattle.ea_base.specs.declared.limits.TheConstants.{HORIZON}
use Rattle.ea_travel_times.specs.Departures.{IsDepartureBy, IsLatest}
use Rattle.ea_travel_times.specs.LastSteps.{IsLastByPoints, IsLastDone, IsLastOnLine, IsNeverByPoints, done_at}
use Rattle.ea_travel_times.specs.PointLaws.{line_begins, line_ends, points_have_answer, points_in_order}
use Rattle.ea_travel_times.specs.Points.{ArePoints, IsArrivalByPoints, IsValue, line}
use Rattle.ea_travel_times.specs.Speeds.{time_at, value_at}
use Rattle.ea_travel_times.specs.Times.{mod_of}

-- ---- on one line: x and y are the values at its ends, d is how far they are apart, v and w are how far a time is from them

line_by : (x y v w d later room : ℕ) → d ≡ v + w → 0 < d → later + x ≡ d + y → v * later < room * d → (x * w + y * v) / d + v < room + x
line_by x y v w d later room apart some slope fits = elim (leb_tells (room + x) ((x * w + y * v) / d + v)) [
  | inl high ↦
      let most = div-mul-le_self (x * w + y * v) d in
      let more = mul-le-mul_left {m = room + x} {n = (x * w + y * v) / d + v} d high.1 in
      let steep : v * (later + x) ≡ v * (d + y) = ap (λ n. v * n) slope in
      let left : v * (later + x) ≡ v * later + v * x = mul-add v later x in
      let right : v * (d + y) ≡ v * d + v * y = mul-add v d y in
      let whole : x * d ≡ x * v + x * w = ap (λ n. x * n) apart ∙ mul-add x v w in
      let all : d * (room + x) ≡ d * room + d * x = mul-add d room x in
      let parts : d * ((x * w + y * v) / d + v) ≡ d * ((x * w + y * v) / d) + d * v = mul-add d ((x * w + y * v) / d) v in
      absurd (omega (arith, most, more, steep, left, right, whole, all, parts, fits))
  | inr low ↦ low.1
]

line_late : (x y v w d later room : ℕ) → d ≡ v + w → 0 < d → later + x ≡ d + y → room * d ≤ v * later → room + x ≤ (x * w + y * v) / d + v
line_late x y v w d later room apart some slope fits = elim (leb_tells (room + x) ((x * w + y * v) / d + v)) [
  | inl high ↦ high.1
  | inr low ↦
      let least = lt-div-mul-add {a = x * w + y * v} {b = d} some in
      let more = mul-le-mul_left {m = (x * w + y * v) / d + v + 1} {n = room + x} d (omega (arith, low.1)) in
      let steep : v * (later + x) ≡ v * (d + y) = ap (λ n. v * n) slope in
      let left : v * (later + x) ≡ v * later + v * x = mul-add v later x in
      let right : v * (d + y) ≡ v * d + v * y = mul-add v d y in
      let whole : x * d ≡ x * v + x * w = ap (λ n. x * n) apart ∙ mul-add x v w in
      let all : d * (room + x) ≡ d * room + d * x = mul-add d room x in
      let parts : d * ((x * w + y * v) / d + v + 1) ≡ d * ((x * w + y * v) / d) + d * v + d = omega arith in
      absurd (omega (arith, least, more, steep, left, right, whole, all, parts, fits, some))
]

-- the last time of a line that is done by a time, by one division
pub last_on_line : (t x s y left v : ℕ) → t < s → t + x ≤ left → left < s + y → v ≡ ((left - (t + x) + 1) * (s - t) - 1) / (s + y - (t + x)) → IsLastOnLine t x s y left (t + v)
last_on_line t x s y left v rises from to is =
    let later : ℕ = s + y - (t + x) in
    let room : ℕ = left - (t + x) + 1 in
    let d : ℕ = s - t in
    let some : 0 < s - t = omega (arith, rises) in
    let later_some : 0 < s + y - (t + x) = omega (arith, from, to) in
    let room_some = mul-le-mul_left {m = 1} {n = left - (t + x) + 1} (s - t) (omega arith) in
    let product : (left - (t + x) + 1) * (s - t) ≡ (s - t) * (left - (t + x) + 1) = omega arith in
    let many : 0 < (left - (t + x) + 1) * (s - t) = omega (arith, room_some, product, some) in
    let low = div-mul-le_self ((left - (t + x) + 1) * (s - t) - 1) (s + y - (t + x)) in
    let high = lt-div-mul-add {a = (left - (t + x) + 1) * (s - t) - 1} {b = s + y - (t + x)} later_some in
    let turned : (s + y - (t + x)) * (((left - (t + x) + 1) * (s - t) - 1) / (s + y - (t + x))) ≡ v * (s + y - (t + x)) = ap (λ n. (s + y - (t + x)) * n) (sym is) ∙ omega arith in
    let fits : v * (s + y - (t + x)) < (left - (t + x) + 1) * (s - t) = omega (arith, low, turned, many) in
    let next : (v + 1) * (s + y - (t + x)) ≡ v * (s + y - (t + x)) + (s + y - (t + x)) = omega arith in
    let past : (left - (t + x) + 1) * (s - t) ≤ (v + 1) * (s + y - (t + x)) = omega (arith, high, turned, next, many) in
    let near : v < s - t = within v (s + y - (t + x)) (left - (t + x) + 1) (s - t) fits (omega (arith, to)) in
    let slope : s + y - (t + x) + x ≡ s - t + y = omega (arith, rises, from, to) in
    let here = line_by x y v (s - (t + v)) (s - t) (s + y - (t + x)) (left - (t + x) + 1) (omega (arith, near)) some slope fits in
    let there = line_late x y (v + 1) (s - (t + v + 1)) (s - t) (s + y - (t + x)) (left - (t + x) + 1) (omega (arith, near)) some slope past in
    let back : t + v - t ≡ v = omega arith in
    let back_next : t + v + 1 - t ≡ v + 1 = omega arith in
    record {
      not_before = omega arith;
      below = omega (arith, near, rises);
      by = rw back (omega (arith, here, from));
      late = rw back_next (omega (arith, there, from));
    }
  where
    within : (v later room d : ℕ) → v * later < room * d → room ≤ later → v < d
    within v later room d fits order = elim (leb_tells d v) [
      | inl far ↦
          let more = mul-le-mul_left {m = d} {n = v} later far.1 in
          let wide = mul-le-mul_left {m = room} {n = later} d order in
          let left : later * v ≡ v * later = omega arith in
          let right : later * d ≡ d * later = omega arith in
          let back : room * d ≡ d * room = omega arith in
          absurd (omega (arith, more, wide, left, right, back, fits))
      | inr near ↦ near.1
    ]

module _ (period : ℕ) (points : List (ℕ × ℕ)) (are : ArePoints period points) where
  has_last : length points - 1 < length points
  has_last = let some = are.some in omega arith

  -- a departure and the next one are the last that is done in time and the first that isn't
  pub last_is_latest : (weight arrival last : ℕ) → weight ≤ arrival → arrival ≤ HORIZON → IsLastByPoints period points (arrival - weight) last → IsDepartureBy (λ class. IsArrivalByPoints period points) 0 weight arrival last
  last_is_latest weight arrival last enough within is =
      let by = is.by in
      record {
        in_time = record {
          within = omega (arith, by, within);
          reached = last + weight + is.value;
          answer = (is.value, is.is, refl);
          by = omega (arith, by, enough);
        };
        latest = λ later in_time. elim (leb_tells later last) [
          | inl low ↦ low.1
          | inr high ↦
              let order = points_in_order period points are weight (last + 1) later (last + 1 + weight + is.next) in_time.reached (is.next, is.next_is, refl) in_time.answer (omega (arith, high.1)) in
              let late = is.late in
              let soon = in_time.by in
              absurd (omega (arith, order, late, soon, enough))
        ];
      }

  pub never_in_time : (weight arrival : ℕ) → weight ≤ arrival → IsNeverByPoints period points (arrival - weight) → IsLatest (λ class. IsArrivalByPoints period points) 0 weight arrival None
  never_in_time weight arrival enough is departure in_time =
      let order = points_in_order period points are weight 0 departure (0 + weight + is.value) in_time.reached (is.value, is.is, refl) in_time.answer (omega arith) in
      let late = is.late in
      let soon = in_time.by in
      omega (arith, order, late, soon, enough)

  pub latest_of : (weight arrival : ℕ) (result : Option ℕ) → weight ≤ arrival → arrival ≤ HORIZON → MatchOption result (IsNeverByPoints period points (arrival - weight)) (IsLastByPoints period points (arrival - weight)) → IsLatest (λ class. IsArrivalByPoints period points) 0 weight arrival result
  latest_of weight arrival None enough within is = never_in_time weight arrival enough is
  latest_of weight arrival (Some last) enough within is = last_is_latest weight arrival last enough within is

  pub too_heavy : (weight arrival : ℕ) → arrival < weight → IsLatest (λ class. IsArrivalByPoints period points) 0 weight arrival None
  too_heavy weight arrival few departure in_time = let is = in_time.answer.2 in let soon = in_time.by in omega (arith, is, soon, few)

  last_point : IsValue period points (time_at points (length points - 1)) (value_at points (length points - 1))
  last_point = inr (inl (record {
    not_before = omega arith;
    stays = λ none. refl;
    goes_on = λ some.
        let below = are.within (length points - 1) has_last some in
        sym (line_begins (time_at points (length points - 1)) (value_at points (length points - 1)) (time_at points 0 + period) (value_at points 0) (omega (arith, below)));
  }))

  -- at a point the value is the point's
  at_point : (place : ℕ) → place < length points → IsValue period points (time_at points place) (value_at points place)
  at_point place found = elim (leb_tells (place + 2) (length points)) [
    | inl more ↦
        let room : place + 1 < length points = omega (arith, more.1) in
        inl (record {
          place = place;
          found = room;
          not_before = omega arith;
          below = are.ascend place room;
          is = sym (line_begins (time_at points place) (value_at points place) (time_at points (place + 1)) (value_at points (place + 1)) (are.ascend place room));
        })
    | inr last ↦
        let same : length points - 1 ≡ place = omega (arith, last.1, found) in
        subst (λ p. IsValue period points (time_at points p) (value_at points p)) same last_point
  ]

  between : (place at : ℕ) → place + 1 < length points → time_at points place ≤ at → at < time_at points (place + 1) → IsValue period points at (line (time_at points place) (value_at points place) (time_at points (place + 1)) (value_at points (place + 1)) at)
  between place at room from below = inl (record { place = place; found = room; not_before = from; below = below; is = refl })

  -- ---- with no period

  module _ (none : period ≡ 0) where
    phase : (time : ℕ) → time % period ≡ time
    phase time = ap (λ p. time % p) none ∙ mod-zero time

    valued : (time value : ℕ) → IsValue period points time value → IsValue period points (time % period) value
    valued time value is = subst (λ t. IsValue period points t value) (sym (phase time)) is

    before_first : (time : ℕ) → time ≤ time_at points 0 → IsValue period points (time % period) (value_at points 0)
    before_first time early = elim (leb_tells (time_at points 0) time) [
      | inl late ↦
          let same : time_at points 0 ≡ time = omega (arith, late.1, early) in
          valued time (value_at points 0) (subst (λ t. IsValue period points t (value_at points 0)) same (at_point 0 are.some))
      | inr sooner ↦
          let below : time < time_at points 0 = sooner.1 in
          valued time (value_at points 0) (inr (inr (record { below = below; stays = λ zero. refl; goes_on = λ some. absurd (omega (arith, none, some)) })))
    ]

    pub last_before_first : (left : ℕ) → left < done_at points 0 → value_at points 0 ≤ left → IsLastByPoints period points left (left - value_at points 0)
    last_before_first left few enough = record {
      value = value_at points 0;
      is = before_first (left - value_at points 0) (omega (arith, few, enough));
      by = omega (arith, enough);
      next = value_at points 0;
      next_is = before_first (left - value_at points 0 + 1) (omega (arith, few, enough));
      late = omega (arith, enough);
    }

    pub never_before_first : (left : ℕ) → left < value_at points 0 → IsNeverByPoints period points left
    never_before_first left few = record { value = value_at points 0; is = before_first 0 (omega arith); late = few }

    pub last_between : (left place last : ℕ) → place + 1 < length points → IsLastOnLine (time_at points place) (value_at points place) (time_at points (place + 1)) (value_at points (place + 1)) left last → IsLastByPoints period points left last
    last_between left place last room is =
        let next = next_value (leb_tells (time_at points (place + 1)) (last + 1)) in
        let late = is.late in
        record {
          value = line (time_at points place) (value_at points place) (time_at points (place + 1)) (value_at points (place + 1)) last;
          is = valued last _ (between place last room is.not_before is.below);
          by = is.by;
          next = line (time_at points place) (value_at points place) (time_at points (place + 1)) (value_at points (place + 1)) (last + 1);
          next_is = valued (last + 1) _ next;
          late = late;
        }
      where
        next_value : ((leb (time_at points (place + 1)) (last + 1) ≡ true) × (time_at points (place + 1) ≤ last + 1)) ⊎ ((leb (time_at points (place + 1)) (last + 1) ≡ false) × (last + 1 < time_at points (place + 1)))
            → IsValue period points (last + 1) (line (time_at points place) (value_at points place) (time_at points (place + 1)) (value_at points (place + 1)) (last + 1))
        next_value (inl past) =
            let below = is.below in
            let same : time_at points (place + 1) ≡ last + 1 = omega (arith, past.1, below) in
            let ends = line_ends (time_at points place) (value_at points place) (time_at points (place + 1)) (value_at points (place + 1)) (are.ascend place room) in
            let value : value_at points (place + 1) ≡ line (time_at points place) (value_at points place) (time_at points (place + 1)) (value_at points (place + 1)) (last + 1) =
            sym ends ∙ ap (λ n. line (time_at points place) (value_at points place) (time_at points (place + 1)) (value_at points (place + 1)) n) same in
            subst (λ v. IsValue period points (last + 1) v) value (subst (λ t. IsValue period points t (value_at points (place + 1))) same (at_point (place + 1) room))
        next_value (inr early) = let from = is.not_before in between place (last + 1) room (omega (arith, from)) early.1

    after_last : (place time : ℕ) → place + 1 ≡ length points → time_at points place ≤ time → IsValue period points (time % period) (value_at points place)
    after_last place time whole late =
        let same : length points - 1 ≡ place = omega (arith, whole) in
        let at : time_at points (length points - 1) ≤ time = subst (λ p. time_at points p ≤ time) (sym same) late in
        valued time (value_at points place) (inr (inl (record { not_before = at; stays = λ zero. ap (value_at points) (sym same); goes_on = λ some. absurd (omega (arith, none, some)) })))

    pub last_after_last : (left begin place : ℕ) (last : IsLastDone period points left begin place) → length points ≤ place + 1 → IsLastByPoints period points left (left - value_at points place)
    last_after_last left begin place last past =
        let found = last.found in
        let by = last.by in
        let start : begin ≡ 0 = last.begins ∙ ap (λ p. p * last.turns) none ∙ omega arith in
        let whole : place + 1 ≡ length points = omega (arith, found, past) in
        record {
          value = value_at points place;
          is = after_last place (left - value_at points place) whole (omega (arith, by, start));
          by = omega (arith, by);
          next = value_at points place;
          next_is = after_last place (left - value_at points place + 1) whole (omega (arith, by, start));
          late = omega (arith, by);
        }

  -- ---- with a period

  module _ (some : 0 < period) where
    at_spot : (time turns spot value : ℕ) → time ≡ period * turns + spot → spot < period → IsValue period points spot value → IsValue period points (time % period) value
    at_spot time turns spot value is below holds =
        let same : spot ≡ time % period = sym (ap (λ n. n % period) is ∙ mod_of period turns spot below) in
        subst (λ t. IsValue period points t value) same holds

    -- a time on the line from the last point to the first one of the next period
    on_turn : (time turns spot : ℕ) → time ≡ period * turns + spot → time_at points (length points - 1) ≤ spot → spot < time_at points 0 + period
        → IsValue period points (time % period) (line (time_at points (length points - 1)) (value_at points (length points - 1)) (time_at points 0 + period) (value_at points 0) spot)
    on_turn time turns spot is from below = elim (leb_tells period spot) [
      | inl past ↦
          let back : spot - period + period ≡ spot = omega (arith, past.1) in
          let product : period * (turns + 1) ≡ period * turns + period = omega arith in
          let low = are.within 0 are.some some in
          let first : spot - period < time_at points 0 = omega (arith, below, past.1) in
          at_spot time (turns + 1) (spot - period) (line (time_at points (length points - 1)) (value_at points (length points - 1)) (time_at points 0 + period) (value_at points 0) spot) (omega (arith, is, product, past.1)) (omega (arith, first, low))
          (inr (inr (record {
            below = first;
            stays = λ none. absurd (omega (arith, none, some));
            goes_on = λ _. ap (λ n. line (time_at points (length points - 1)) (value_at points (length points - 1)) (time_at points 0 + period) (value_at points 0) n) (sym back);
          })))
      | inr inside ↦
          at_spot time turns spot (line (time_at points (length points - 1)) (value_at points (length points - 1)) (time_at points 0 + period) (value_at points 0) spot) is inside.1
          (inr (inl (record { not_before = from; stays = λ none. absurd (omega (arith, none, some)); goes_on = λ _. refl })))
    ]

    spot_point : (time turns place : ℕ) → time ≡ period * turns + time_at points place → place < length points → IsValue period points (time % period) (value_at points place)
    spot_point time turns place is found = at_spot time turns (time_at points place) (value_at points place) is (are.within place found some) (at_point place found)

    pub last_in_turn : (left begin place spot : ℕ) (last : IsLastDone period points left begin place) → place + 1 < length points → IsLastOnLine (time_at points place) (value_at points place) (time_at points (place + 1)) (value_at points (place + 1)) (left - begin) spot
        → IsLastByPoints period points left (begin + spot)
    last_in_turn left begin place spot last room is =
        let by = is.by in
        let late = is.late in
        let below = is.below in
        let inside = are.within (place + 1) room some in
        record {
          value = line (time_at points place) (value_at points place) (time_at points (place + 1)) (value_at points (place + 1)) spot;
          is = at_spot (begin + spot) last.turns spot _ (ap (λ n. n + spot) last.begins) (omega (arith, below, inside)) (between place spot room is.not_before is.below);
          by = omega (arith, by, last.by);
          next = line (time_at points place) (value_at points place) (time_at points (place + 1)) (value_at points (place + 1)) (spot + 1);
          next_is = next_value (leb_tells (time_at points (place + 1)) (spot + 1));
          late = omega (arith, late, last.by);
        }
      where
        next_value : ((leb (time_at points (place + 1)) (spot + 1) ≡ true) × (time_at points (place + 1) ≤ spot + 1)) ⊎ ((leb (time_at points (place + 1)) (spot + 1) ≡ false) × (spot + 1 < time_at points (place + 1)))
            → IsValue period points ((begin + spot + 1) % period) (line (time_at points place) (value_at points place) (time_at points (place + 1)) (value_at points (place + 1)) (spot + 1))
        next_value (inl past) =
            let below = is.below in
            let same : time_at points (place + 1) ≡ spot + 1 = omega (arith, past.1, below) in
            let ends = line_ends (time_at points place) (value_at points place) (time_at points (place + 1)) (value_at points (place + 1)) (are.ascend place room) in
            let value : value_at points (place + 1) ≡ line (time_at points place) (value_at points place) (time_at points (place + 1)) (value_at points (place + 1)) (spot + 1) =
            sym ends ∙ ap (λ n. line (time_at points place) (value_at points place) (time_at points (place + 1)) (value_at points (place + 1)) n) same in
            subst (λ v. IsValue period points ((begin + spot + 1) % period) v) value (spot_point (begin + spot + 1) last.turns (place + 1) (omega (arith, last.begins, same)) room)
        next_value (inr early) =
            let from = is.not_before in
            let inside = are.within (place + 1) room some in
            at_spot (begin + spot + 1) last.turns (spot + 1) _ (omega (arith, last.begins)) (omega (arith, early.1, inside)) (between place (spot + 1) room (omega (arith, from)) early.1)

    turn_rises : time_at points (length points - 1) < time_at points 0 + period
    turn_rises = let below = are.within (length points - 1) has_last some in omega (arith, below)

    pub last_on_turn : (left begin place spot : ℕ) (last : IsLastDone period points left begin place) → length points ≤ place + 1 → IsLastOnLine (time_at points place) (value_at points place) (time_at points 0 + period) (value_at points 0) (left - begin) spot
        → IsLastByPoints period points left (begin + spot)
    last_on_turn left begin place spot last past line_is =
        let found = last.found in
        let same : place ≡ length points - 1 = omega (arith, found, past) in
        let is = subst (λ p. IsLastOnLine (time_at points p) (value_at points p) (time_at points 0 + period) (value_at points 0) (left - begin) spot) same line_is in
        let by = is.by in
        let late = is.late in
        record {
          value = line (time_at points (length points - 1)) (value_at points (length points - 1)) (time_at points 0 + period) (value_at points 0) spot;
          is = on_turn (begin + spot) last.turns spot (ap (λ n. n + spot) last.begins) is.not_before is.below;
          by = omega (arith, by, last.by);
          next = line (time_at points (length points - 1)) (value_at points (length points - 1)) (time_at points 0 + period) (value_at points 0) (spot + 1);
          next_is = next_value is (leb_tells (time_at points 0 + period) (spot + 1));
          late = omega (arith, late, last.by);
        }
      where
        next_value : IsLastOnLine (time_at points (length points - 1)) (value_at points (length points - 1)) (time_at points 0 + period) (value_at points 0) (left - begin) spot
            → ((leb (time_at points 0 + period) (spot + 1) ≡ true) × (time_at points 0 + period ≤ spot + 1)) ⊎ ((leb (time_at points 0 + period) (spot + 1) ≡ false) × (spot + 1 < time_at points 0 + period))
            → IsValue period points ((begin + spot + 1) % period) (line (time_at points (length points - 1)) (value_at points (length points - 1)) (time_at points 0 + period) (value_at points 0) (spot + 1))
        next_value is (inl over) =
            let below = is.below in
            let same : time_at points 0 + period ≡ spot + 1 = omega (arith, over.1, below) in
            let ends = line_ends (time_at points (length points - 1)) (value_at points (length points - 1)) (time_at points 0 + period) (value_at points 0) turn_rises in
            let value : value_at points 0 ≡ line (time_at points (length points - 1)) (value_at points (length points - 1)) (time_at points 0 + period) (value_at points 0) (spot + 1) =
            sym ends ∙ ap (λ n. line (time_at points (length points - 1)) (value_at points (length points - 1)) (time_at points 0 + period) (value_at points 0) n) same in
            let product : period * (last.turns + 1) ≡ period * last.turns + period = omega arith in
            subst (λ v. IsValue period points ((begin + spot + 1) % period) v) value (spot_point (begin + spot + 1) (last.turns + 1) 0 (omega (arith, last.begins, same, product)) are.some)
        next_value is (inr early) =
            let from = is.not_before in
            on_turn (begin + spot + 1) last.turns (spot + 1) (omega (arith, last.begins)) (omega (arith, from)) early.1

    later_phase : (time : ℕ) → (time + period) % period ≡ time % period
    later_phase time =
        let parts = div-add-mod time period in
        let product : period * (time / period + 1) ≡ period * (time / period) + period = omega arith in
        let is : time + period ≡ period * (time / period + 1) + time % period = omega (arith, parts, product) in
        ap (λ n. n % period) is ∙ mod_of period (time / period + 1) (time % period) (mod_below time period some)

    -- a period earlier
    pub last_earlier : (left last : ℕ) → period ≤ last → IsLastByPoints period points (left + period) last → IsLastByPoints period points left (last - period)
    last_earlier left last enough is =
        let by = is.by in
        let late = is.late in
        let here : last - period + period ≡ last = omega (arith, enough) in
        let next : last - period + 1 + period ≡ last + 1 = omega (arith, enough) in
        let same : last % period ≡ (last - period) % period = sym (ap (λ n. n % period) here) ∙ later_phase (last - period) in
        let also : (last + 1) % period ≡ (last - period + 1) % period = sym (ap (λ n. n % period) next) ∙ later_phase (last - period + 1) in
        record {
          value = is.value;
          is = subst (λ t. IsValue period points t is.value) same is.is;
          by = omega (arith, by, enough);
          next = is.next;
          next_is = subst (λ t. IsValue period points t is.next) also is.next_is;
          late = omega (arith, late, enough);
        }

    -- what is done too late a period later, from no later than then, is done too late at time 0
    never_from : (left time value : ℕ) → time ≤ period → IsValue period points (time % period) value → left + period < time + value → IsNeverByPoints period points left
    never_from left time value early is late =
        let first = points_have_answer period points are 0 0 in
        let same : 0 % period ≡ period % period = sym (later_phase 0) ∙ ap (λ n. n % period) (zero_more period) in
        let later : IsValue period points (period % period) first.1.0 = subst (λ t. IsValue period points t first.1.0) same first.1.1 in
        let order = points_in_order period points are 0 time period (time + 0 + value) (period + 0 + first.1.0) (value, is, refl) (first.1.0, later, refl) early in
        record { value = first.1.0; is = first.1.1; late = omega (arith, order, late) }
      where
        zero_more : (n : ℕ) → 0 + n ≡ n
        zero_more n = omega arith

    pub never_after : (left last : ℕ) → last < period → IsLastByPoints period points (left + period) last → IsNeverByPoints period points left
    never_after left last few is = let late = is.late in never_from left (last + 1) is.next (omega (arith, few)) is.next_is (omega (arith, late))

    pub never_before : (left : ℕ) → left + period < done_at points 0 → IsNeverByPoints period points left
    never_before left few =
        let inside = are.within 0 are.some some in
        let none : time_at points 0 ≡ period * 0 + time_at points 0 = omega arith in
        never_from left (time_at points 0) (value_at points 0) (omega (arith, inside)) (spot_point (time_at points 0) 0 0 none are.some) few
