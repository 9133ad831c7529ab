-- The last step of trips or points that is done by a time, and the last departure by it.
use Rattle.std.specs.Prelude.{◌≡◌, ℕ, ◌+◌, ◌*◌, ◌%◌, ◌<◌, ◌≤◌, List, length}
use Rattle.ea_travel_times.specs.Points.{AreNextPoints, IsValue, line}
use Rattle.ea_travel_times.specs.Speeds.{speed_sum, time_at, value_at}

-- When who leaves at the step at a place is done: after the step's value.
abbrev pub done_at : List (ℕ × ℕ) → ℕ → ℕ
done_at steps place = time_at steps place + value_at steps place

-- The last step that is done by a time, in the period that begins then. With no period that is 0.
pub record IsLastDone (period : ℕ) (steps : List (ℕ × ℕ)) (left begin place : ℕ) : Type 0 where
  pub turns : ℕ
  pub begins : begin ≡ period * turns
  pub found : place < length steps
  pub by : begin + done_at steps place ≤ left
  pub next_late : place + 1 < length steps → left < begin + done_at steps (place + 1)
  pub turn_late : 0 < period → left < begin + period + done_at steps 0

-- Who leaves at a point is done by a time, and who leaves at the next one is not.
pub record IsDoneBetween (point next : ℕ × ℕ) (left : ℕ) : Type 0 where
  pub points : AreNextPoints point next
  pub from : point.0 + point.1 ≤ left
  pub to : left < next.0 + next.1

-- The last time between two points from which the straight line through them is done by a time.
pub record IsLastOnLine (time value next_time next_value left last : ℕ) : Type 0 where
  pub not_before : time ≤ last
  pub below : last < next_time
  pub by : last + line time value next_time next_value last ≤ left
  pub late : left < last + 1 + line time value next_time next_value (last + 1)

-- The last departure that is done by a time, after the value of the function through the points.
pub record IsLastByPoints (period : ℕ) (points : List (ℕ × ℕ)) (left last : ℕ) : Type 0 where
  pub value : ℕ
  pub is : IsValue period points (last % period) value
  pub by : last + value ≤ left
  pub next : ℕ
  pub next_is : IsValue period points ((last + 1) % period) next
  pub late : left < last + 1 + next

-- A departure at time 0 is done too late.
pub record IsNeverByPoints (period : ℕ) (points : List (ℕ × ℕ)) (left : ℕ) : Type 0 where
  pub value : ℕ
  pub is : IsValue period points (0 % period) value
  pub late : left < value

-- The last time from which the speeds until another time sum to this much. Sums are those from time 0 on.
pub record IsLastBySpeeds (speed : ℕ → ℕ) (until need last : ℕ) : Type 0 where
  pub before : last < until
  pub enough : speed_sum speed 0 last + need ≤ speed_sum speed 0 until
  pub late : speed_sum speed 0 until < speed_sum speed 0 (last + 1) + need
