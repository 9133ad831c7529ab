-- The latest departure by which an arc is done in time: the question of an arrival turned round.
use Rattle.std.specs.Prelude.{◌≡◌, ℕ, ◌+◌, ◌*◌, ◌<◌, ◌≤◌, Option, Some, None}
use Rattle.ea_base.specs.declared.limits.TheConstants.{HORIZON}

-- An arc of a class and a weight that is left at a departure is done by a time.
pub record IsInTime (answers : ℕ → ℕ → ℕ → ℕ → Type 0) (class weight arrival departure : ℕ) : Type 0 where
  pub within : departure ≤ HORIZON
  pub reached : ℕ
  pub answer : answers class weight departure reached
  pub by : reached ≤ arrival

-- The latest departure that is in time.
pub record IsDepartureBy (answers : ℕ → ℕ → ℕ → ℕ → Type 0) (class weight arrival departure : ℕ) : Type 0 where
  pub in_time : IsInTime answers class weight arrival departure
  pub latest : (later : ℕ) → IsInTime answers class weight arrival later → later ≤ departure

-- The latest departure that is in time, or none if none is.
abbrev pub IsLatest : (ℕ → ℕ → ℕ → ℕ → Type 0) → ℕ → ℕ → ℕ → Option ℕ → Type 0
IsLatest answers class weight arrival (Some departure) = IsDepartureBy answers class weight arrival departure
IsLatest answers class weight arrival None = (departure : ℕ) → IsInTime answers class weight arrival departure → ⊥

-- The last time up to another one that leaves the offset when divided by the period.
pub record IsLastTime (period offset left time : ℕ) : Type 0 where
  pub turn : ℕ
  pub is : time ≡ period * turn + offset
  pub not_after : time ≤ left
  pub near : left < time + period
