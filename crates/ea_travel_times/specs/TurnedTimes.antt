-- Travel times turned round: what is left at `HORIZON - a` arrives at `HORIZON - d`, d the latest departure that arrives by a.
use Rattle.std.specs.Prelude.{◌≡◌, ◌⊎◌, ℕ, ◌+◌, ◌-◌, ◌≤◌, Some, None}
use Rattle.ea_base.specs.declared.limits.TheConstants.{HORIZON}
use Rattle.ea_travel_times.specs.Departures.{IsDepartureBy, IsLatest}

-- The arrival of an arc turned round; above the horizon if no departure is in time.
abbrev pub IsTurned : (ℕ → ℕ → ℕ → ℕ → Type 0) → ℕ → ℕ → ℕ → ℕ → Type 0
IsTurned answers class weight departure arrival =
    ((latest : ℕ) × IsDepartureBy answers class weight (HORIZON - departure) latest × (arrival ≡ HORIZON - latest))
    ⊎ (IsLatest answers class weight (HORIZON - departure) None × (arrival ≡ HORIZON + 1))
