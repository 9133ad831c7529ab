-- Travel times in a direction: as they are, or turned round for latest departures.
use Rattle.std.specs.Prelude.{ℕ}
use Rattle.ea_base.specs.declared.direction.Direction.{Direction}
use Rattle.ea_base.specs.declared.direction.Direction.TheVariants.{Forward, Turned}
use Rattle.ea_travel_times.specs.TurnedTimes.{IsTurned}

abbrev pub IsDirected : Direction → (ℕ → ℕ → ℕ → ℕ → Type 0) → ℕ → ℕ → ℕ → ℕ → Type 0
IsDirected Forward answers class weight departure arrival = answers class weight departure arrival
IsDirected Turned answers class weight departure arrival = IsTurned answers class weight departure arrival
