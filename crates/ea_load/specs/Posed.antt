-- Problems of a road that was read.
use Rattle.std.specs.Prelude.{ℕ, ◌≤◌, List, length, All}
use Rattle.ea_base.specs.declared.limits.TheConstants.{MOST_STARTS}
use Rattle.ea_road.specs.Queries.{Asking, IsProblem}
use Rattle.ea_travel_times.specs.Directed.{IsDirected}
use Rattle.ea_travel_times.specs.StepLists.{steps_in}
use Rattle.ea_travel_times.specs.TimetableLists.{TimetablesAnswer}
use Rattle.ea_load.specs.declared.road.Road.{Road}

-- A query is a problem of a road, with no more sources than a file has.
abbrev pub IsPosed : Road → Asking → Type 0
IsPosed road query =
    IsProblem road.network (length road.times.tables.list.items) query × (length query.sources ≤ MOST_STARTS)

abbrev pub AreProblems : Road → List Asking → Type 0
AreProblems road queries = All (IsPosed road) queries

-- The arrivals by the arcs of a road, in its direction.
abbrev pub times_on : Road → ℕ → ℕ → ℕ → ℕ → Type 0
times_on road class weight departure arrival = IsDirected road.times.direction (TimetablesAnswer road.times.tables.list.items (steps_in road.times.tables.steps)) class weight departure arrival
