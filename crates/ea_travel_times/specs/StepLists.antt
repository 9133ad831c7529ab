-- The steps that a list of timetables has, of none or of some of its classes, and the extremes beside them.
use Rattle.std.specs.Prelude.{ℕ, List, [], Option, Some, None}
use Rattle.ea_travel_times.specs.declared.step_table.StepTable.{StepTable}

abbrev pub steps_in : Option StepTable → List (ℕ × ℕ)
steps_in None = []
steps_in (Some table) = table.list.items

abbrev pub extremes_in : Option StepTable → List ℕ
extremes_in None = []
extremes_in (Some table) = table.extremes.items
