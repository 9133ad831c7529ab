-- A list of timetables as travel times: class 0 is plain, class J is the J-th kind, whose steps are among those of all classes.
use Rattle.std.specs.Prelude.{ℕ, List, ◌∷◌, slice_index_or}
use Rattle.ea_base.specs.declared.timetable.RawKind.{RawKind}
use Rattle.ea_base.specs.declared.timetable.RawKind.TheVariants.{Plain}
use Rattle.ea_travel_times.specs.Timetables.{ClassAnswers}

abbrev pub kind_of : List RawKind → ℕ → RawKind
kind_of kinds class = slice_index_or (Plain ∷ kinds) class Plain

abbrev pub TimetablesAnswer : List RawKind → List (ℕ × ℕ) → ℕ → ℕ → ℕ → ℕ → Type 0
TimetablesAnswer kinds steps class weight departure arrival = ClassAnswers steps (kind_of kinds class) weight departure arrival
