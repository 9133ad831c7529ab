-- The arcs of a graph with the classes that a timetable file assigns to them.
use Rattle.std.specs.Prelude.{ℕ, ◌+◌, ◌<◌, ◌≤◌, ◌==◌, List, [], ◌∷◌, Option, Some, None, if◌then◌else◌}
use Rattle.std.specs.List.{IsAmong}
use Rattle.std.specs.Borrow.{Bor}
use Rattle.ea_base.specs.declared.graph.RawArc.{RawArc}
use Rattle.ea_base.specs.declared.timetable.RawTable.{RawTable}
use Rattle.ea_road.specs.declared.arc.Arc.{Arc}

-- An arc as it was read, with a class.
abbrev pub classed_arc : RawArc → ℕ → Arc
classed_arc raw class = record { tail = raw.tail; head = raw.head; weight = raw.weight; class = class }

-- Pairs of an arc's number and a class, in the order of the file.
abbrev pub assigned_of : Option (Bor RawTable) → List (ℕ × ℕ)
assigned_of None = []
assigned_of (Some table) = table.now.assigned.items

-- Each assigned number is that of an arc.
abbrev pub AreAssigned : ℕ → List (ℕ × ℕ) → Type 0
AreAssigned arcs assigned = (given : ℕ × ℕ) → IsAmong assigned given → (0 < given.0) × (given.0 ≤ arcs)

-- The class after more assignments.
abbrev pub class_after : List (ℕ × ℕ) → ℕ → ℕ → ℕ
class_after [] number class = class
class_after (given ∷ rest) number class = class_after rest number (if given.0 == number then given.1 else class)

-- The class of the number's last assignment, or 0.
abbrev pub class_of : List (ℕ × ℕ) → ℕ → ℕ
class_of assigned number = class_after assigned number 0

-- The arcs in their order, with their classes; the first has this number.
abbrev pub arcs_from : List (ℕ × ℕ) → ℕ → List RawArc → List Arc
arcs_from assigned number [] = []
arcs_from assigned number (raw ∷ rest) =
    classed_arc raw (class_of assigned number) ∷ arcs_from assigned (number + 1) rest

abbrev pub arcs_with : List (ℕ × ℕ) → List RawArc → List Arc
arcs_with assigned raw = arcs_from assigned 1 raw
