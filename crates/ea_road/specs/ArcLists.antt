-- Arcs as they are stored: as they were read, with their classes in a separate list.
use Rattle.std.specs.Prelude.{◌≡◌, ℕ, ◌+◌, List, [], ◌∷◌, Some, slice_get, slice_index}
use Rattle.ea_base.specs.declared.graph.RawArc.{RawArc}
use Rattle.ea_road.specs.declared.arc.Arc.{Arc}
use Rattle.ea_road.specs.Assigned.{classed_arc}

-- The arcs, the first of which has its class at the place; class 0 outside the list of classes.
abbrev pub arcs_beside : List ℕ → ℕ → List RawArc → List Arc
arcs_beside classes place [] = []
arcs_beside classes place (raw ∷ rest) = classed_arc raw (slice_index classes place) ∷ arcs_beside classes (place + 1) rest

-- An arc as it would be read, without its class.
abbrev pub without_class : Arc → RawArc
without_class arc = record { tail = arc.tail; head = arc.head; weight = arc.weight }

-- These are the classes of arcs, 0 outside the list.
abbrev pub AreOfClasses : List ℕ → List Arc → Type 0
AreOfClasses classes arcs = (place : ℕ) (arc : Arc) → slice_get arcs place ≡ Some arc → slice_index classes place ≡ arc.class
