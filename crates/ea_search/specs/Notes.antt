-- The log of a search: the arcs by which labels fell or were met.
use Rattle.std.specs.Prelude.{◌≡◌, ◌≢◌, ℕ, ◌<◌, ◌≤◌, ◌%◌, ◌/◌, nat_eq, map, false, List, [], ◌∷◌, ◌⊎◌}
use Rattle.ea_base.specs.declared.limits.TheConstants.{HORIZON}
use Rattle.ea_road.specs.Roads.{Roads}
use Rattle.ea_search.specs.declared.log.note.Note.{Note}
use Rattle.ea_search.specs.declared.log.note.TheConstants.{AGAIN, NODES, PLACE, PLACES}
use Rattle.ea_search.specs.Scans.{Step, IsPlaced}
use Rattle.ea_search.specs.Underway.{bound_of}

-- The note in a word, from the lowest bits on: the node, the arc's tail, whether the label was met, and the
-- arc's place.
abbrev pub note_in : ℕ → Note
note_in word = record {
  node = word % NODES;
  from = word / NODES % NODES;
  place = word / PLACE;
  again = nat_eq (word / AGAIN % 2) 1;
}

-- A note fits into a word.
pub record FitsWord (note : Note) : Type 0 where
  pub node_fits : note.node < NODES
  pub from_fits : note.from < NODES
  pub place_fits : note.place < PLACES

abbrev pub notes_in : List ℕ → List Note
notes_in words = map note_in words

-- A note is of this node and of the arc at this place, from 0, among those that leave the tail.
abbrev pub IsNoteOf : Note → ℕ → ℕ → ℕ → Type 0
IsNoteOf note node from place = (node ≡ note.node) × (from ≡ note.from) × (place ≡ note.place)

-- The arcs from which nodes have their labels, after one more note: a label that fell has only that arc.
abbrev pub and_had : Note → (ℕ → ℕ → ℕ → Type 0) → ℕ → ℕ → ℕ → Type 0
and_had note had node from place = IsNoteOf note node from place ⊎ ((note.again ≡ false → node ≢ note.node) × had node from place)

-- The arcs by which labels were met since the labels of their tails last fell, after one more note.
abbrev pub and_met : Note → (ℕ → ℕ → ℕ → Type 0) → ℕ → ℕ → ℕ → Type 0
and_met note met node from place = IsNoteOf note node from place ⊎ ((note.again ≡ false → (node ≢ note.node) × (from ≢ note.node)) × met node from place)

-- The same after some notes.
abbrev pub had_after : List Note → (ℕ → ℕ → ℕ → Type 0) → ℕ → ℕ → ℕ → Type 0
had_after [] had = had
had_after (note ∷ notes) had = had_after notes (and_had note had)

abbrev pub met_after : List Note → (ℕ → ℕ → ℕ → Type 0) → ℕ → ℕ → ℕ → Type 0
met_after [] met = met
met_after (note ∷ notes) met = met_after notes (and_met note met)

-- No arc.
abbrev pub by_none : ℕ → ℕ → ℕ → Type 0
by_none node from place = ⊥

-- A node's label is the arrival by an arc left at its tail's label, or at an earlier label of the tail.
pub record IsHad
    (roads : Roads)
    (answers : ℕ → ℕ → ℕ → ℕ → Type 0)
    (table : List ℕ)
    (node from place : ℕ)
    : Type 0 where
  pub number : ℕ
  pub departure : ℕ
  pub placed : IsPlaced roads from place number
  pub later : bound_of table from ≤ departure
  pub within : departure ≤ HORIZON
  pub step : Step roads answers from departure number node (bound_of table node)

abbrev pub AreHad : Roads → (ℕ → ℕ → ℕ → ℕ → Type 0) → List ℕ → (ℕ → ℕ → ℕ → Type 0) → Type 0
AreHad roads answers table had = (node from place : ℕ) → had node from place → IsHad roads answers table node from place
