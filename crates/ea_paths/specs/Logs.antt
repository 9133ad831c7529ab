-- What the log of a search says of the labels that the search computed.
use Rattle.std.specs.Prelude.{◌≡◌, ◌≢◌, ◌⊎◌, ℕ, true, false, List, [], Contains}
use Rattle.ea_road.specs.declared.TheConstants.{NONE}
use Rattle.ea_road.specs.Queries.{Asking}
use Rattle.ea_road.specs.Roads.{Roads}
use Rattle.ea_search.specs.declared.labels.logged_table.Noted.{Noted}
use Rattle.ea_search.specs.declared.log.note.Note.{Note}
use Rattle.ea_search.specs.Notes.{AreHad, by_none, had_after, met_after, notes_in}
use Rattle.ea_search.specs.Scans.{AwaitsScans, MeetsAll}
use Rattle.ea_search.specs.Underway.{bound_of}

-- What notes say of these labels is right: each label was had by the arcs that they name for it, and they name
-- each arc by which it is met.
pub record AreNotesOf (roads : Roads) (answers : ℕ → ℕ → ℕ → ℕ → Type 0) (table : List ℕ) (notes : List Note) : Type 0 where
  pub had : AreHad roads answers table (had_after notes by_none)
  pub met : (node : ℕ) → bound_of table node ≢ NONE → MeetsAll roads answers table (met_after notes by_none) node (bound_of table node)

-- The log of a search for a query, with its labels. It says nothing unless it is whole.
pub record IsLogOf (roads : Roads) (answers : ℕ → ℕ → ℕ → ℕ → Type 0) (query : Asking) (noted : Noted) : Type 0 where
  pub met : AwaitsScans roads answers query noted.labels.items (λ v u k. (noted.whole ≡ false) ⊎ met_after (notes_in noted.notes) by_none v u k) (Contains [])
  pub had : AreHad roads answers noted.labels.items (λ v u k. (noted.whole ≡ true) × had_after (notes_in noted.notes) by_none v u k)
