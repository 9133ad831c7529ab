-- The label table as a state machine: each atomic step is one event of one seat, and leaves the state lawful.
use Rattle.std.specs.Prelude.{◌≡◌, ◌≢◌, ℕ, ◌-◌, ◌≤◌, List, [], ◌∷◌, ◌++◌, if◌then◌else◌, nat_lt, replicate, slice_set, slice_index_or, Contains}
use Rattle.ea_machine.specs.Runs as runs
use Rattle.ea_road.specs.declared.TheConstants.{NONE}
use Rattle.ea_labels.specs.declared.record.SeatRecord.{SeatRecord}
use Rattle.ea_road.specs.Roads.{IsNode}
use Rattle.ea_road.specs.Labels.{label_of}
use Rattle.ea_labels.specs.Core.{first_record, seen, lowered, with_one_share_less, with_one_share, joined, spent, IsLawful}

-- A word for each node, and the records of all seats by number.
pub record Core : Type 0 where
  pub words : List ℕ
  pub seats : List SeatRecord

-- The seat that steps comes first.
pub data Event : Type 0 where
  load : ℕ → ℕ → Event
  fetch_min : ℕ → ℕ → ℕ → Event
  split : ℕ → Event
  join : ℕ → ℕ → Event

-- A new table.
abbrev pub opening : ℕ → Core
opening nodes = record { words = replicate nodes NONE; seats = first_record ∷ [] }

abbrev pub record_of : Core → ℕ → SeatRecord
record_of core id = slice_index_or core.seats id spent

abbrev pub with_record : Core → ℕ → SeatRecord → Core
with_record core id seat = record { words = core.words; seats = slice_set core.seats id seat }

-- The seat saw the word of the node.
abbrev pub with_bound : Core → ℕ → ℕ → Core
with_bound core id node = with_record core id (seen (record_of core id) node (label_of core.words node))

-- The seat lowered the word of the node to the time.
abbrev pub with_lowering : Core → ℕ → ℕ → ℕ → Core
with_lowering core id node time = record {
  words = slice_set core.words (node - 1) time;
  seats = slice_set core.seats id (lowered (record_of core id) node (label_of core.words node) time);
}

abbrev pub after : Core → Event → Core
after core (load id node) = with_bound core id node
after core (fetch_min id node time) = if nat_lt time (label_of core.words node) then with_lowering core id node time else with_bound core id node
after core (split id) = record { words = core.words; seats = slice_set core.seats id (with_one_share_less (record_of core id)) ++ with_one_share (record_of core id) ∷ [] }
after core (join id other) = with_record (with_record core id (joined (record_of core id) (record_of core other))) other spent

-- A live seat has a share.
abbrev pub IsLive : Core → ℕ → Type 0
IsLive core id = 1 ≤ (record_of core id).shares

abbrev pub MayCome : (ℕ → ℕ → Type 0) → ℕ → Core → Event → Type 0
MayCome known nodes core (load id node) = IsLive core id × IsNode nodes node
MayCome known nodes core (fetch_min id node time) = IsLive core id × IsNode nodes node × known node time
MayCome known nodes core (split id) = 2 ≤ (record_of core id).shares
MayCome known nodes core (join id other) = IsLive core id × IsLive core other × (other ≢ id)

abbrev pub after_all : Core → List Event → Core
after_all = runs.after_all after

abbrev pub MayRun : (ℕ → ℕ → Type 0) → ℕ → Core → List Event → Type 0
MayRun known nodes = runs.MayRun after (MayCome known nodes)

-- Every run of a new table, whatever the order of its seats' steps, leaves it lawful.
abbrev pub EveryRunIsLawful : (ℕ → ℕ → Type 0) → Type 0
EveryRunIsLawful known = (nodes : ℕ) (events : List Event) → MayRun known nodes (opening nodes) events → IsLawful known nodes (after_all (opening nodes) events).words (after_all (opening nodes) events).seats

-- Some run of a new table leads to this state.
abbrev pub IsReached : (ℕ → ℕ → Type 0) → ℕ → Core → Type 0
IsReached known nodes core = runs.IsReached after (MayCome known nodes) (opening nodes) core

-- Some run of a new table ends with these words, and this record is one of its seats'.
pub record IsRunEnd (known : ℕ → ℕ → Type 0) (nodes : ℕ) (words : List ℕ) (seat : SeatRecord) : Type 0 where
  pub core : Core
  pub reached : IsReached known nodes core
  pub has_words : core.words ≡ words
  pub has_seat : Contains core.seats seat
