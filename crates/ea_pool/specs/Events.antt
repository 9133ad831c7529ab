-- The pool as a state machine: each atomic step is one event of one seat, and leaves the state lawful.
use Rattle.std.specs.Prelude.{◌≡◌, ◌≢◌, ℕ, ◌<◌, ◌≤◌, ◌==◌, List, [], ◌∷◌, ◌++◌, if◌then◌else◌, length, replicate, slice_index, slice_set, slice_index_or, Option, Some, None}
use mathlib.Core.Option as maybe
use Rattle.ea_machine.specs.Runs as runs
use Rattle.ea_pool.specs.declared.heap.entry.Entry.{Entry}
use Rattle.ea_pool.specs.declared.shared.account.Held.{Held}
use Rattle.ea_pool.specs.declared.shared.account.SeatMemory.{SeatMemory}
use Rattle.ea_pool.specs.declared.shared.words.TheConstants.{EMPTY, OUT}
use Rattle.ea_pool.specs.Entries.{SameEntries, AreKnown}
use Rattle.ea_pool.specs.Kinds.{HeapKind, Shows}
use Rattle.ea_pool.specs.States.{first_state, nobody, content_of, IfHeld, saw, forgot, took, pushed, popped, gave, left_of, newcomer, joined}
use Rattle.ea_pool.specs.Core.{Core, at_home, IsLawful}

-- The seat that steps comes first. A take names the heap and the value that was seen. A return names the
-- heap's word, the entries that went in or came out, and the heap's new content, in the heap's order.
pub data Event : Type 0 where
  load : ℕ → ℕ → Event
  take : ℕ → ℕ → ℕ → Event
  give_pushed : ℕ → ℕ → List Entry → List Entry → Event
  give_popped : ℕ → ℕ → List Entry → List Entry → Event
  give_back : ℕ → ℕ → Event
  split : ℕ → Event
  join : ℕ → ℕ → Event

-- A new pool.
abbrev pub opening : ℕ → Core
opening heaps = record { words = replicate heaps EMPTY; homes = replicate heaps (maybe.some []); seats = first_state ∷ [] }

abbrev pub state_of : Core → ℕ → SeatMemory
state_of core id = slice_index_or core.seats id nobody

abbrev pub home_of : Core → ℕ → List Entry
home_of core heap = at_home (slice_index_or core.homes heap maybe.none)

abbrev pub with_state : Core → ℕ → SeatMemory → Core
with_state core id seat = record { words = core.words; homes = core.homes; seats = slice_set core.seats id seat }

-- The seat takes the heap.
abbrev pub with_taken : Core → ℕ → ℕ → Core
with_taken core id heap = record {
  words = slice_set core.words heap OUT;
  homes = slice_set core.homes heap maybe.none;
  seats = slice_set core.seats id (took (state_of core id) heap (home_of core heap));
}

-- The heap that is held is returned under this word with this content.
abbrev pub with_home : Core → ℕ → ℕ → List Entry → SeatMemory → Option Held → Core
with_home core id word content seat None = core
with_home core id word content seat (Some held) = record {
  words = slice_set core.words held.heap word;
  homes = slice_set core.homes held.heap (maybe.some content);
  seats = slice_set core.seats id seat;
}

abbrev pub after : Core → Event → Core
after core (load id heap) = with_state core id (saw (state_of core id) heap (slice_index core.words heap))
after core (take id heap seen) = if slice_index core.words heap == seen then with_taken core id heap else with_state core id (forgot (state_of core id))
after core (give_pushed id word entries content) = with_home core id word content (pushed (state_of core id) entries) (state_of core id).held
after core (give_popped id word entries content) = with_home core id word content (popped (state_of core id) entries) (state_of core id).held
after core (give_back id word) = with_home core id word (content_of (state_of core id).held) (gave (state_of core id)) (state_of core id).held
after core (split id) = record { words = core.words; homes = core.homes; seats = slice_set core.seats id (left_of (state_of core id)) ++ newcomer (state_of core id) ∷ [] }
after core (join id other) = with_state (with_state core id (joined (state_of core id) (state_of core other))) other nobody

-- A live seat has a share.
abbrev pub IsLive : Core → ℕ → Type 0
IsLive core id = 0 < (state_of core id).shares

abbrev pub MayCome : (ℕ → ℕ → Type 0) → HeapKind → Core → Event → Type 0
MayCome known kind core (load id heap) = IsLive core id × (heap < length core.words)
MayCome known kind core (take id heap seen) = IsLive core id × (heap < length core.words) × (seen ≢ OUT) × ((state_of core id).held ≡ None)
MayCome known kind core (give_pushed id word entries content) = IsLive core id × Shows kind word content × IfHeld (state_of core id).held (λ es. SameEntries content (entries ++ es)) × AreKnown known entries
MayCome known kind core (give_popped id word entries content) = IsLive core id × Shows kind word content × IfHeld (state_of core id).held (λ es. SameEntries es (entries ++ content))
MayCome known kind core (give_back id word) = IsLive core id × IfHeld (state_of core id).held (λ es. Shows kind word es)
MayCome known kind core (split id) = 2 ≤ (state_of core id).shares
MayCome known kind core (join id other) = IsLive core id × IsLive core other × (other ≢ id) × ((state_of core other).held ≡ None)

abbrev pub after_all : Core → List Event → Core
after_all = runs.after_all after

abbrev pub MayRun : (ℕ → ℕ → Type 0) → HeapKind → Core → List Event → Type 0
MayRun known kind = runs.MayRun after (MayCome known kind)

-- Every run of a new pool, whatever the order of its seats' steps, leaves it lawful.
abbrev pub EveryRunIsLawful : (ℕ → ℕ → Type 0) → HeapKind → Type 0
EveryRunIsLawful known kind = (heaps : ℕ) (events : List Event) → MayRun known kind (opening heaps) events → IsLawful known kind (after_all (opening heaps) events)

-- Some run of a new pool leads to this state.
abbrev pub IsReached : (ℕ → ℕ → Type 0) → HeapKind → ℕ → Core → Type 0
IsReached known kind heaps core = runs.IsReached after (MayCome known kind) (opening heaps) core
