-- A run of one thread: its labels, its heaps and its record.
use Rattle.std.specs.Prelude.{◌≡◌, ◌≢◌, ℕ, ◌+◌, ◌-◌, ◌%◌, ◌<◌, ◌≤◌, ◌⊎◌, List, [], ◌∷◌, ◌++◌, length, map, Ok, slice_set, Contains}
use Rattle.std.specs.List.{IsAmong, AllByRecursion}
use Rattle.ea_base.specs.declared.limits.TheConstants.{HORIZON, LEAST_HEAPS}
use Rattle.ea_road.specs.declared.TheConstants.{NONE}
use Rattle.ea_road.specs.declared.arc.Arc.{Arc}
use Rattle.ea_road.specs.declared.source.Source.{Source}
use Rattle.ea_road.specs.Roads.{Roads, IsArc, IsNode}
use Rattle.ea_road.specs.Arrivals.{Reaches}
use Rattle.ea_road.specs.Labels.{label_of}
use Rattle.ea_pool.specs.declared.heap.entry.Entry.{Entry}
use Rattle.ea_pool.specs.declared.shared.words.TheConstants.{MOST_IN_POOL}
use Rattle.ea_pool.specs.Draws.{first_draw, second_draw}
use Rattle.ea_machine.specs.Totals.{total}
use Rattle.ea_pool.specs.Entries.{times, only}
use Rattle.ea_pool.specs.Solos.{content, lesser_heap, TakesFrom}
use Rattle.ea_rank.specs.declared.event.Event.{Event}
use Rattle.ea_rank.specs.declared.event.Event.TheVariants.{Push, Pop}
use Rattle.ea_rank.specs.Ranks.{rank_errors, popped_keys, queue_after}

-- The sum of f over the entries of all heaps.
abbrev pub weighs : (Entry → ℕ) → List (List Entry) → ℕ
weighs f heaps = total (total f) heaps

-- The heaps that a pop inspects with these words are empty.
abbrev pub BothEmpty : List (List Entry) → ℕ → ℕ → Type 0
BothEmpty heaps first second =
    (content heaps (first_draw (length heaps) first) ≡ []) × (content heaps (second_draw (length heaps) first second) ≡ [])

-- A pop with these words takes the entry: with the first word, or with the first of the words after its
-- remainder that draws a heap with an entry.
pub record Finds (first second : ℕ) (entry : Entry) (old new : List (List Entry)) : Type 0 where
  pub step : ℕ
  pub near : step < length old
  pub none_before : (k : ℕ) → k < step → BothEmpty old (first % length old + k) second
  pub taken : TakesFrom (lesser_heap old (first_draw (length old) (first % length old + step)) (second_draw (length old) (first % length old + step) second)) entry old new

-- The heaps of a run: this many, within the limits of a pool.
pub record HasHeaps (heaps : ℕ) (row : List (List Entry)) : Type 0 where
  pub are : length row ≡ heaps
  pub two : LEAST_HEAPS ≤ heaps
  pub few : heaps ≤ MOST_IN_POOL

-- The state of a run.
pub record State : Type 0 where
  pub labels : List ℕ
  pub heaps : List (List Entry)
  pub events : List Event

abbrev pub entry_of : ℕ → ℕ → Entry
entry_of node time = record { key = time; node = node }

-- The label of a node falls to a time, its entry is pushed, and its key is recorded.
pub record LowersNode (node time : ℕ) (old new : State) : Type 0 where
  pub labels : new.labels ≡ slice_set old.labels (node - 1) time
  pub heaps : (f : Entry → ℕ) → weighs f new.heaps ≡ f (entry_of node time) + weighs f old.heaps
  pub count : length new.heaps ≡ length old.heaps
  pub events : new.events ≡ old.events ++ Push time ∷ []

-- An entry is popped, and its key is recorded.
pub record PopsFound (first second : ℕ) (entry : Entry) (old new : State) : Type 0 where
  pub labels : new.labels ≡ old.labels
  pub heaps : Finds first second entry old.heaps new.heaps
  pub events : new.events ≡ old.events ++ Pop entry.key ∷ []

-- The record so far is right, and its queue has the keys of the heaps.
pub record IsRecorded (popped : List Entry) (state : State) : Type 0 where
  pub ranks : List ℕ
  pub found : rank_errors state.events ≡ Ok ranks
  pub queue : (f : ℕ → ℕ) → total f (queue_after [] state.events) ≡ weighs (λ e. f e.key) state.heaps
  pub keys : popped_keys state.events ≡ map (λ e. e.key) popped
  pub exact : length state.heaps ≡ 2 → AllByRecursion (λ rank. rank ≡ 0) ranks

-- Each node with a label has its entry in the heaps, or the entry was popped and the arcs from the node were
-- relaxed, except those that are left.
pub record KeepsEntries
    (roads : Roads)
    (answers : ℕ → ℕ → ℕ → ℕ → Type 0)
    (sources begun : List Source)
    (left : List ℕ)
    (popped : List Entry)
    (state : State)
    : Type 0 where
  pub places : length state.labels ≡ roads.nodes
  pub at_sources : (source : Source) → IsAmong begun source → label_of state.labels source.node ≤ source.departure
  pub reached : (node : ℕ) → IsNode roads.nodes node → label_of state.labels node ≢ NONE → Reaches roads answers sources node (label_of state.labels node)
  pub entries : (e : Entry) → 0 < weighs (only e) state.heaps → IsNode roads.nodes e.node × (e.key ≤ HORIZON) × (label_of state.labels e.node ≤ e.key)
  pub entered : (node : ℕ) → IsNode roads.nodes node → label_of state.labels node ≢ NONE → 0 < weighs (only (entry_of node (label_of state.labels node))) state.heaps + times (entry_of node (label_of state.labels node)) popped
  pub passed : (number : ℕ) (arc : Arc) → IsArc roads number arc → label_of state.labels arc.tail ≢ NONE → (0 < weighs (only (entry_of arc.tail (label_of state.labels arc.tail))) state.heaps) ⊎ (Contains left number ⊎ ((arrival : ℕ) → answers arc.class arc.weight (label_of state.labels arc.tail) arrival → arrival ≤ HORIZON → label_of state.labels arc.head ≤ arrival))

-- A run that is under way, whatever it has popped so far.
abbrev pub IsOnCourse : Roads → (ℕ → ℕ → ℕ → ℕ → Type 0) → List Source → List Source → List ℕ → State → Type 0
IsOnCourse roads answers sources begun left state =
    (popped : List Entry) × KeepsEntries roads answers sources begun left popped state × IsRecorded popped state
