-- The course of a run of one thread, determined by the words of its generator.
use Rattle.std.specs.Prelude.{◌≡◌, ℕ, ◌+◌, ◌<◌, ◌≤◌, ◌⊎◌, List, [], ◌∷◌, ◌++◌, length, replicate}
use Rattle.rand_core.specs.Stream.{Stream, next_u64}
use Rattle.ea_machine.specs.Totals.{total}
use Rattle.ea_base.specs.declared.limits.TheConstants.{HORIZON}
use Rattle.ea_road.specs.declared.TheConstants.{NONE}
use Rattle.ea_road.specs.declared.arc.Arc.{Arc}
use Rattle.ea_road.specs.declared.source.Source.{Source}
use Rattle.ea_road.specs.Labels.{label_of}
use Rattle.ea_road.specs.Roads.{Roads, IsArc, IsNode, leaving}
use Rattle.ea_pool.specs.declared.heap.entry.Entry.{Entry}
use Rattle.ea_pool.specs.Draws.{first_draw}
use Rattle.ea_pool.specs.Solos.{AddsTo}
use Rattle.ea_rank.specs.declared.event.Event.{Event}
use Rattle.ea_rank.specs.Ranks.{popped_keys, queue_after}
use Rattle.ea_rank.specs.Records.{ContainArrivals, HasRanks}
use Rattle.ea_rank.specs.Runs.{State, IsOnCourse, LowersNode, PopsFound, entry_of, weighs}
use Rattle.ea_rank.specs.Tallies.{added}

-- The label of a node falls to a time, and its entry is pushed to the heap that the word draws.
pub record LowersBy (word node time : ℕ) (old new : State) : Type 0 where
  pub lowers : LowersNode node time old new
  pub into : AddsTo (first_draw (length old.heaps) word) (entry_of node time) old.heaps new.heaps

-- Sources are offered their departures in order. The pushes have the words 0, 1, 2 and so on; the number is
-- how many there were.
pub data Sows : List Source → State → ℕ → State → Type 0 where
  begins : {state : State} → Sows [] state 0 state
  passes : {sources : List Source} {old new : State} {pushes : ℕ} (source : Source) → Sows sources old pushes new → label_of new.labels source.node ≤ source.departure → Sows (sources ++ source ∷ []) old pushes new
  pushes : {sources : List Source} {old middle new : State} {pushes : ℕ} (source : Source) → Sows sources old pushes middle → source.departure < label_of middle.labels source.node → LowersBy pushes source.node source.departure middle new → Sows (sources ++ source ∷ []) old (pushes + 1) new

module _ (roads : Roads) (answers : ℕ → ℕ → ℕ → ℕ → Type 0) where
  -- The arcs with these numbers are relaxed in order, at a departure. If a head's label falls, its push takes
  -- the next word.
  pub data Scans (departure : ℕ) : List ℕ → Stream → State → Stream → State → Type 0 where
    begins : {words : Stream} {state : State} → Scans departure [] words state words state
    passes : {numbers : List ℕ} {words words' : Stream} {old new : State} {number arrival : ℕ} {arc : Arc} → Scans departure numbers words old words' new → IsArc roads number arc → answers arc.class arc.weight departure arrival → (HORIZON < arrival) ⊎ (label_of new.labels arc.head ≤ arrival) → Scans departure (numbers ++ number ∷ []) words old words' new
    pushes : {numbers : List ℕ} {words words' : Stream} {old middle new : State} {number arrival : ℕ} {arc : Arc} → Scans departure numbers words old words' middle → IsArc roads number arc → answers arc.class arc.weight departure arrival → arrival ≤ HORIZON → arrival < label_of middle.labels arc.head → LowersBy (next_u64 words').0 arc.head arrival middle new → Scans departure (numbers ++ number ∷ []) words old (next_u64 words').1 new

  -- A run on its course, with at least two heaps: it began with these sources, and these arcs are left.
  pub record MayGoOn (sources begun : List Source) (left : List ℕ) (state : State) : Type 0 where
    pub on_course : IsOnCourse roads answers sources begun left state
    pub two_heaps : 2 ≤ length state.heaps

  -- The sources were offered in order, and the run is on its course.
  pub record SowsSources (sources : List Source) (old new : State) : Type 0 where
    pub on_course : IsOnCourse roads answers sources sources [] new
    pub heaps_are : length new.heaps ≡ length old.heaps
    pub pushes : ℕ
    pub sows : Sows sources old pushes new

  -- The arcs from a node may be relaxed, left at its label; the run is on its course but for these.
  pub record MayScanNode (sources : List Source) (node departure : ℕ) (state : State) : Type 0 where
    pub is_node : IsNode roads.nodes node
    pub in_time : departure ≤ HORIZON
    pub label_is : label_of state.labels node ≡ departure
    pub may_go_on : MayGoOn sources sources (leaving roads node) state

  -- They were relaxed, and the run is on its course. Labels fell by at least as much as entries were added.
  pub record ScansNode (sources : List Source) (node departure : ℕ) (words : Stream) (old : State) (words' : Stream) (new : State) : Type 0 where
    pub on_course : IsOnCourse roads answers sources sources [] new
    pub heaps_are : length new.heaps ≡ length old.heaps
    pub less : added new.labels + weighs (λ entry. 1) new.heaps ≤ added old.labels + weighs (λ entry. 1) old.heaps
    pub course : Scans departure (leaving roads node) words old words' new

  -- Consecutive turns: two words are drawn and an entry is popped. If it is above its node's label it is
  -- stale; else the arcs from the node are relaxed.
  pub data Turns : Stream → State → Stream → State → Type 0 where
    begins : {words : Stream} {state : State} → Turns words state words state
    stale : {words words' : Stream} {old middle new : State} {entry : Entry} → Turns words old words' middle → PopsFound (next_u64 words').0 (next_u64 (next_u64 words').1).0 entry middle new → label_of new.labels entry.node < entry.key → Turns words old (next_u64 (next_u64 words').1).1 new
    scans : {words words' words'' : Stream} {old middle popped new : State} {entry : Entry} → Turns words old words' middle → PopsFound (next_u64 words').0 (next_u64 (next_u64 words').1).0 entry middle popped → entry.key ≤ label_of popped.labels entry.node
        → Scans entry.key (leaving roads entry.node) (next_u64 (next_u64 words').1).1 popped words'' new → Turns words old words'' new

  -- A run with this number of heaps and these words began with no labels, empty heaps and an empty record,
  -- and went over the sources' entries and then over turns.
  pub record Begun (heaps : ℕ) (words : Stream) (sources : List Source) (rest : Stream) (state : State) : Type 0 where
    pub start : State
    pub sown : State
    pub pushes : ℕ
    pub labels : start.labels ≡ replicate roads.nodes NONE
    pub heaps_are : start.heaps ≡ replicate heaps []
    pub nothing : start.events ≡ []
    pub sows : Sows sources start pushes sown
    pub turns : Turns words sown rest state

  -- The events of a whole run: at its end the heaps are empty.
  pub record IsRunBy (heaps : ℕ) (words : Stream) (sources : List Source) (events : List Event) : Type 0 where
    pub rest : Stream
    pub state : State
    pub begun : Begun heaps words sources rest state
    pub empty : total length state.heaps ≡ 0
    pub events_are : events ≡ state.events

  -- The record of a whole run.
  pub record IsRecordOfRun (heaps : ℕ) (words : Stream) (sources : List Source) (events : List Event) : Type 0 where
    -- Each popped key was in the queue; with two heaps, no smaller one was.
    pub ranks : HasRanks heaps events
    pub empty : queue_after [] events ≡ []
    pub least : ContainArrivals roads answers sources (popped_keys events)
    -- The course of the turns by the generator's words determines the record.
    pub course : IsRunBy heaps words sources events
