-- The sources of a query are offered their departures, one after another.
use Rattle.std.specs.Prelude.{◌≡◌, ◌≢◌, ◌⊎◌, ℕ, ◌<◌, ◌≤◌, List, slice_index_or}
use Rattle.std.specs.List.{IsAmong}
use Rattle.ea_road.specs.declared.TheConstants.{NONE}
use Rattle.ea_road.specs.declared.source.Source.{Source}
use Rattle.ea_road.specs.Labels.{label_of}
use Rattle.ea_road.specs.Roads.{IsNode}
use Rattle.ea_hierarchy.specs.declared.numbers.TheConstants.{NONE as NO_WALK}
use Rattle.ea_goal.specs.Frontiers.{AreKeyed, Waits}
use Rattle.ea_goal.specs.Led.{IsBeyond}
use Rattle.ea_goal.specs.Visits.{AreOpenNodes}
use Rattle.ea_goal.specs.declared.frontier.Entry.{Entry}

-- A source at the node departs at the time.
pub record StartsAt (sources : List Source) (node time : ℕ) : Type 0 where
  pub source : Source
  pub among : IsAmong sources source
  pub is_node : source.node ≡ node
  pub departs : source.departure ≡ time

-- The labels at the first sources are at most their departures; each label is the departure of a source, and its node is open if it has
-- a bound, and isn't beyond the target.
pub record AreSeeded (nodes : ℕ) (sources : List Source) (target : ℕ) (bound : ℕ → ℕ) (table : List ℕ) (entries : List Entry) (count : ℕ) : Type 0 where
  pub first : (place : ℕ) (other : Source) → place < count → label_of table (slice_index_or sources place other).node ≤ (slice_index_or sources place other).departure
  pub some : (node : ℕ) → IsNode nodes node → label_of table node ≢ NONE → StartsAt sources node (label_of table node)
  pub opened : (node : ℕ) → IsNode nodes node → label_of table node ≢ NONE → bound node < NO_WALK → Waits entries (label_of table node) node ⊎ IsBeyond target bound (label_of table) node
  pub keyed : AreKeyed bound entries
  pub are_nodes : AreOpenNodes nodes entries
