-- What the files denote: a network and its travel times.
use Rattle.std.specs.Prelude.{◌≡◌, ℕ, ◌≤◌, List, length, Option, Some, None, IfSome}
use Rattle.ea_base.specs.declared.limits.TheConstants.{MOST_BYTES}
use Rattle.ea_bytes.specs.Text.{field_lines}
use Rattle.ea_input.specs.Graph.{Graph, DenotesGraph}
use Rattle.ea_input.specs.Table.{Table, DenotesTable, nothing}
use Rattle.ea_input.specs.TableViews.{table as table_of}
use Rattle.ea_input.specs.Views.{graph as graph_of}
use Rattle.ea_base.specs.declared.graph.RawGraph.{RawGraph}
use Rattle.ea_base.specs.declared.timetable.RawTable.{RawTable}
use Rattle.ea_road.specs.Roads.{Roads}
use Rattle.ea_road.specs.Assigned.{arcs_with}
use Rattle.ea_travel_times.specs.StepLists.{steps_in}
use Rattle.ea_travel_times.specs.TimetableLists.{TimetablesAnswer}
use Rattle.ea_base.specs.declared.direction.Direction.{Direction}
use Rattle.ea_road.specs.Turned.{directed_roads}
use Rattle.ea_travel_times.specs.Directed.{IsDirected}
use Rattle.ea_load.specs.declared.road.Road.{Road}
use Rattle.ea_load.specs.declared.road.UnindexedRoad.{UnindexedRoad}
use Rattle.ea_load.specs.Files.{IsAll, IsAllIfThere}

-- A graph, and the kinds of its classes with the classes of its arcs.
pub record Given : Type 0 where
  pub graph : Graph
  pub table : Table

-- A graph and a table in memory.
abbrev pub given_by : RawGraph → RawTable → Given
given_by graph table = record { graph = graph_of graph; table = table_of table }

-- The network: the graph's arcs, each with the class that was assigned to it last.
abbrev pub roads_of : Given → Roads
roads_of given = record { nodes = given.graph.nodes; arcs = arcs_with given.table.assigned given.graph.arcs }

-- The arrival by an arc of a class and a weight, left at a departure: class 0 is plain, class J is the J-th
-- kind, whose steps are among those of all kinds.
abbrev pub times_of : Table → ℕ → ℕ → ℕ → ℕ → Type 0
times_of table class weight departure arrival = TimetablesAnswer table.kinds table.steps class weight departure arrival

-- With no file of timetables there are no kinds and no assignments.
abbrev pub no_table : Table
no_table = nothing

-- The table that the text of timetables denotes for this many arcs, if there is a text.
abbrev pub IsTableOf : ℕ → Option (List ℕ) → Table → Type 0
IsTableOf arcs None table = table ≡ no_table
IsTableOf arcs (Some text) table = DenotesTable arcs (field_lines text) table

-- The texts of a graph and of timetables denote this.
pub record Denotes (gr : List ℕ) (tp : Option (List ℕ)) (given : Given) : Type 0 where
  pub graph : DenotesGraph (field_lines gr) given.graph
  pub table : IsTableOf (length given.graph.arcs) tp given.table

-- The arrivals in a direction.
abbrev pub times_in : Direction → Table → ℕ → ℕ → ℕ → ℕ → Type 0
times_in direction table = IsDirected direction (times_of table)

-- A network and timetables are those that were given, in a direction.
pub record IsRoadOf (direction : Direction) (given : Given) (road : Road) : Type 0 where
  pub way : road.times.direction ≡ direction
  pub network : road.network ≡ directed_roads direction (roads_of given)
  pub kinds : road.times.tables.list.items ≡ given.table.kinds
  pub steps : steps_in road.times.tables.steps ≡ given.table.steps

-- What a road without an index is as a road.
abbrev pub as_road : UnindexedRoad → Road
as_road road = record { network = road.arcs; times = road.times }

-- What readers gave, each at most MOST_BYTES, denotes this: a graph with timetables, if there is a file of
-- them, and the starts of searches.
pub record AreGiven {X : Type 0}
    (DenotesStarts : ℕ → List (List (List ℕ)) → X → Type 0)
    (gr starts : Option (List ℕ))
    (tp : Option (Option (List ℕ)))
    (given : Given)
    (found : X)
    : Type 0 where
  pub gr_text : List ℕ
  pub starts_text : List ℕ
  pub tp_text : Option (List ℕ)
  pub all_gr : IsAll gr gr_text
  pub all_starts : IsAll starts starts_text
  pub all_tp : IsAllIfThere tp tp_text
  pub few_gr : length gr_text ≤ MOST_BYTES
  pub few_starts : length starts_text ≤ MOST_BYTES
  pub few_tp : IfSome tp_text (λ text. length text ≤ MOST_BYTES)
  pub denoted : Denotes gr_text tp_text given
  pub starts_denoted : DenotesStarts given.graph.nodes (field_lines starts_text) found
