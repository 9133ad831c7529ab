-- The text of a report of earliest arrivals, and of one in either direction.
use Rattle.std.specs.Prelude.{ℕ, zero, suc, ◌-◌, Bool, List, [], ◌∷◌, ◌++◌, map, length, reverse, codes, decimal, if◌then◌else◌, Option, Some, None}
use Rattle.std.specs.List.{flat_map}
use Rattle.ea_base.specs.declared.direction.Direction.{Direction}
use Rattle.ea_base.specs.declared.direction.Direction.TheVariants.{Forward, Turned}
use Rattle.ea_base.specs.declared.limits.TheConstants.{HORIZON}
use Rattle.ea_road.specs.declared.source.Source.{Source}
use Rattle.ea_road.specs.Queries.{Asking}
use Rattle.ea_search.specs.Answers.{Answered, arrival_of, walk_of}
use Rattle.ea_report.specs.declared.style.Style.{Style}

-- A field after a space.
abbrev pub spaced : List ℕ → List ℕ
spaced field = 32 ∷ field

-- A line: its word, then its fields.
abbrev pub line : List ℕ → List (List ℕ) → List ℕ
line word fields = word ++ flat_map spaced fields ++ 10 ∷ []

-- A source and its departure.
abbrev pub source_line : Source → List ℕ
source_line source = line (codes "s") (decimal source.node ∷ decimal source.departure ∷ [])

-- A source and a target, and the source's departure.
abbrev pub pair_line : ℕ → Source → List ℕ
pair_line target source = line (codes "q") (decimal source.node ∷ decimal target ∷ decimal source.departure ∷ [])

-- A node and its arrival, or `inf`.
abbrev pub arrival_line : ℕ → Option ℕ → List ℕ
arrival_line node (Some arrival) = line (codes "d") (decimal node ∷ decimal arrival ∷ [])
arrival_line node None = line (codes "d") (decimal node ∷ codes "inf" ∷ [])

-- A node and a walk to it: the number of its arcs, and the arcs' numbers.
abbrev pub walk_line : ℕ → List ℕ → List ℕ
walk_line node arcs = line (codes "w") (decimal node ∷ decimal (length arcs) ∷ map decimal arcs)

-- The line of a walk, if there is one.
abbrev pub walk_text : ℕ → Option (List ℕ) → List ℕ
walk_text node (Some walk) = walk_line node walk
walk_text node None = []

-- The text of an asked node: its arrival and, with walks, its walk.
abbrev pub node_text : Bool → Answered → ℕ → List ℕ
node_text walks answer node = arrival_line node (arrival_of answer node) ++ (if walks then walk_text node (walk_of answer node) else [])

-- The texts of nodes 1 to n.
abbrev pub each_node : (ℕ → List ℕ) → ℕ → List ℕ
each_node text zero = []
each_node text (suc n) = each_node text n ++ text (suc n)

-- The texts of this many nodes after a node.
abbrev pub some_nodes : (ℕ → List ℕ) → ℕ → ℕ → List ℕ
some_nodes text after zero = []
some_nodes text after (suc n) = text (suc after) ++ some_nodes text (suc after) n

-- A problem that asks all of this many nodes: its sources, then each node.
abbrev pub text_of_all : Bool → ℕ → List Source → Answered → List ℕ
text_of_all walks nodes sources answer = flat_map source_line sources ++ each_node (node_text walks answer) nodes

-- A problem that asks a target: the pair, then the target.
abbrev pub text_of_target : Bool → ℕ → List Source → Answered → List ℕ
text_of_target walks target sources answer = flat_map (pair_line target) sources ++ node_text walks answer target

-- A problem: if all of this many nodes are asked, its sources and each node; if a target is asked, the pair
-- and the target.
abbrev pub problem_text : Bool → ℕ → Asking → Answered → List ℕ
problem_text walks nodes query answer = asked_text query.target where
  asked_text : Option ℕ → List ℕ
  asked_text None = text_of_all walks nodes query.sources answer
  asked_text (Some target) = text_of_target walks target query.sources answer

-- ---- in either direction
--
-- In a turned network a source is a target of the question, and a time t is HORIZON - t of the question.

-- A target and the time by which it has to be reached.
abbrev pub target_line : Source → List ℕ
target_line source = line (codes "t") (decimal source.node ∷ decimal (HORIZON - source.departure) ∷ [])

-- A pair by its two nodes, and the time by which the second has to be reached.
abbrev pub turned_pair_line : ℕ → Source → List ℕ
turned_pair_line start source = line (codes "t") (decimal start ∷ decimal source.node ∷ decimal (HORIZON - source.departure) ∷ [])

-- A node and its latest departure, or `none`.
abbrev pub departure_line : ℕ → Option ℕ → List ℕ
departure_line node (Some time) = line (codes "d") (decimal node ∷ decimal (HORIZON - time) ∷ [])
departure_line node None = line (codes "d") (decimal node ∷ codes "none" ∷ [])

-- The line of a walk to a target, if there is one, its arcs in the order in which they are driven.
abbrev pub driven_text : ℕ → Option (List ℕ) → List ℕ
driven_text node (Some walk) = walk_line node (reverse walk)
driven_text node None = []

abbrev pub start_line : Direction → Source → List ℕ
start_line Forward source = source_line source
start_line Turned source = target_line source

abbrev pub asked_line : Direction → ℕ → Source → List ℕ
asked_line Forward target source = pair_line target source
asked_line Turned target source = turned_pair_line target source

abbrev pub time_line : Direction → ℕ → Option ℕ → List ℕ
time_line Forward node time = arrival_line node time
time_line Turned node time = departure_line node time

-- What is shown of a time, or of none.
abbrev pub shown_time : Direction → Option ℕ → List ℕ
shown_time Forward (Some time) = decimal time
shown_time Forward None = codes "inf"
shown_time Turned (Some time) = decimal (HORIZON - time)
shown_time Turned None = codes "none"

-- The line of a node's time in an answer.
abbrev pub node_time : Direction → Answered → ℕ → List ℕ
node_time direction answer node = time_line direction node (arrival_of answer node)

abbrev pub way_text : Direction → ℕ → Option (List ℕ) → List ℕ
way_text Forward node walk = walk_text node walk
way_text Turned node walk = driven_text node walk

-- The text of a node: its time and, with walks, its walk.
abbrev pub reported_node : Style → Answered → ℕ → List ℕ
reported_node style answer node =
    time_line style.direction node (arrival_of answer node) ++ (if style.walks then way_text style.direction node (walk_of answer node) else [])

-- The texts of some nodes in their order or, if none are chosen, of all of this many.
abbrev pub reported_nodes : Style → Option (List ℕ) → ℕ → Answered → List ℕ
reported_nodes style None nodes answer = each_node (reported_node style answer) nodes
reported_nodes style (Some chosen) nodes answer = flat_map (reported_node style answer) chosen

-- How many texts of nodes these are.
abbrev pub node_count : Option (List ℕ) → ℕ → ℕ
node_count None nodes = nodes
node_count (Some chosen) nodes = length chosen

-- A problem: its sources or targets and then nodes, or a pair and its one node.
abbrev pub report_text : Style → Option (List ℕ) → ℕ → Asking → Answered → List ℕ
report_text style chosen nodes query answer = asked_text query.target where
  asked_text : Option ℕ → List ℕ
  asked_text None = flat_map (start_line style.direction) query.sources ++ reported_nodes style chosen nodes answer
  asked_text (Some target) = flat_map (asked_line style.direction target) query.sources ++ reported_node style answer target
