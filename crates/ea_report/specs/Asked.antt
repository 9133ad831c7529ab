-- When an answer belongs to a network and a query, as far as its text depends on it.
use Rattle.std.specs.Prelude.{◌≡◌, ℕ, All, Bool, IfSome, List, None, Option, Some, option_map, true}
use Rattle.ea_road.specs.Roads.{Roads, IsNode}
use Rattle.ea_road.specs.Queries.{Asking, IsAskedBy}
use Rattle.ea_search.specs.Answers.{Answered}
use Rattle.ea_search.specs.declared.link.Link.{Link}
use Rattle.ea_report.specs.declared.report.ReportOptions.{ReportOptions}
use Rattle.ea_report.specs.declared.style.Style.{Style}

-- The answer has the arrivals at the network's nodes that the query asks for.
pub record IsOf (roads : Roads) (query : Asking) (answer : Answered) : Type 0 where
  pub nodes : answer.nodes ≡ roads.nodes
  pub target : answer.target ≡ query.target
  pub in_network : (node : ℕ) → query.target ≡ Some node → IsNode roads.nodes node

-- The nodes that are chosen, if some are.
abbrev pub chosen_by : ReportOptions → Option (List ℕ)
chosen_by options = option_map (λ nodes. nodes.now) options.nodes

-- How a report is written, and which nodes it has.
pub record Shape : Type 0 where
  pub style : Style
  pub chosen : Option (List ℕ)

abbrev pub shape_of : ReportOptions → Shape
shape_of options = record { style = options.style; chosen = chosen_by options }

-- Chosen nodes are nodes of the network.
abbrev pub AreChosen : ℕ → Option (List ℕ) → Type 0
AreChosen nodes chosen = IfSome chosen (All (IsNode nodes))

-- The lines of a node can be written: the node is asked and, with walks, the answer has them along these links.
pub record MayWriteNode (walks : Bool) (links : List Link) (answer : Answered) (node : ℕ) : Type 0 where
  pub is_node : IsNode answer.nodes node
  pub asked : IsAskedBy answer.target node
  pub has_walks : walks ≡ true → answer.walks ≡ true
  pub links_are : links ≡ answer.links

-- The lines of the chosen nodes or, if none are chosen, of all of this many can be written: all are asked and,
-- with walks, the answer has them.
pub record MayWriteNodes (style : Style) (chosen : Option (List ℕ)) (nodes : ℕ) (answer : Answered) : Type 0 where
  pub nodes_are : answer.nodes ≡ nodes
  pub are_chosen : AreChosen nodes chosen
  pub all : answer.target ≡ None
  pub has_walks : style.walks ≡ true → answer.walks ≡ true

-- A report can be written by these options: the answer is the query's on the network, chosen nodes are the
-- network's and, with walks, the answer has them.
pub record MayWriteReport (roads : Roads) (query : Asking) (answer : Answered) (options : ReportOptions) : Type 0 where
  pub of : IsOf roads query answer
  pub chosen : AreChosen roads.nodes (chosen_by options)
  pub walks : options.style.walks ≡ true → answer.walks ≡ true
