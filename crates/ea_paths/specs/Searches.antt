-- The arrays of a search by one thread, and what it has after a query.
use Rattle.std.specs.Prelude.{◌≡◌, ℕ, Bool, true, false, IfSome, List, [], Contains, Option, None, Some, length, map, replicate}
use Rattle.ea_hierarchy.specs.Hierarchies.{Hierarchy}
use Rattle.ea_hierarchy.specs.Preparations.{IsPreparedFor}
use Rattle.ea_road.specs.declared.TheConstants.{NONE}
use Rattle.ea_road.specs.Queries.{Asking, IsProblem}
use Rattle.ea_road.specs.Roads.{Roads}
use Rattle.ea_search.specs.Answers.{Answered, HasArrivals, IsAnswer}
use Rattle.ea_search.specs.Frontiers.{HaveNone}
use Rattle.ea_search.specs.Listings.{AreLabelsListed, CanSearch, IsListed, Listing, Searched, nothing}
use Rattle.ea_search.specs.Notes.{AreHad}
use Rattle.ea_search.specs.Scans.{AwaitsScans}
use Rattle.ea_search.specs.Underway.{IsFinished}
use Rattle.ea_search.specs.Worklist.{Ring, Worklist}
use Rattle.ea_paths.specs.declared.search.Arrays.{Arrays}

-- They can be reused, and arrays for led searches are for as many nodes.
pub record IsSearch (waiting : Ring) (walks : Bool) (answer : Answered) (listing : Listing) (lists : List (List (ℕ × ℕ))) (guide : Option ℕ) : Type 0 where
  pub can : CanSearch waiting walks answer listing lists
  pub guide_fits : IfSome guide (λ nodes. nodes ≡ waiting.nodes)

-- All lists of a frontier, without an entry.
abbrev pub AreEmptied : List (List (ℕ × ℕ)) → Type 0
AreEmptied lists = (length lists ≡ 66) × HaveNone lists

-- The arrays before a query: no node has a label or waits, and lists and log have no entry.
pub record AreReset (nodes : ℕ) (walks : Bool) (arrays : Arrays) : Type 0 where
  pub labels : arrays.table.items ≡ replicate nodes NONE
  pub todo : arrays.todo ≡ record { nodes = nodes; waiting = []; walks = walks }
  pub lists : AreEmptied (map (λ l. l.items) arrays.lists.items)
  pub listed : arrays.listed ≡ nothing
  pub notes : arrays.notes ≡ []
  pub guide : IfSome arrays.guide (λ guide. guide ≡ nodes)

-- The arrays after a query, before the links are found: each node that has a label is listed, none waits, and
-- lists have no entry.
pub record AreLabelled (nodes : ℕ) (walks : Bool) (arrays : Arrays) : Type 0 where
  pub labels : length arrays.table.items ≡ nodes
  pub todo : arrays.todo ≡ record { nodes = nodes; waiting = []; walks = walks }
  pub lists : AreEmptied (map (λ l. l.items) arrays.lists.items)
  pub listed : AreLabelsListed arrays.table.items (IsListed arrays.listed)
  pub guide : IfSome arrays.guide (λ guide. guide ≡ nodes)

-- The arrays got other labels: each node that has one is listed. Waiting nodes and lists stay.
pub record GetLabels (nodes : ℕ) (arrays arrays' : Arrays) : Type 0 where
  pub labels : length arrays'.table.items ≡ nodes
  pub listed : AreLabelsListed arrays'.table.items (IsListed arrays'.listed)
  pub guide : IfSome arrays'.guide (λ guide. guide ≡ nodes)
  pub others : (arrays'.todo ≡ arrays.todo) × (arrays'.lists ≡ arrays.lists)

-- No node has a label, lists have no entry, and there is room for each node to wait: a search can begin.
pub record CanBegin (nodes : ℕ) (labels : List ℕ) (had : ℕ → ℕ → ℕ → Type 0) (lists : List (List (ℕ × ℕ))) (todo : Worklist) : Type 0 where
  pub none : labels ≡ replicate nodes NONE
  pub unmet : (v u k : ℕ) → had v u k → ⊥
  pub emptied : AreEmptied lists
  pub room : todo.nodes ≡ nodes

-- A search for a query ended: its labels are least, what it says of the arcs by which they were had or met is
-- right, each node that has a label is listed, and lists have no entry.
pub record HasEnded
    (roads : Roads)
    (answers : ℕ → ℕ → ℕ → ℕ → Type 0)
    (query : Asking)
    (labels : List ℕ)
    (met_by had_by : ℕ → ℕ → ℕ → Type 0)
    (is_listed : ℕ → Type 0)
    (lists : List (List (ℕ × ℕ)))
    (todo : Worklist)
    : Type 0 where
  pub finished : IsFinished roads answers query labels todo
  pub met : AwaitsScans roads answers query labels met_by (Contains [])
  pub had : AreHad roads answers labels had_by
  pub listed : AreLabelsListed labels is_listed
  pub emptied : AreEmptied lists

-- A search near the sources ended, or was given up: each node that has a label is listed, none waits, and lists have no entry.
pub record EndsNear
    (roads : Roads)
    (todo : Worklist)
    (labels : List ℕ)
    (is_listed : ℕ → Type 0)
    (lists : List (List (ℕ × ℕ)))
    (todo' : Worklist)
    : Type 0 where
  pub places : length labels ≡ roads.nodes
  pub listed : AreLabelsListed labels is_listed
  pub emptied : AreEmptied lists
  pub nobody : todo' ≡ record { nodes = roads.nodes; waiting = []; walks = todo.walks }

-- A query, and arrays for the nodes of its network.
pub record CanFind (roads : Roads) (classes : ℕ) (query : Asking) (search : Searched) : Type 0 where
  pub problem : IsProblem roads classes query
  pub nodes : search.nodes ≡ roads.nodes

-- A query, and arrays with room for walks for the nodes of its network.
pub record CanFindWalks (roads : Roads) (classes : ℕ) (query : Asking) (search : Searched) : Type 0 where
  pub problem : IsProblem roads classes query
  pub nodes : search.nodes ≡ roads.nodes
  pub walks : search.walks ≡ true

-- A query for all nodes.
pub record AsksAll (roads : Roads) (classes : ℕ) (query : Asking) : Type 0 where
  pub problem : IsProblem roads classes query
  pub all : query.target ≡ None

-- The query of a pair, with its target.
pub record AsksPair (roads : Roads) (classes : ℕ) (query : Asking) (target : ℕ) : Type 0 where
  pub problem : IsProblem roads classes query
  pub asks : query.target ≡ Some target

-- The query of a pair, with its target, over a road that is prepared for it.
pub record CanLead
    (roads : Roads)
    (answers : ℕ → ℕ → ℕ → ℕ → Type 0)
    (classes : ℕ)
    (prepared : Hierarchy)
    (query : Asking)
    (target : ℕ)
    : Type 0 where
  pub pair : AsksPair roads classes query target
  pub prepares : IsPreparedFor roads answers prepared

-- A search whose answer has these labels, and no walks.
pub record IsUnlinked (nodes : ℕ) (target : Option ℕ) (walks : Bool) (table : List ℕ) (search : Searched) : Type 0 where
  pub labels : search.answer.labels ≡ table
  pub asked : (search.answer.nodes ≡ nodes) × (search.answer.target ≡ target)
  pub none : search.answer.walks ≡ false
  pub room : (search.nodes ≡ nodes) × (search.walks ≡ walks)

-- The answer of a query without walks, in arrays for as many nodes as before.
pub record HasFoundArrivals
    (roads : Roads)
    (answers : ℕ → ℕ → ℕ → ℕ → Type 0)
    (query : Asking)
    (before search : Searched)
    : Type 0 where
  pub arrivals : HasArrivals roads answers query search.answer
  pub none : search.answer.walks ≡ false
  pub room : (search.nodes ≡ before.nodes) × (search.walks ≡ before.walks)

-- The answer of a query with its walks, in arrays for this number of nodes.
pub record HasFoundWalks
    (roads : Roads)
    (answers : ℕ → ℕ → ℕ → ℕ → Type 0)
    (query : Asking)
    (nodes : ℕ)
    (search : Searched)
    : Type 0 where
  pub answer : IsAnswer roads answers query search.answer
  pub room : (search.nodes ≡ nodes) × (search.walks ≡ true)

-- The answer of a query, with its walks if there is room for walks, in arrays for as many nodes as before.
pub record HasFound
    (roads : Roads)
    (answers : ℕ → ℕ → ℕ → ℕ → Type 0)
    (query : Asking)
    (before search : Searched)
    : Type 0 where
  pub arrivals : HasArrivals roads answers query search.answer
  pub answer : before.walks ≡ true → IsAnswer roads answers query search.answer
  pub room : (search.nodes ≡ before.nodes) × (search.walks ≡ before.walks)
