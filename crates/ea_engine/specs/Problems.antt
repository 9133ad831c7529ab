-- The problem of a run, and the tables and seats of its workers.
use Rattle.std.specs.Prelude.{◌≡◌, ℕ, ◌≤◌, ◌↔◌, List, [], None, All, IfSome}
use Rattle.std.specs.List.{IsAmong}
use Rattle.ea_base.specs.declared.limits.TheConstants.{HORIZON}
use Rattle.ea_road.specs.declared.source.Source.{Source}
use Rattle.ea_road.specs.Arrivals.{Reaches}
use Rattle.ea_road.specs.Queries.{Asking, IsProblem}
use Rattle.ea_road.specs.Roads.{Roads, IsNode, IsNetwork}
use Rattle.ea_pool.specs.declared.heap.entry.Entry.{Entry}

-- A network, the answers of its travel times for a class, a weight and a departure, and a query.
pub record Problem : Type 1 where
  pub network : Roads
  pub answers : ℕ → ℕ → ℕ → ℕ → Type 0
  pub query : Asking

-- No node, no arc, no answer and no source.
abbrev pub no_problem : Problem
no_problem = record {
  network = record { nodes = 0; arcs = [] };
  answers = λ class weight departure arrival. ⊥;
  query = record { sources = []; target = None };
}

-- Sources start within the horizon at nodes of the network.
abbrev pub StartInside : ℕ → List Source → Type 0
StartInside nodes sources = (source : Source) → IsAmong sources source → IsNode nodes source.node × (source.departure ≤ HORIZON)

-- Sources and target are in the network, and the known pairs are those that some walk from a source attains.
pub record IsPosed (known : ℕ → ℕ → Type 0) (problem : Problem) : Type 0 where
  pub network : IsNetwork problem.network
  pub sources_in : StartInside problem.network.nodes problem.query.sources
  pub target_in : IfSome problem.query.target (λ node. IsNode problem.network.nodes node)
  pub names : (node time : ℕ) → known node time ↔ Reaches problem.network problem.answers problem.query.sources node time

-- The same on a network of this many nodes.
pub record IsPosedOn (known : ℕ → ℕ → Type 0) (problem : Problem) (nodes : ℕ) : Type 0 where
  pub posed : IsPosed known problem
  pub nodes_are : nodes ≡ problem.network.nodes

-- The network and the query are the problem's, the travel times give its answers, and the known pairs are
-- those that some walk from a source attains.
pub record IsNamed (known : ℕ → ℕ → Type 0) (problem : Problem) (network : Roads) (answers : ℕ → ℕ → ℕ → ℕ → Type 0) (query : Asking) : Type 0 where
  pub network_is : network ≡ problem.network
  pub query_is : query ≡ problem.query
  pub answers_are : (class weight departure arrival : ℕ) → answers class weight departure arrival ↔ problem.answers class weight departure arrival
  pub names : (node time : ℕ) → known node time ↔ Reaches problem.network problem.answers problem.query.sources node time

-- A call's network, travel times for classes up to a greatest, and query make the problem that `K` names.
pub record IsNamedProblem (known : ℕ → ℕ → Type 0) (problem : Problem) (network : Roads) (answers : ℕ → ℕ → ℕ → ℕ → Type 0) (classes : ℕ) (query : Asking) : Type 0 where
  pub is_problem : IsProblem network classes query
  pub named : IsNamed known problem network answers query

-- Each entry's node is reached at its key.
abbrev pub AreReached : Roads → (ℕ → ℕ → ℕ → ℕ → Type 0) → List Source → List Entry → Type 0
AreReached network answers sources entries = All (λ entry. Reaches network answers sources entry.node entry.key) entries

abbrev pub AreReachedOf : Problem → List Entry → Type 0
AreReachedOf problem entries = AreReached problem.network problem.answers problem.query.sources entries
