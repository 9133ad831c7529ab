-- Labels of a search that is led by bounds of the travel time to a target.
use Rattle.std.specs.Prelude.{◌≡◌, ◌≢◌, ◌⊎◌, ℕ, ◌+◌, ◌<◌, ◌≤◌, List}
use Rattle.std.specs.List.{IsAmong}
use Rattle.ea_base.specs.declared.limits.TheConstants.{HORIZON}
use Rattle.ea_road.specs.declared.TheConstants.{NONE}
use Rattle.ea_road.specs.declared.arc.Arc.{Arc}
use Rattle.ea_road.specs.declared.source.Source.{Source}
use Rattle.ea_road.specs.Arrivals.{Reaches}
use Rattle.ea_road.specs.Labels.{Satisfies}
use Rattle.ea_road.specs.Roads.{IsArc, IsNode, Roads}
use Rattle.ea_hierarchy.specs.declared.numbers.TheConstants.{NONE as NO_WALK}

-- The bounds are 0 at the target, and fall along no arc by more than the arc takes, whenever it is left. NO_WALK is no bound.
pub record AreConsistent (roads : Roads) (answers : ℕ → ℕ → ℕ → ℕ → Type 0) (target : ℕ) (bound : ℕ → ℕ) : Type 0 where
  pub at_target : bound target ≡ 0
  pub along : (number departure arrival : ℕ) (arc : Arc) → IsArc roads number arc → departure ≤ HORIZON → arrival ≤ HORIZON → answers arc.class arc.weight departure arrival → bound arc.head < NO_WALK
      → (bound arc.tail < NO_WALK) × (departure + bound arc.tail ≤ arrival + bound arc.head)

-- A node may be left open: its label and its bound together are above the target's label.
abbrev pub IsBeyond : ℕ → (ℕ → ℕ) → (ℕ → ℕ) → ℕ → Type 0
IsBeyond target bound label node = label target < label node + bound node

-- Each label is reached, and each node with a label is satisfied, beyond the target, or open.
pub record IsLed
    (roads : Roads)
    (answers : ℕ → ℕ → ℕ → ℕ → Type 0)
    (sources : List Source)
    (target : ℕ)
    (bound label : ℕ → ℕ)
    (open_at : ℕ → ℕ → Type 0)
    : Type 0 where
  pub at_sources : (source : Source) → IsAmong sources source → label source.node ≤ source.departure
  pub reached : (node : ℕ) → IsNode roads.nodes node → label node ≢ NONE → Reaches roads answers sources node (label node)
  pub settled : (node : ℕ) → IsNode roads.nodes node → label node ≢ NONE → bound node < NO_WALK → Satisfies roads answers label node (label node) ⊎ (IsBeyond target bound label node ⊎ open_at (label node) node)

-- What a led search leaves: labels that are led by consistent bounds, and no open node.
pub record IsLedTo (roads : Roads) (answers : ℕ → ℕ → ℕ → ℕ → Type 0) (sources : List Source) (target : ℕ) (label : ℕ → ℕ) : Type 0 where
  pub bound : ℕ → ℕ
  pub consistent : AreConsistent roads answers target bound
  pub led : IsLed roads answers sources target bound label (λ time node. ⊥)
