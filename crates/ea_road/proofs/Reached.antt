-- What is reached: from a source, by one more arc, and only nodes.
use Rattle.std.proofs.Common.{◌≡◌, ℕ, ◌≤◌, List, [], ◌∷◌, ◌++◌, subst}
use Rattle.std.specs.List.{IsAmong}
use Rattle.ea_base.specs.declared.limits.TheConstants.{HORIZON}
use Rattle.ea_road.specs.declared.arc.Arc.{Arc}
use Rattle.ea_road.specs.declared.source.Source.{Source}
use Rattle.ea_road.specs.Roads.{Roads, IsArc, IsNode, IsNetwork}
use Rattle.ea_road.specs.Arrivals.{Arrives, stays, goes, Reaches}

-- an arc extends a walk to a pair that is reached
pub reaches_more : (roads : Roads) (answers : ℕ → ℕ → ℕ → ℕ → Type 0) (sources : List Source) (node time number head arrival : ℕ) (arc : Arc) → Reaches roads answers sources node time → IsArc roads number arc → arc.tail ≡ node → arc.head ≡ head → answers arc.class arc.weight time arrival → arrival ≤ HORIZON → Reaches roads answers sources head arrival
reaches_more roads answers sources node time number head arrival arc reaches is_arc tail is_head answer within = record {
  source = reaches.source;
  walk = reaches.walk ++ number ∷ [];
  among = reaches.among;
  arrives = subst (λ h. Arrives roads answers reaches.source.node reaches.source.departure (reaches.walk ++ number ∷ []) h arrival) is_head (goes reaches.arrives reaches.within is_arc tail answer);
  within = within;
}

-- a source is reached at its departure
pub reaches_source : (roads : Roads) (answers : ℕ → ℕ → ℕ → ℕ → Type 0) (sources : List Source) (source : Source) → IsAmong sources source → source.departure ≤ HORIZON → Reaches roads answers sources source.node source.departure
reaches_source roads answers sources source among within = record {
  source = source;
  walk = [];
  among = among;
  arrives = stays;
  within = within;
}

-- what is reached is a node
module _ (roads : Roads) (answers : ℕ → ℕ → ℕ → ℕ → Type 0) (network : IsNetwork roads) where
  arrives_node : {start departure node time : ℕ} {walk : List ℕ} → IsNode roads.nodes start → Arrives roads answers start departure walk node time → IsNode roads.nodes node
  arrives_node from stays = from
  arrives_node from (goes {node} {time} {number} {arrival} {arc} before inside is_arc tail answer) = (network.each_fits number arc is_arc).head

  pub reaches_node : (sources : List Source) (node time : ℕ) → ((source : Source) → IsAmong sources source → IsNode roads.nodes source.node) → Reaches roads answers sources node time → IsNode roads.nodes node
  reaches_node sources node time starts reaches = arrives_node (starts reaches.source reaches.among) reaches.arrives
