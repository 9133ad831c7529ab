-- A network whose arcs are turned round is one.
use Rattle.std.proofs.Common.{◌≡◌, ℕ, zero, suc, ◌+◌, ◌-◌, List, [], ◌∷◌, ◌++◌, map, take, refl, ap, arith}
use Rattle.std.specs.Prelude.{Some, max, slice_get}
use Rattle.std.proofs.lemmas.List.{length-map}
use Rattle.ea_base.specs.declared.direction.Direction.{Direction}
use Rattle.ea_base.specs.declared.direction.Direction.TheVariants.{Forward, Turned}
use Rattle.ea_road.specs.declared.arc.Arc.{Arc}
use Rattle.ea_road.specs.Roads.{IsNetwork, Roads, top_class}
use Rattle.ea_road.specs.Turned.{directed_roads, turned_arc, turned_roads}

-- the arc at a place of the turned list is the arc there, turned
pub mapped_back : (arcs : List Arc) (place : ℕ) (arc : Arc) → slice_get (map turned_arc arcs) place ≡ Some arc → slice_get arcs place ≡ Some (turned_arc arc)
mapped_back [] place arc at = cc
mapped_back (first ∷ arcs) zero arc at = let same : turned_arc first ≡ arc = cc in ap (λ a. Some (turned_arc a)) same
mapped_back (first ∷ arcs) (suc place) arc at = mapped_back arcs place arc at

pub one_more : (arcs : List Arc) (place : ℕ) (arc : Arc) → slice_get arcs place ≡ Some arc → take (place + 1) arcs ≡ take place arcs ++ arc ∷ []
one_more [] place arc at = cc
one_more (first ∷ arcs) zero arc at = let same : first ≡ arc = cc in ap (λ a. a ∷ []) same
one_more (first ∷ arcs) (suc place) arc at = let next : suc place + 1 ≡ suc (place + 1) = omega arith in rw next (ap (λ l. first ∷ l) (one_more arcs place arc at))

pub turned_is_network : (roads : Roads) → IsNetwork roads → IsNetwork (turned_roads roads)
turned_is_network roads network = record {
  has_nodes = network.has_nodes;
  nodes_limit = network.nodes_limit;
  arcs_limit = rw (length-map roads.arcs turned_arc) network.arcs_limit;
  each_fits = λ number arc is.
      let fits = network.each_fits number (turned_arc arc) (record { from_one = is.from_one; found = mapped_back roads.arcs (number - 1) arc is.found }) in
      record { tail = fits.head; head = fits.tail; weight = fits.weight };
}

-- neither the classes nor the nodes change
turned_top : (arcs : List Arc) → top_class (map turned_arc arcs) ≡ top_class arcs
turned_top [] = refl
turned_top (arc ∷ arcs) = ap (λ top. max arc.class top) (turned_top arcs)

pub directed_top : (direction : Direction) (roads : Roads) → top_class (directed_roads direction roads).arcs ≡ top_class roads.arcs
directed_top Forward roads = refl
directed_top Turned roads = turned_top roads.arcs

pub directed_is_network : (direction : Direction) (roads : Roads) → IsNetwork roads → IsNetwork (directed_roads direction roads)
directed_is_network Forward roads network = network
directed_is_network Turned roads network = turned_is_network roads network
