-- What is known of an arc of a network.
use Rattle.std.proofs.Common.{◌≡◌, ℕ, zero, suc, ◌+◌, ◌-◌, ◌<◌, ◌≤◌, List, [], ◌∷◌, length, get_or, arith, subst}
use Rattle.std.specs.Prelude.{Some, slice_get}
use Rattle.std.proofs.lemmas.Option.{slice_get-get_or, get_or_from_slice_get}
use Rattle.ea_base.specs.declared.limits.TheConstants.{HORIZON}
use Rattle.ea_road.specs.declared.arc.Arc.{Arc}
use Rattle.ea_travel_times.specs.Answers.{IsQuestion}
use Rattle.ea_road.specs.Roads.{Roads, IsArc, IsNetwork, FitsNodes, top_class}

pub arc_inside : (arcs : List Arc) (place : ℕ) (arc : Arc) → slice_get arcs place ≡ Some arc → place < length arcs
arc_inside [] place arc found = cc
arc_inside (first ∷ arcs) zero arc found = omega arith
arc_inside (first ∷ arcs) (suc place) arc found = omega (arith, arc_inside arcs place arc found)

pub class-le-top_class : (arcs : List Arc) (place : ℕ) (arc : Arc) → slice_get arcs place ≡ Some arc → arc.class ≤ top_class arcs
class-le-top_class [] place arc found = cc
class-le-top_class (first ∷ arcs) zero arc found = let e : first ≡ arc = cc in omega (arith, class_of e)
  where
    class_of : {a b : Arc} → a ≡ b → a.class ≡ b.class
    class_of e = cc
class-le-top_class (first ∷ arcs) (suc place) arc found = omega (arith, class-le-top_class arcs place arc found)

pub is_question : (roads : Roads) (classes number departure : ℕ) (arc : Arc) → IsNetwork roads → top_class roads.arcs ≤ classes → IsArc roads number arc → departure ≤ HORIZON → IsQuestion classes arc.class arc.weight departure
is_question roads classes number departure arc network classed is_arc within = record {
  of_class = omega (arith, class-le-top_class roads.arcs (number - 1) arc is_arc.found);
  of_weight = (network.each_fits number arc is_arc).weight;
  within = within;
}

-- the arc at a place of the list
pub arc_at : (roads : Roads) (place : ℕ) (default : Arc) → place < length roads.arcs → IsArc roads (place + 1) (get_or roads.arcs place default)
arc_at roads place default inside =
    let same : place + 1 - 1 ≡ place = omega arith in
    record { from_one = omega arith; found = rw same (slice_get-get_or roads.arcs place default inside) }

pub fits_at : (roads : Roads) (place : ℕ) (default : Arc) → IsNetwork roads → place < length roads.arcs → FitsNodes roads.nodes (get_or roads.arcs place default)
fits_at roads place default network inside = network.each_fits (place + 1) _ (arc_at roads place default inside)

-- the arc that was found at a place of the list
pub arc_found : (roads : Roads) (place : ℕ) (arc : Arc) → slice_get roads.arcs place ≡ Some arc → IsArc roads (place + 1) arc
arc_found roads place arc found =
    let same : place + 1 - 1 ≡ place = omega arith in
    record { from_one = omega arith; found = rw same found }

pub fits_found : (nodes : ℕ) (arcs : List Arc) (place : ℕ) (arc : Arc) → IsNetwork (record { nodes = nodes; arcs = arcs }) → slice_get arcs place ≡ Some arc → FitsNodes nodes arc
fits_found nodes arcs place arc network found = network.each_fits (place + 1) arc (arc_found (record { nodes = nodes; arcs = arcs }) place arc found)

pub tails_from_one : (roads : Roads) → IsNetwork roads → (place : ℕ) (arc : Arc) → slice_get roads.arcs place ≡ Some arc → 0 < arc.tail
tails_from_one roads network place arc found =
    let same : place + 1 - 1 ≡ place = omega arith in
    (network.each_fits (place + 1) arc (record { from_one = omega arith; found = rw same found })).tail.from_one

-- arcs that fit one by one make a network
pub network_of : (roads : Roads) (default : Arc) → 0 < roads.nodes → roads.nodes ≤ 67108864 → length roads.arcs ≤ 268435456 → ((place : ℕ) → place < length roads.arcs → FitsNodes roads.nodes (get_or roads.arcs place default)) → IsNetwork roads
network_of roads default some few short each = record {
  has_nodes = some;
  nodes_limit = few;
  arcs_limit = short;
  each_fits = λ number arc is_arc.
      let inside : number - 1 < length roads.arcs = arc_inside roads.arcs (number - 1) arc is_arc.found in
      subst (λ (a : Arc). FitsNodes roads.nodes a) (get_or_from_slice_get roads.arcs (number - 1) arc default is_arc.found) (each (number - 1) inside);
}

-- one arc has one number
pub one_arc : (roads : Roads) (number : ℕ) (arc other : Arc) → IsArc roads number arc → IsArc roads number other → arc ≡ other
one_arc roads number arc other this that = let a = this.found in let b = that.found in cc
