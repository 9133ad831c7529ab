-- Arcs stored beside their classes.
use Rattle.std.proofs.Common.{◌≡◌, ◌∙◌, refl, sym, ℕ, zero, suc, ◌+◌, ◌<◌, List, [], ◌∷◌, length, map, get_or, arith, ap}
use Rattle.std.specs.Prelude.{Some, slice_get}
use Rattle.std.proofs.lemmas.Option.{get_or_from_slice_get, slice_get-get_or, slice_get_within}
use Rattle.std.proofs.lemmas.List.{get_or-map}
use Rattle.ea_base.specs.declared.graph.RawArc.{RawArc}
use Rattle.ea_road.specs.declared.arc.Arc.{Arc}
use Rattle.ea_road.specs.ArcLists.{AreOfClasses, arcs_beside, without_class}
use Rattle.ea_road.specs.Assigned.{arcs_from, class_of, classed_arc}

pub length-beside : (classes : List ℕ) (place : ℕ) (raw : List RawArc) → length (arcs_beside classes place raw) ≡ length raw
length-beside classes place [] = refl
length-beside classes place (arc ∷ rest) = let more = length-beside classes (place + 1) rest in omega arith

-- the arc at a place of the list
pub beside_at : (classes : List ℕ) (from : ℕ) (raw : List RawArc) (place class : ℕ) (none : RawArc) → place < length raw → class ≡ get_or classes (from + place) 0 → slice_get (arcs_beside classes from raw) place ≡ Some (classed_arc (get_or raw place none) class)
beside_at classes from [] place class none inside is = absurd (omega arith)
beside_at classes from (arc ∷ rest) zero class none inside is =
    let here : from + 0 ≡ from = omega arith in
    ap (λ c. Some (classed_arc arc c)) (sym (is ∙ ap (λ n. get_or classes n 0) here))
beside_at classes from (arc ∷ rest) (suc place) class none inside is =
    let there : from + suc place ≡ from + 1 + place = omega arith in
    beside_at classes (from + 1) rest place class none (omega (arith, inside)) (is ∙ ap (λ n. get_or classes n 0) there)

abbrev pub no_raw : RawArc
no_raw = record { tail = 0; head = 0; weight = 0 }

-- the arc at a place of the whole list
pub found_at : (classes : List ℕ) (raw : List RawArc) (place : ℕ) → place < length raw → slice_get (arcs_beside classes 0 raw) place ≡ Some (classed_arc (get_or raw place no_raw) (get_or classes place 0))
found_at classes raw place inside =
    let here : place ≡ 0 + place = omega arith in
    beside_at classes 0 raw place (get_or classes place 0) no_raw inside (ap (λ n. get_or classes n 0) here)

pub read_at : (classes : List ℕ) (raw : List RawArc) (place : ℕ) (none : Arc) → place < length raw → get_or (arcs_beside classes 0 raw) place none ≡ classed_arc (get_or raw place no_raw) (get_or classes place 0)
read_at classes raw place none inside = get_or_from_slice_get (arcs_beside classes 0 raw) place _ none (found_at classes raw place inside)

-- if the classes are those that are assigned
pub beside_assigned : (classes : List ℕ) (assigned : List (ℕ × ℕ)) (from : ℕ) (raw : List RawArc) → ((place : ℕ) → place < length raw → get_or classes (from + place) 0 ≡ class_of assigned (from + place + 1)) → arcs_beside classes from raw ≡ arcs_from assigned (from + 1) raw
beside_assigned classes assigned from [] each = refl
beside_assigned classes assigned from (arc ∷ rest) each =
    let here : from + 0 ≡ from = omega arith in
    let one : get_or classes from 0 ≡ class_of assigned (from + 1) = rw here at (each 0 (omega arith)) in
    let more = beside_assigned classes assigned (from + 1) rest (λ place inside.
    let there : from + suc place ≡ from + 1 + place = omega arith in
    rw there at (each (suc place) (omega (arith, inside)))) in
    ap (λ c. classed_arc arc c ∷ arcs_beside classes (from + 1) rest) one ∙ ap (λ others. classed_arc arc (class_of assigned (from + 1)) ∷ others) more

pub all_assigned : (classes : List ℕ) (assigned : List (ℕ × ℕ)) (raw : List RawArc) → ((place : ℕ) → place < length raw → get_or classes place 0 ≡ class_of assigned (place + 1)) → arcs_beside classes 0 raw ≡ arcs_from assigned 1 raw
all_assigned classes assigned raw each = beside_assigned classes assigned 0 raw (λ place inside. rw (none place) (each place inside))
  where
    none : (place : ℕ) → 0 + place ≡ place
    none place = omega arith

abbrev no_arc : Arc
no_arc = record { tail = 0; head = 0; weight = 0; class = 0 }

abbrev pub class_in : Arc → ℕ
class_in arc = arc.class

-- if the classes are those of arcs
pub beside_of : (classes : List ℕ) (from : ℕ) (arcs : List Arc) (none : Arc) → ((place : ℕ) → place < length arcs → get_or classes (from + place) 0 ≡ (get_or arcs place none).class) → arcs_beside classes from (map without_class arcs) ≡ arcs
beside_of classes from [] none each = refl
beside_of classes from (arc ∷ rest) none each =
    let here : from + 0 ≡ from = omega arith in
    let one : get_or classes from 0 ≡ arc.class = rw here at (each 0 (omega arith)) in
    let more = beside_of classes (from + 1) rest none (λ place inside.
    let there : from + suc place ≡ from + 1 + place = omega arith in
    rw there at (each (suc place) (omega (arith, inside)))) in
    ap (λ c. classed_arc (without_class arc) c ∷ arcs_beside classes (from + 1) (map without_class rest)) one ∙ ap (λ others. arc ∷ others) more

-- if the classes are those of arcs, none outside the list
pub all_of : (classes : List ℕ) (arcs : List Arc) → AreOfClasses classes arcs → arcs_beside classes 0 (map without_class arcs) ≡ arcs
all_of classes arcs each = beside_of classes 0 arcs no_arc (λ place inside. rw (zero_more place) (each place (get_or arcs place no_arc) (slice_get-get_or arcs place no_arc inside)))
  where
    zero_more : (place : ℕ) → 0 + place ≡ place
    zero_more place = omega arith

-- the classes of all arcs, one for each
pub of_classes : (arcs : List Arc) → AreOfClasses (map class_in arcs) arcs
of_classes arcs place arc found =
    get_or-map class_in arcs place no_arc 0 (slice_get_within arcs place arc found)
    ∙ ap class_in (get_or_from_slice_get arcs place arc no_arc found)
