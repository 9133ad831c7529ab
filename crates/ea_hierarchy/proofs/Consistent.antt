-- Bounds are consistent along the arcs of a network, and so at most the travel time of each walk.
use Rattle.std.proofs.Common.{◌≡◌, ℕ, ◌+◌, ◌-◌, ◌<◌, ◌≤◌, ◌⊎◌, inl, inr, ap, subst, arith, List, length, min}
use Rattle.std.specs.Prelude.{slice_index}
use Rattle.std.proofs.lemmas.Bool.Decides.{leb_tells}
use Rattle.ea_base.specs.declared.limits.TheConstants.{HORIZON}
use Rattle.ea_road.specs.Arrivals.{Arrives, stays, goes as extends}
use Rattle.ea_road.specs.Roads.{FitsNodes, IsArc, IsNetwork, Roads}
use Rattle.ea_road.specs.declared.arc.Arc.{Arc}
use Rattle.ea_hierarchy.specs.Bounds.{AreBoundsTo, Takes, bound_of}
use Rattle.ea_hierarchy.specs.Bounds.Takes.{ends, goes}
use Rattle.ea_hierarchy.specs.Cells.{reach_of}
use Rattle.ea_hierarchy.specs.Hierarchies.{Hierarchy, IsCovered, IsHierarchy, rank_of}
use Rattle.ea_hierarchy.specs.Numbers.{plus}
use Rattle.ea_hierarchy.specs.Potentials.{potential}
use Rattle.ea_hierarchy.specs.Preparations.{IsPreparedFor}
use Rattle.ea_hierarchy.specs.declared.bounds.Bounds.{Bounds}
use Rattle.ea_hierarchy.specs.declared.numbers.TheConstants.{MOST, NONE}
use Rattle.ea_hierarchy.proofs.Potential.{to_arc, to_arc_down, to_reach}
use Rattle.ea_hierarchy.proofs.Sums.{plus_finite, plus_grows}

module _ (roads : Roads) (network : IsNetwork roads) (hierarchy : Hierarchy) (is : IsHierarchy hierarchy) (nodes_are : length hierarchy.firsts ≡ roads.nodes + 1) (target : ℕ) (target_from : 0 < target) (target_to : target ≤ roads.nodes) (bounds : Bounds) (are : AreBoundsTo hierarchy target bounds) where
  abbrev reach : ℕ → ℕ
  reach = reach_of bounds.cells.aim bounds.cells.list.items

  abbrev count : ℕ
  count = length hierarchy.firsts - 1

  abbrev bound_at : ℕ → ℕ
  bound_at rank = potential hierarchy.firsts hierarchy.heads hierarchy.ups reach count rank

  rank_below : (node : ℕ) → 0 < node → node ≤ roads.nodes → rank_of hierarchy.ranks node < count
  rank_below node from to = is.ranks.below (node - 1) (omega (arith, from, to, nodes_are))

  -- along an arc, by any number that covers it
  over_arc : (arc : Arc) (low : ℕ) → FitsNodes roads.nodes arc → IsCovered hierarchy.ranks hierarchy.firsts hierarchy.heads hierarchy.ups hierarchy.downs arc low → bound_of hierarchy bounds arc.tail ≤ plus (min low MOST) (bound_of hierarchy bounds arc.head) ⊎ (bound_of hierarchy bounds arc.tail ≡ bound_of hierarchy bounds arc.head)
  over_arc arc low fits covered = elim (leb_tells (rank_of hierarchy.ranks arc.tail) (rank_of hierarchy.ranks arc.head)) [
    | inl up ↦ elim (leb_tells (rank_of hierarchy.ranks arc.head) (rank_of hierarchy.ranks arc.tail)) [
      | inl down ↦ inr (ap (λ r. bound_at r) (omega (arith, up.1, down.1)))
      | inr strict ↦
          let found = covered.up strict.1 in
          let over = to_arc count hierarchy.firsts hierarchy.heads hierarchy.ups is.upward reach (rank_of hierarchy.ranks arc.tail) found.0 (rank_below arc.tail fits.tail.from_one fits.tail.to_last) found.1.is_from in
          let over_to : bound_of hierarchy bounds arc.tail ≤ plus (slice_index hierarchy.ups found.0) (bound_of hierarchy bounds arc.head) = subst (λ r. bound_of hierarchy bounds arc.tail ≤ plus (slice_index hierarchy.ups found.0) (bound_at r)) found.1.head over in
          inl (omega (arith, over_to, plus_grows (slice_index hierarchy.ups found.0) (bound_of hierarchy bounds arc.head) (min low MOST) (bound_of hierarchy bounds arc.head) found.2 (omega arith)))
    ]
    | inr down ↦
        let found = covered.down down.1 in
        let over = to_arc_down count hierarchy.firsts hierarchy.heads hierarchy.ups is.upward reach hierarchy.downs is.triangles (rank_of hierarchy.ranks target) are.reach (rank_of hierarchy.ranks arc.head) found.0 (rank_below arc.head fits.head.from_one fits.head.to_last) found.1.is_from in
        let over_to : bound_of hierarchy bounds arc.tail ≤ plus (slice_index hierarchy.downs found.0) (bound_of hierarchy bounds arc.head) = subst (λ r. bound_at r ≤ plus (slice_index hierarchy.downs found.0) (bound_of hierarchy bounds arc.head)) found.1.head over in
        inl (omega (arith, over_to, plus_grows (slice_index hierarchy.downs found.0) (bound_of hierarchy bounds arc.head) (min low MOST) (bound_of hierarchy bounds arc.head) found.2 (omega arith)))
  ]

  -- along an arc, if the target is reached from its head
  pub along : (arc : Arc) (low : ℕ) → FitsNodes roads.nodes arc → IsCovered hierarchy.ranks hierarchy.firsts hierarchy.heads hierarchy.ups hierarchy.downs arc low → bound_of hierarchy bounds arc.head < NONE
      → (bound_of hierarchy bounds arc.tail < NONE) × (bound_of hierarchy bounds arc.tail ≤ low + bound_of hierarchy bounds arc.head)
  along arc low fits covered some = elim (over_arc arc low fits covered) [
    | inl over ↦ let finite = plus_finite low (bound_of hierarchy bounds arc.head) some in (omega (arith, over, finite.0), omega (arith, over, finite.1))
    | inr same ↦ (omega (arith, same, some), omega (arith, same))
  ]

  pub at_target : bound_of hierarchy bounds target ≡ 0
  at_target = omega (arith, to_reach count hierarchy.firsts hierarchy.heads hierarchy.ups is.upward reach (rank_of hierarchy.ranks target) (rank_below target target_from target_to), are.reach.at_target)

  -- the sum of least travel times over a walk
  pub sums : (node sum : ℕ) → Takes roads hierarchy target node sum → (bound_of hierarchy bounds node < NONE) × (bound_of hierarchy bounds node ≤ sum)
  sums node sum ends = (omega (arith, at_target), omega (arith, at_target))
  sums node sum (goes {number = number} {low = low} {sum = rest} {arc = arc} is_arc covered walk) =
      let before = sums arc.head rest walk in
      let next = along arc low (network.each_fits number arc is_arc) covered before.0 in
      (next.0, omega (arith, next.1, before.1))

  module _ (answers : ℕ → ℕ → ℕ → ℕ → Type 0) (prepared : IsPreparedFor roads answers hierarchy) where
    -- along an arc that is left at a departure
    pub along_time : (number departure arrival : ℕ) (arc : Arc) → IsArc roads number arc → departure ≤ HORIZON → arrival ≤ HORIZON → answers arc.class arc.weight departure arrival → bound_of hierarchy bounds arc.head < NONE
        → (bound_of hierarchy bounds arc.tail < NONE) × (departure + bound_of hierarchy bounds arc.tail ≤ arrival + bound_of hierarchy bounds arc.head)
    along_time number departure arrival arc is_arc from within answer some =
        let low = prepared.covered number arc is_arc in
        let next = along arc low.low (network.each_fits number arc is_arc) low.covered some in
        (next.0, omega (arith, next.1, low.bounds.bounds departure arrival from within answer))

    walk_time : (start departure node time : ℕ) (walk : List ℕ) → Arrives roads answers start departure walk node time → time ≤ HORIZON → bound_of hierarchy bounds node < NONE
        → (bound_of hierarchy bounds start < NONE) × (departure + bound_of hierarchy bounds start ≤ time + bound_of hierarchy bounds node)
    walk_time start departure node time walk stays within some = (some, omega arith)
    walk_time start departure node time walk (extends {node = before} {time = left} {number = number} {arrival = arrival} {arc = arc} rest left_within is_arc is_tail answer) within some =
        let last = along_time number left time arc is_arc left_within within answer some in
        let at : bound_of hierarchy bounds arc.tail ≡ bound_of hierarchy bounds before = ap (λ n. bound_of hierarchy bounds n) is_tail in
        let early = walk_time start departure before left _ rest left_within (omega (arith, last.0, at)) in
        (early.0, omega (arith, early.1, last.1, at))

    -- a walk to the target
    pub to_target : (start departure arrival : ℕ) (walk : List ℕ) → Arrives roads answers start departure walk target arrival → arrival ≤ HORIZON → (bound_of hierarchy bounds start < NONE) × (departure + bound_of hierarchy bounds start ≤ arrival)
    to_target start departure arrival walk arrives within =
        let is = walk_time start departure target arrival walk arrives within (omega (arith, at_target)) in
        (is.0, omega (arith, is.1, at_target))
