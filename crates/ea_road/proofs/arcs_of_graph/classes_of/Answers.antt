use Rattle.std.proofs.Common.{◌≡◌, ◌≢◌, ℕ, ◌-◌, ◌<◌, ◌≤◌, ◌+◌, ◌∙◌, List, length, take, get_or, arith, length-set, get_or-set_same, get_or-set_other, inl, inr, sym}
use Rattle.std.proofs.lemmas.List.{take_more, get_or_default}
use Rattle.ea_road.specs.Assigned.{AreAssigned}
use Rattle.ea_road.proofs.Assigning.{same_class, other_class}
use Rattle.std.proofs.lemmas.Bool.Decides.{eqb_tells}
use Rattle.ea_road.proofs.arcs_of_graph.classes_of.Goals as goal

abbrev none : ℕ × ℕ
none = (0, 0)

in_range : (arcs : ℕ) (assigned : List (ℕ × ℕ)) (place : ℕ) → AreAssigned arcs assigned → place < length assigned → (0 < (get_or assigned place none).0) × ((get_or assigned place none).0 ≤ arcs)
in_range arcs assigned place are inside =
    are (get_or assigned place none) (place, (inside, get_or_default assigned place none (get_or assigned place none) inside))

pub overflow_sub-number : goal.overflow_sub-number
overflow_sub-number c = (in_range _ c.args.assigned.now c.loop-number.number-index c.requires c.loop-number-test.true).0

pub index_mut-requires : goal.index_mut-requires
index_mut-requires c =
    let range = in_range _ c.args.assigned.now c.loop-number.number-index c.requires c.loop-number-test.true in
    omega (arith, range, c.loop-number.invariant.lengths, c.loop-number.classes.ok.0)

pub loop-number-preserved : goal.loop-number-preserved
loop-number-preserved c =
    let i = c.loop-number.number-index in
    let assigned = c.args.assigned.now in
    let given = get_or assigned i none in
    let range = in_range _ assigned i c.requires c.loop-number-test.true in
    let inv = c.loop-number.invariant in
    let classes = c.loop-number.classes.items in
    let inside : given.0 - 1 < length classes = omega (arith, range, inv.lengths) in
    record {
      lengths = simp length-set inv.lengths;
      assigned = λ place below. rw (take_more assigned i none c.loop-number-test.true) (elim (eqb_tells place (given.0 - 1)) [
        | inl same ↦
            let here : given.0 ≡ place + 1 = omega (arith, same.1, range) in
            rw (← same.1) (get_or-set_same classes place given.1 0 (omega (arith, same.1, inside))) ∙ sym (same_class (take i assigned) given.0 given.1 (place + 1) here)
        | inr other ↦
            let there : given.0 ≢ place + 1 = omega (arith, other.1, range) in
            get_or-set_other classes (given.0 - 1) place given.1 0 other.1 ∙ inv.assigned place below ∙ sym (other_class (take i assigned) given.0 given.1 (place + 1) there)
      ]);
    }
