use Rattle.std.proofs.Common.{ap, arith, length, subst, sym, ◌-◌, ◌+◌, ◌≡◌, ◌∙◌}
use Rattle.std.specs.Prelude.{slice_get}
use Rattle.ea_road.proofs.Arcs.{arc_found}
use Rattle.ea_road.specs.Roads.{FitsNodes}
use Rattle.ea_hierarchy.proofs.Covering.{joined_more, number_to}
use Rattle.ea_hierarchy.proofs.joined.are_joined.Goals as goal

pub is_joined-requires-clause-arc : goal.is_joined-requires-clause-arc
is_joined-requires-clause-arc c =
    let roads = c.args.network.now in
    let found = ap (λ xs. slice_get xs c.loop-place.place) (sym c.arcs-arcs.ensures.arcs) ∙ c.at.ensures in
    let same : roads.nodes ≡ length c.args.upward.now.firsts.items - 1 = omega (arith, c.requires.nodes) in
    subst (λ n. FitsNodes n c.at.result) same (c.arcs-arcs.ensures.network.each_fits (c.loop-place.place + 1) c.at.result (arc_found roads c.loop-place.place c.at.result found))

pub returns-then-not-is_joined-clause-none : goal.returns-then-not-is_joined-clause-none
returns-then-not-is_joined-clause-none c = λ is joined.
    let roads = c.args.network.now in
    let found = ap (λ xs. slice_get xs c.loop-place.place) (sym c.arcs-arcs.ensures.arcs) ∙ c.at.ensures in
    c.is_joined.ensures.none c.if-not-is_joined.true (joined (c.loop-place.place + 1) c.at.result (arc_found roads c.loop-place.place c.at.result found))

pub loop-place-preserved : goal.loop-place-preserved
loop-place-preserved c =
    let found = ap (λ xs. slice_get xs c.loop-place.place) (sym c.arcs-arcs.ensures.arcs) ∙ c.at.ensures in
    joined_more c.args.network.now c.args.ranks.now c.args.upward.now.firsts.items c.args.upward.now.heads.items c.loop-place.place c.at.result found (c.is_joined.ensures.is c.if-not-is_joined.false) c.loop-place.invariant

pub returns-clause-is : goal.returns-clause-is
returns-clause-is c = λ is number arc is_arc.
    let same : length c.arcs-arcs.result.now ≡ length c.args.network.now.arcs = ap (λ xs. length xs) c.arcs-arcs.ensures.arcs in
    c.loop-place.invariant number arc (omega (arith, number_to c.args.network.now number arc is_arc, same)) is_arc
