use Rattle.std.proofs.Common.{arith, ap, length, subst, sym, ◌+◌, ◌-◌, ◌≡◌, ◌∙◌}
use Rattle.std.specs.Prelude.{slice_get}
use Rattle.ea_road.proofs.Arcs.{arc_found, is_question}
use Rattle.ea_road.specs.Roads.{FitsNodes}
use Rattle.ea_travel_times.specs.Lows.{IsLowerBound}
use Rattle.ea_hierarchy.proofs.Covering.{covered_more, number_to}
use Rattle.ea_hierarchy.proofs.Relaxing.{numbers_stay}
use Rattle.ea_hierarchy.proofs.cover.cover.Goals as goal

pub low-low-requires : goal.low-low-requires
low-low-requires g c =
    let roads = c.args.network.now in
    let found = ap (λ xs. slice_get xs c.loop-place.place) (sym c.arcs-arcs.ensures.arcs) ∙ c.at-arc.ensures in
    rw c.from.ensures (is_question roads (g.T.TravelTimes.classes c.args.times.now) (c.loop-place.place + 1) 0 c.at-arc.result c.arcs-arcs.ensures.network c.requires.classes (arc_found roads c.loop-place.place c.at-arc.result found) (omega arith))

pub cover_arc-requires-clause-arc : goal.cover_arc-requires-clause-arc
cover_arc-requires-clause-arc g c =
    let roads = c.args.network.now in
    let found = ap (λ xs. slice_get xs c.loop-place.place) (sym c.arcs-arcs.ensures.arcs) ∙ c.at-arc.ensures in
    let same : roads.nodes ≡ length c.args.upward.now.firsts.items - 1 = omega (arith, c.requires.nodes) in
    subst (λ n. FitsNodes n c.at-arc.result) same (c.arcs-arcs.ensures.network.each_fits (c.loop-place.place + 1) c.at-arc.result (arc_found roads c.loop-place.place c.at-arc.result found))

pub cover_arc-requires-clause-joined : goal.cover_arc-requires-clause-joined
cover_arc-requires-clause-joined g c =
    let roads = c.args.network.now in
    let found = ap (λ xs. slice_get xs c.loop-place.place) (sym c.arcs-arcs.ensures.arcs) ∙ c.at-arc.ensures in
    c.requires.joined (c.loop-place.place + 1) c.at-arc.result (arc_found roads c.loop-place.place c.at-arc.result found)

pub loop-place-preserved : goal.loop-place-preserved
loop-place-preserved g c =
    let before = c.loop-place.numbers in
    let after = c.cover_arc.new.numbers in
    let answers = g.T.TravelTimes.answers c.args.times.now in
    let bounds = subst (λ w. IsLowerBound answers c.at-arc.result.class w c.low-low.result) c.from.ensures c.low-low.ensures in
    let heads = c.args.upward.now.heads.items in
    let found = ap (λ xs. slice_get xs c.loop-place.place) (sym c.arcs-arcs.ensures.arcs) ∙ c.at-arc.ensures in
    record {
      numbers = numbers_stay 0 heads before.ups.items before.downs.items after.ups.items after.downs.items c.loop-place.invariant.numbers c.cover_arc.ensures.lowers;
      covered = covered_more answers c.args.ranks.now c.args.upward.now.firsts.items heads c.args.network.now before.ups.items before.downs.items after.ups.items after.downs.items c.loop-place.place c.at-arc.result c.low-low.result found c.cover_arc.ensures.lowers bounds c.cover_arc.ensures.covered c.loop-place.invariant.covered;
    }

pub returns-clause-covered : goal.returns-clause-covered
returns-clause-covered g c = λ number arc is.
    let same : length c.arcs-arcs.result.now ≡ length c.args.network.now.arcs = ap (λ xs. length xs) c.arcs-arcs.ensures.arcs in
    c.loop-place.invariant.covered number arc (omega (arith, number_to c.args.network.now number arc is, same)) is
