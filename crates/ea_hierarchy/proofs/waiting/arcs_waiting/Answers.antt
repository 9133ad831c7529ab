use Rattle.std.proofs.Common.{arith, ap, subst, sym, ◌∙◌, ◌+◌, ◌≡◌}
use Rattle.std.specs.Prelude.{slice_get, slice_index}
use Rattle.ea_road.proofs.Arcs.{arc_found}
use Rattle.ea_road.specs.Roads.{FitsNodes}
use Rattle.ea_hierarchy.specs.Waiting.{lower_end, lower_ends}
use Rattle.ea_hierarchy.proofs.Listing.{map_at}
use Rattle.ea_hierarchy.proofs.waiting.arcs_waiting.Goals as goal

pub lower_end-requires-clause-arc : goal.lower_end-requires-clause-arc
lower_end-requires-clause-arc c =
    let roads = c.args.network.now in
    let found = ap (λ xs. slice_get xs c.loop-place.place) (sym c.arcs-arcs.ensures.arcs) ∙ c.at.ensures in
    subst (λ n. FitsNodes n c.at.result) (sym c.nodes-nodes.ensures.nodes) (c.arcs-arcs.ensures.network.each_fits (c.loop-place.place + 1) c.at.result (arc_found roads c.loop-place.place c.at.result found))

pub loop-place-preserved : goal.loop-place-preserved
loop-place-preserved c =
    let roads = c.args.network.now in
    let ranks = c.args.ranks.now in
    let found = ap (λ xs. slice_get xs c.loop-place.place) (sym c.arcs-arcs.ensures.arcs) ∙ c.at.ensures in
    let at : slice_index (lower_ends ranks roads.arcs) c.loop-place.place ≡ c.lower_end.result = map_at (lower_end ranks) roads.arcs c.loop-place.place c.at.result found ∙ sym c.lower_end.ensures.end in
    record {
      room = c.in_ok-add.ensures.ranks ∙ c.loop-place.invariant.room;
      count = omega (arith, c.in_ok-add.ensures.count, c.loop-place.invariant.count);
      waiting = c.in_ok-add.ensures.waiting (lower_ends ranks roads.arcs) c.loop-place.invariant.waiting (ap (slice_index (lower_ends ranks roads.arcs)) c.loop-place.invariant.count ∙ at);
    }
