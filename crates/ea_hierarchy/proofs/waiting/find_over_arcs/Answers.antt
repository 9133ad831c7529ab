use Rattle.std.proofs.Common.{arith, ap, sym, ◌∙◌, ◌-◌, ◌≡◌}
use Rattle.std.proofs.lemmas.List.{get_or_default, length-map}
use Rattle.std.specs.Prelude.{slice_get, slice_index}
use Rattle.ea_hierarchy.specs.Waiting.{higher_end, higher_ends, lower_end, lower_ends}
use Rattle.ea_hierarchy.proofs.Listing.{arcs_all, arcs_more, map_at}
use Rattle.ea_hierarchy.proofs.waiting.find_over_arcs.Goals as goal

pub loop-number-preserved : goal.loop-number-preserved
loop-number-preserved c =
    let roads = c.args.network.now in
    let ranks = c.args.ranks.now in
    let earlier = c.args.arcs.now.earlier.items in
    let place = c.loop-number.number - 1 in
    let found = ap (λ xs. slice_get xs place) (sym c.arcs-list.ensures.arcs) ∙ c.at.ensures in
    let high : c.higher_end.result ≡ slice_index (higher_ends ranks roads.arcs) place = c.higher_end.ensures.end ∙ sym (map_at (higher_end ranks) roads.arcs place c.at.result found) in
    let next : c.index-number-in-loop-number.result.now ≡ slice_index earlier place = c.index-number-in-loop-number.ensures ∙ get_or_default earlier place c.index-number-in-loop-number.result.now 0 (omega (arith, c.loop-number.invariant.walked.to)) in
    rw (next, c.in_ok-push.ensures.items)
    (arcs_more roads.nodes (lower_ends ranks roads.arcs) (higher_ends ranks roads.arcs) c.args.arcs.now.newest.items earlier c.args.found.now.items c.args.rank c.requires.arcs.waiting (omega (arith, c.requires.arcs.room))
    c.loop-number.found.items c.loop-number.number c.higher_end.result (omega arith) high (omega (arith, c.higher_end.ensures.below, c.nodes-nodes.ensures.nodes)) c.loop-number.invariant)

pub returns : goal.returns
returns c =
    let roads = c.args.network.now in
    let ranks = c.args.ranks.now in
    arcs_all roads.nodes (lower_ends ranks roads.arcs) (higher_ends ranks roads.arcs) c.args.arcs.now.newest.items c.args.arcs.now.earlier.items c.args.found.now.items c.args.rank c.requires.arcs.waiting (omega (arith, c.requires.arcs.room))
    c.loop-number.found.items c.loop-number.number (omega arith) (omega (arith, length-map roads.arcs (lower_end ranks), c.requires.arcs.count)) c.loop-number.invariant
