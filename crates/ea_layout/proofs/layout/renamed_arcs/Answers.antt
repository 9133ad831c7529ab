use Rattle.std.proofs.Common.{refl, [], ◌∷◌, take}
use Rattle.std.proofs.lemmas.List.{map-append}
use Rattle.ea_road.proofs.Arcs.{fits_found}
use Rattle.ea_road.proofs.Turning.{one_more}
use Rattle.ea_layout.specs.Renamed.{renamed_arc}
use Rattle.ea_layout.proofs.layout.renamed_arcs.Goals as goal

pub renamed-requires-clause-tail : goal.renamed-requires-clause-tail
renamed-requires-clause-tail c =
    let network = c.args.network.now in
    let fits = fits_found network.nodes network.arcs c.loop-place.place c.at.result c.arcs-list.ensures.network (rw c.arcs-list.ensures.arcs at c.at.ensures) in
    rw c.requires fits.tail

pub renamed-requires-clause-head : goal.renamed-requires-clause-head
renamed-requires-clause-head c =
    let network = c.args.network.now in
    let fits = fits_found network.nodes network.arcs c.loop-place.place c.at.result c.arcs-list.ensures.network (rw c.arcs-list.ensures.arcs at c.at.ensures) in
    rw c.requires fits.head

pub loop-place-preserved : goal.loop-place-preserved
loop-place-preserved c =
    let arcs = c.arcs-list.result.now in
    let place = c.loop-place.place in
    rw (c.in_ok-push.ensures.items, c.loop-place.invariant, c.renamed.ensures, one_more arcs place c.at.result c.at.ensures, map-append (renamed_arc c.args.places.now) (take place arcs) (c.at.result ∷ [])) refl
