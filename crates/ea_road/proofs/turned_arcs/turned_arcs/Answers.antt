use Rattle.std.proofs.Common.{◌∙◌, refl, [], ◌∷◌, take}
use Rattle.std.proofs.lemmas.List.{map-append}
use Rattle.ea_road.specs.Turned.{turned_arc}
use Rattle.ea_road.proofs.Turning.{one_more}
use Rattle.ea_road.proofs.turned_arcs.turned_arcs.Goals as goal

pub loop-place-preserved : goal.loop-place-preserved
loop-place-preserved c =
    let arcs = c.args.list.now in
    let place = c.loop-place.place in
    c.in_ok-push.ensures.items
    ∙ rw (c.loop-place.invariant, c.turned.ensures, one_more arcs place c.at.result c.at.ensures, map-append turned_arc (take place arcs) (c.at.result ∷ [])) refl
