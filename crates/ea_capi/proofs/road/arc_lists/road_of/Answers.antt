use Rattle.std.proofs.Common.{rules, ◌∙◌, List, subst}
use Rattle.std.specs.Prelude.{IfErr, IsTrue}
use Rattle.ea_road.specs.declared.arc.Arc.{Arc}
use Rattle.ea_road.specs.Roads.{IsNetwork}
use Rattle.ea_capi.specs.Lists.{AreEven, IsNoRoad, IsNoRoadWith, arc_lists, network_of, no_road}
use Rattle.ea_capi.proofs.Listing.{on_err}
use Rattle.ea_capi.proofs.road.arc_lists.road_of.Goals as goal

pub returns-clause-refused : goal.returns-clause-refused
returns-clause-refused c =
    let lists = arc_lists c.args.lists in
    let tp = c.args.tp.now in
    let even : AreEven lists = search rules in
    let fits : IsTrue c.fits.result = search rules in
    let network : IsNetwork (network_of c.args.nodes lists) =
    subst (λ (arcs : List Arc). IsNetwork (record { nodes = c.args.nodes; arcs = arcs })) (c.deref.ensures.value ∙ c.in-Ok.ensures) (c.fits.ensures.0 fits) in
    on_err (IsNoRoadWith (network_of c.args.nodes lists) tp) (IsNoRoad c.args.nodes lists tp) (λ fault why. no_road even network why) c.road_with.result
    (subst (λ (arcs : List Arc). IfErr c.road_with.result (IsNoRoadWith (record { nodes = c.args.nodes; arcs = arcs }) tp)) c.in-Ok.ensures c.road_with.ensures.refused)
