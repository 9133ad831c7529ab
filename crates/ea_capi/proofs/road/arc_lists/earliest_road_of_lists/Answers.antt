use Rattle.std.proofs.Common.{refl}
use Rattle.ea_capi.specs.Lists.{ArcLists, refused}
use Rattle.ea_capi.proofs.Listing.{of_kept}
use Rattle.ea_capi.proofs.road.arc_lists.earliest_road_of_lists.Goals as goal

pub returns-in-Ok-clause-made : goal.returns-in-Ok-clause-made
returns-in-Ok-clause-made c =
    let lists : ArcLists = record { tails = c.args.tails.now; heads = c.args.heads.now; weights = c.args.weights.now; classes = c.args.classes.now } in
    of_kept c.args.nodes lists c.args.tp.now c.in-Ok.found c.args.road.now.value c.keep-number.new.handle.value c.keep-number.result _ c.in-Ok.ensures.road c.keep-number.ensures c.refusal.ensures

pub returns-in-Err-clause-made : goal.returns-in-Err-clause-made
returns-in-Err-clause-made c = refused c.in-Err.ensures.refused refl
