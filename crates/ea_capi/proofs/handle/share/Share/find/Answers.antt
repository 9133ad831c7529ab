use Rattle.std.proofs.Common.{subst, sym}
use Rattle.std.specs.Prelude.{IfSome}
use Rattle.ea_load.specs.Posed.{times_on}
use Rattle.ea_load.specs.declared.road.Road.{Road}
use Rattle.ea_paths.specs.Searches.{HasFound}
use Rattle.ea_capi.specs.Shared.{IsLaidFor}
use Rattle.ea_capi.proofs.handle.share.Share.find.Goals as goal

pub find-requires-clause-layout : goal.find-requires-clause-layout
find-requires-clause-layout c =
    subst (λ (r : Road). IfSome c.layout.result (λ it. IsLaidFor r it.now)) (sym c.road-road.ensures) c.layout.ensures.fits

pub returns : goal.returns
returns c =
    subst (λ (r : Road). HasFound r.network (times_on r) c.args.query.now c.args.search c.find.result) c.road-road.ensures c.find.ensures
