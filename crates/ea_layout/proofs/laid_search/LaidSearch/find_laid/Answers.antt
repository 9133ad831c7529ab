use Rattle.std.proofs.Common.{rules, subst, sym}
use Rattle.ea_layout.proofs.Told.{told_back}
use Rattle.ea_layout.specs.Laid.{CanFindLaid}
use Rattle.ea_layout.specs.Orders.{file_roads}
use Rattle.ea_paths.specs.Searches.{HasFound}
use Rattle.ea_road.specs.Roads.{Roads}
use Rattle.ea_layout.proofs.laid_search.LaidSearch.find_laid.Goals as goal

pub walks-requires-clause-can : goal.walks-requires-clause-can
walks-requires-clause-can g c =
    let told = told_back c.args.network.now c.args.layout.now c.keeps_limits.ensures c.requires.can.laid_out in
    subst (λ (r : Roads). CanFindLaid r (g.T.TravelTimes.answers c.args.times.now) c.args.layout.now (g.T.TravelTimes.classes c.args.times.now) c.args.query.now c.args.self) (sym told) c.requires.can

pub arrivals-requires-clause-can : goal.arrivals-requires-clause-can
arrivals-requires-clause-can g c =
    let told = told_back c.args.network.now c.args.layout.now c.keeps_limits.ensures c.requires.can.laid_out in
    subst (λ (r : Roads). CanFindLaid r (g.T.TravelTimes.answers c.args.times.now) c.args.layout.now (g.T.TravelTimes.classes c.args.times.now) c.args.query.now c.args.self) (sym told) c.requires.can

pub returns-then-self : goal.returns-then-self
returns-then-self g c =
    let told = told_back c.args.network.now c.args.layout.now c.keeps_limits.ensures c.requires.can.laid_out in
    let found : HasFound (file_roads c.args.layout.now) (g.T.TravelTimes.answers c.args.times.now) c.args.query.now c.args.self c.walks.result = search rules in
    subst (λ (r : Roads). HasFound r (g.T.TravelTimes.answers c.args.times.now) c.args.query.now c.args.self c.walks.result) told found

pub returns-else-self : goal.returns-else-self
returns-else-self g c =
    let told = told_back c.args.network.now c.args.layout.now c.keeps_limits.ensures c.requires.can.laid_out in
    let found : HasFound (file_roads c.args.layout.now) (g.T.TravelTimes.answers c.args.times.now) c.args.query.now c.args.self c.arrivals.result = search rules in
    subst (λ (r : Roads). HasFound r (g.T.TravelTimes.answers c.args.times.now) c.args.query.now c.args.self c.arrivals.result) told found
