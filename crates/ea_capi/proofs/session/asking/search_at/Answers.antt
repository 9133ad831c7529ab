use Rattle.std.proofs.Common.{◌≡◌, subst}
use Rattle.std.specs.Prelude.{Contains, IfOk, Ok, Err, Result}
use Rattle.ea_asked.specs.Asked.{HasArrivalsAt, HasFoundAsked}
use Rattle.ea_load.specs.Posed.{times_on}
use Rattle.ea_load.specs.declared.road.Road.{Road}
use Rattle.ea_capi.proofs.session.asking.search_at.Goals as goal

-- what holds of a value holds of what follows
if_ok : {X E : Type 0} (P Q : X → Type 0) → ((x : X) → P x → Q x) → (result : Result X E) → IfOk result P → IfOk result Q
if_ok P Q so (Ok x) is = so x is
if_ok P Q so (Err e) is = tt

pub returns-clause-arrivals : goal.returns-clause-arrivals
returns-clause-arrivals c =
    let road = c.road-road.result.now in
    let found = if_ok (HasFoundAsked road.network (times_on road) c.args.query.now (Contains c.args.list.now) c.in_ok-arrays.arrays.walks) (λ found. HasArrivalsAt road.network (times_on road) c.args.query.now (Contains c.args.list.now) found.answer) (λ search found. found.arrivals) c.find.result c.find.ensures in
    subst (λ (it : Road). IfOk c.find.result (λ found. HasArrivalsAt it.network (times_on it) c.args.query.now (Contains c.args.list.now) found.answer)) c.road-road.ensures found

pub returns-clause-nodes : goal.returns-clause-nodes
returns-clause-nodes c =
    let road = c.road-road.result.now in
    let found = if_ok (HasFoundAsked road.network (times_on road) c.args.query.now (Contains c.args.list.now) c.in_ok-arrays.arrays.walks) (λ found. found.nodes ≡ road.network.nodes) (λ search found. found.room.nodes) c.find.result c.find.ensures in
    subst (λ (it : Road). IfOk c.find.result (λ found. found.nodes ≡ it.network.nodes)) c.road-road.ensures found
