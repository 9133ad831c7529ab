use Rattle.std.proofs.Common.{take, get_or, arith}
use Rattle.std.proofs.lemmas.List.{take_more}
use Rattle.ea_road.specs.Arrivals.{stays}
use Rattle.ea_road.proofs.WalkLaws.{arrives_more, stops}
use Rattle.ea_road.proofs.walk.run_walk.Goals as goal

pub loop-number-init : goal.loop-number-init
loop-number-init g c = record { arrives = stays; within = c.requires.departure }

pub loop-number-preserved : goal.loop-number-preserved
loop-number-preserved g c =
    let i = c.loop-number.number-index in
    let walk = c.args.walk.now in
    let inv = c.loop-number.invariant in
    let on = c.in-Some.ensures.outcome in
    record {
      arrives = rw (take_more walk i 0 (omega arith)) (arrives_more c.args.network.now _ 0 c.args.start c.args.departure (take i walk) c.loop-number.node c.loop-number.time (get_or walk i 0) c.in-Some.head c.in-Some.arrival inv.arrives inv.within on.0);
      within = on.1;
    }

pub returns-in_default : goal.returns-in_default
returns-in_default g c =
    let it = c.requires in
    let inv = c.loop-number.invariant in
    stops c.args.network.now _ (g.T.TravelTimes.classes c.args.times.now) c.args.start c.args.departure c.go_on.ensures.network it.classes (g.met.T.TravelTimes.fifo c.args.times.now) c.args.walk.now c.loop-number.number-index c.loop-number.node c.loop-number.time (omega arith) inv.arrives c.in_default.ensures.outcome
