use Rattle.std.proofs.Common.{arith, rules, subst, ℕ, List, get_or}
use Rattle.std.proofs.lemmas.Option.{slice_get-get_or}
use Rattle.ea_road.specs.Roads.{AreSideBySide, leaving, with_tail}
use Rattle.ea_road.specs.declared.arc.Arc.{Arc}
use Rattle.ea_road.specs.declared.leaving_arc.LeavingArc.{LeavingArc}
use Rattle.ea_road.proofs.ByTail.{arc_beside}
use Rattle.ea_goal.proofs.Reaching.{reached_none, reached_then}
use Rattle.ea_goal.proofs.Scanning.{scans_all, scans_more, scans_none}
use Rattle.ea_asked.specs.Open.{no_bound}
use Rattle.ea_asked.specs.Seeking.{FollowsFor}
use Rattle.ea_asked.proofs.search.Underway.scan.Goals as goal

abbrev none : LeavingArc
none = record { head = 0; weight = 0; class = 0 }

pub loop-place-init : goal.loop-place-init
loop-place-init g c = record {
  reached = reached_none c.args.self.now.table;
  scans = λ target from. scans_none c.args.network.now (g.T.TravelTimes.answers c.args.times.now) target no_bound c.args.self.now.table.labels.items c.args.self.now.frontier c.args.node c.args.departure c.leaving.result.arcs.now;
}

pub follow-requires-clause-arc : goal.follow-requires-clause-arc
follow-requires-clause-arc g c =
    let is = arc_beside c.args.network.now c.args.node c.leaving.result.numbers.now c.leaving.result.arcs.now c.loop-place.place none c.leaving.ensures.arcs c.loop-place-test.true in
    (get_or c.leaving.result.numbers.now c.loop-place.place 0, rw c.with_tail-arc.ensures is)

pub loop-place-preserved : goal.loop-place-preserved
loop-place-preserved g c =
    let roads = c.args.network.now in
    let answers = g.T.TravelTimes.answers c.args.times.now in
    let arcs = c.leaving.result.arcs.now in
    let place = c.loop-place.place in
    let so_far = c.loop-place.invariant in
    let beside : AreSideBySide roads c.args.node (leaving roads c.args.node) arcs = subst (λ (xs : List ℕ). AreSideBySide roads c.args.node xs arcs) c.leaving.ensures.numbers c.leaving.ensures.arcs in
    let here : LeavingArc = get_or arcs place none in
    let found = slice_get-get_or arcs place none c.loop-place-test.true in
    let is = arc_beside roads c.args.node c.leaving.result.numbers.now arcs place none c.leaving.ensures.arcs c.loop-place-test.true in
    let follows : FollowsFor answers c.loop-place.self.table.labels.items c.loop-place.self.frontier c.follow.new.self.table.labels.items c.follow.new.self.frontier (with_tail here c.args.node) c.args.departure =
    subst (λ (a : Arc). FollowsFor answers c.loop-place.self.table.labels.items c.loop-place.self.frontier c.follow.new.self.table.labels.items c.follow.new.self.frontier a c.args.departure) c.with_tail-arc.ensures c.in_ok-follow.ensures.done in
    record {
      reached = reached_then c.args.self.now.table c.loop-place.self.table c.follow.new.self.table so_far.reached c.follow.ensures.reached;
      scans = λ target from. scans_more roads c.keeps_limits.ensures answers target no_bound from c.args.node c.args.departure arcs beside c.args.self.now.table.labels.items c.loop-place.self.table.labels.items c.follow.new.self.table.labels.items c.args.self.now.frontier c.loop-place.self.frontier c.follow.new.self.frontier place (get_or c.leaving.result.numbers.now place 0) here found is (so_far.scans target from) (follows target from);
    }

pub returns : goal.returns
returns g c =
    let roads = c.args.network.now in
    let arcs = c.leaving.result.arcs.now in
    let beside : AreSideBySide roads c.args.node (leaving roads c.args.node) arcs = subst (λ (xs : List ℕ). AreSideBySide roads c.args.node xs arcs) c.leaving.ensures.numbers c.leaving.ensures.arcs in
    record {
      reached = c.loop-place.invariant.reached;
      done = λ target from. scans_all roads c.keeps_limits.ensures (g.T.TravelTimes.answers c.args.times.now) target no_bound from c.args.node c.args.departure arcs beside c.args.self.now.table.labels.items c.loop-place.self.table.labels.items c.args.self.now.frontier c.loop-place.self.frontier c.loop-place.place (omega arith) (c.loop-place.invariant.scans target from);
    }

pub returns-in_err-follow : goal.returns-in_err-follow
returns-in_err-follow g c = record {
  reached = reached_then c.args.self.now.table c.loop-place.self.table c.follow.new.self.table c.loop-place.invariant.reached c.follow.ensures.reached;
  done = search rules;
}
