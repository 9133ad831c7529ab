use Rattle.std.proofs.Common.{◌<◌, ◌≤◌, ◌+◌, ◌⊎◌, length, get_or, drop, take, refl, ◌∙◌, arith, inl, inr, subst}
use Rattle.std.proofs.lemmas.List.{drop_more, take_more, drop_all, take_all}
use Rattle.ea_base.specs.declared.limits.TheConstants.{HORIZON}
use Rattle.ea_road.specs.declared.leaving_arc.LeavingArc.{LeavingArc}
use Rattle.ea_road.specs.Labels.{label_of}
use Rattle.ea_road.specs.Roads.{leaving, with_tail}
use Rattle.ea_road.proofs.Arcs.{is_question}
use Rattle.ea_road.proofs.ByTail.{arc_beside}
use Rattle.ea_rank.specs.Courses.Scans.{begins, passes}
use Rattle.ea_rank.specs.States.{state_of}
use Rattle.ea_rank.proofs.Coursing.{scan_pushes}
use Rattle.ea_rank.proofs.Recording.{recorded-lowers}
use Rattle.ea_rank.proofs.Underways.{pass-lowers, pass-keeps, less-lowers}
use Rattle.ea_rank.specs.Courses.{Scans}
use Rattle.ea_rank.specs.Runs.{IsOnCourse}
use Rattle.ea_rank.proofs.turns.scan.Goals as goal
use Rattle.ea_rank.proofs.turns.scan.Goals.{then-arrival-le-HORIZON+then-arrival-label+in_ok-lower, else-arrival-le-HORIZON, else-arrival-le-HORIZON-via-then-arrival-le-HORIZON+else-arrival-label, else-arrival-le-HORIZON-via-else-arrival-le-HORIZON}

abbrev none : LeavingArc
none = record { head = 0; weight = 0; class = 0 }

pub arrive-arrival-requires : goal.arrive-arrival-requires
arrive-arrival-requires g c =
    let roads = c.args.network.now in
    let arcs = c.leaving.result.arcs.now in
    let is_arc = arc_beside roads c.args.node c.leaving.result.numbers.now arcs c.loop-place.place none c.leaving.ensures.arcs c.loop-place-test.true in
    rw c.from.ensures (is_question roads _ _ c.args.departure (with_tail (get_or arcs c.loop-place.place none) c.args.node) c.leaving.ensures.network c.requires.problem.classed is_arc c.requires.may.in_time)

pub loop-place-preserved : goal.loop-place-preserved
loop-place-preserved g c =
    let roads = c.args.network.now in
    let node = c.args.node in
    let sources = c.args.query.now.sources in
    let arcs = c.leaving.result.arcs.now in
    let i = c.loop-place.place in
    let numbers = leaving roads node in
    let beside = rw c.leaving.ensures.numbers at c.leaving.ensures.arcs in
    let arc = with_tail (get_or arcs i none) node in
    let is_arc = arc_beside roads node numbers arcs i none beside c.loop-place-test.true in
    let near : i < length numbers = omega (arith, beside.lengths, c.loop-place-test.true) in
    let number = get_or numbers i 0 in
    let rest = drop (i + 1) numbers in
    let inv = c.loop-place.invariant in
    let popped = inv.underway.0 in
    let was = rw (drop_more numbers i 0 near) at inv.underway.1 in
    let network = c.leaving.ensures.network in
    let classed = c.requires.problem.classed in
    let arrival = c.arrive-arrival.result in
    let answer = rw c.from.ensures at c.arrive-arrival.ensures in
    let fifo = g.met.T.TravelTimes.fifo c.args.times.now in
    let more = take_more numbers i 0 near in
    elim c.if-arrival-le-HORIZON.branch [
      | then-arrival-le-HORIZON+then-arrival-label+in_ok-lower w ↦ (
          let by = w.in_ok-lower.ensures in
          let moved = by.lowers in
          let low : arrival < label_of c.loop-place.run.labels.items arc.head = omega (arith, w.label.ensures, w.if-arrival-label.true) in
          let later = fifo.not_before arc.class arc.weight c.args.departure arrival (is_question roads _ number c.args.departure arc network classed is_arc c.requires.may.in_time) answer in
          let passed = pass-lowers roads _ sources network _ fifo classed rest popped number node c.args.departure arrival arc (state_of c.loop-place.run) (state_of w.lower.new.self)
          c.requires.may.is_node c.requires.may.in_time inv.label is_arc refl answer later w.if-arrival-le-HORIZON.true low was moved in
          let head = (network.each_fits number arc is_arc).head in
          let course = scan_pushes roads _ c.args.departure (take i numbers) _ _ _ (state_of c.args.run.now) (state_of c.loop-place.run) (state_of w.lower.new.self) number arrival _ arc inv.course is_arc answer w.if-arrival-le-HORIZON.true low by w.next_u64.ensures in
          rw (w.run-is, w.rng-is) (record {
            underway = (popped, passed.0, recorded-lowers _ _ popped (state_of c.loop-place.run) (state_of w.lower.new.self) inv.underway.2 moved);
            label = passed.1;
            heaps = moved.count ∙ inv.heaps;
            less = omega (arith, less-lowers arc.head arrival (state_of c.loop-place.run) (state_of w.lower.new.self) head.from_one (omega (arith, head.to_last, was.places)) low moved, inv.less);
            course = rw more course;
          }))
      | else-arrival-le-HORIZON w ↦ (
          let why : (HORIZON < arrival) ⊎ (label_of c.loop-place.run.labels.items arc.head ≤ arrival) = elim w.else-arrival-le-HORIZON.branch [
            | else-arrival-le-HORIZON-via-then-arrival-le-HORIZON+else-arrival-label v ↦ inr (omega (arith, v.label.ensures, v.if-arrival-label.false))
            | else-arrival-le-HORIZON-via-else-arrival-le-HORIZON v ↦ inl (omega (arith, v.if-arrival-le-HORIZON.false))
          ] in
          rw (w.run-is, w.rng-is) (record {
            underway = (
              popped,
              pass-keeps roads _ sources network _ fifo classed rest popped number node c.args.departure arrival arc (state_of c.loop-place.run) c.requires.may.in_time inv.label is_arc refl answer why was,
              inv.underway.2,
            );
            label = inv.label;
            heaps = inv.heaps;
            less = inv.less;
            course = rw more (passes inv.course is_arc answer why);
          }))
    ]

pub label-requires : goal.label-requires
label-requires g c =
    let is_arc = arc_beside c.args.network.now c.args.node c.leaving.result.numbers.now c.leaving.result.arcs.now c.loop-place.place none c.leaving.ensures.arcs c.loop-place-test.true in
    let head = (c.leaving.ensures.network.each_fits _ _ is_arc).head in
    (head.from_one, omega (arith, head.to_last, c.loop-place.invariant.underway.1.places))

pub lower-requires-clause-node : goal.lower-requires-clause-node
lower-requires-clause-node g c =
    let is_arc = arc_beside c.args.network.now c.args.node c.leaving.result.numbers.now c.leaving.result.arcs.now c.loop-place.place none c.leaving.ensures.arcs c.loop-place-test.true in
    let head = (c.leaving.ensures.network.each_fits _ _ is_arc).head in
    (head.from_one, omega (arith, head.to_last, c.loop-place.invariant.underway.1.places))

pub loop-place-init : goal.loop-place-init
loop-place-init g c = record {
  underway = c.requires.may.may_go_on.on_course;
  label = c.requires.may.label_is;
  heaps = refl;
  less = omega arith;
  course = begins;
}

pub lower-requires-clause-heaps : goal.lower-requires-clause-heaps
lower-requires-clause-heaps g c = omega (arith, c.loop-place.invariant.heaps, c.requires.may.may_go_on.two_heaps)

pub returns : goal.returns
returns g c = record {
  on_course =
      let beside = rw c.leaving.ensures.numbers at c.leaving.ensures.arcs in
      let none = drop_all c.loop-place.place (leaving c.args.network.now c.args.node) (omega (arith, beside.lengths, c.loop-place-test.false)) in
      let sources = c.args.query.now.sources in
      subst (λ left. IsOnCourse c.args.network.now (g.T.TravelTimes.answers c.args.times.now) sources sources left (state_of c.loop-place.run)) none c.loop-place.invariant.underway;
  heaps_are = c.loop-place.invariant.heaps;
  less = c.loop-place.invariant.less;
  course =
      let beside = rw c.leaving.ensures.numbers at c.leaving.ensures.arcs in
      let all = take_all c.loop-place.place (leaving c.args.network.now c.args.node) (omega (arith, beside.lengths, c.loop-place-test.false)) in
      subst (λ passed. Scans c.args.network.now (g.T.TravelTimes.answers c.args.times.now) c.args.departure passed (g.R.Rng.stream c.args.rng.now) (state_of c.args.run.now) (g.R.Rng.stream c.loop-place.rng) (state_of c.loop-place.run)) all c.loop-place.invariant.course;
}
