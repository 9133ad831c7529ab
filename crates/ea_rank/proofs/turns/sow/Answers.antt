use Rattle.std.proofs.Common.{◌<◌, ◌≤◌, [], get_or, take, refl, ◌∙◌, arith, subst}
use Rattle.std.proofs.lemmas.List.{take_more, take_all}
use Rattle.std.specs.List.{IsAmong}
use Rattle.ea_road.specs.declared.source.Source.{Source}
use Rattle.ea_road.specs.Labels.{label_of}
use Rattle.ea_road.proofs.Reached.{reaches_source}
use Rattle.ea_rank.specs.Courses.Sows.{begins, passes, pushes}
use Rattle.ea_rank.specs.States.{state_of}
use Rattle.ea_rank.proofs.Recording.{recorded-lowers}
use Rattle.ea_rank.proofs.Underways.{among_at, underway-lowers, underway-begins, lowered_label}
use Rattle.ea_rank.specs.Courses.{Sows}
use Rattle.ea_rank.specs.Runs.{IsOnCourse}
use Rattle.ea_rank.proofs.turns.sow.Goals as goal
use Rattle.ea_rank.proofs.turns.sow.Goals.{then-source-label+in_ok-lower, else-source-label}

abbrev none : Source
none = record { node = 0; departure = 0 }

pub label-requires : goal.label-requires
label-requires g c =
    let items = c.sources-source-items.result.now in
    let there = c.requires.problem.sources (get_or items c.loop-source.source-index none) (rw (← c.sources-source-items.ensures.sources) (among_at items c.loop-source.source-index none c.loop-source-test.true)) in
    (there.from_one, omega (arith, there.to_last, c.loop-source.invariant.underway.1.places))

pub lower-requires-clause-node : goal.lower-requires-clause-node
lower-requires-clause-node g c =
    let items = c.sources-source-items.result.now in
    let there = c.requires.problem.sources (get_or items c.loop-source.source-index none) (rw (← c.sources-source-items.ensures.sources) (among_at items c.loop-source.source-index none c.loop-source-test.true)) in
    (there.from_one, omega (arith, there.to_last, c.loop-source.invariant.underway.1.places))

pub loop-source-preserved : goal.loop-source-preserved
loop-source-preserved g c =
    let items = c.sources-source-items.result.now in
    let i = c.loop-source.source-index in
    let source = get_or items i none in
    let among : IsAmong c.args.query.now.sources source = rw (← c.sources-source-items.ensures.sources) (among_at items i none c.loop-source-test.true) in
    let there = c.requires.problem.sources source among in
    let within = c.requires.problem.departures source among in
    let inv = c.loop-source.invariant in
    let popped = inv.underway.0 in
    let more = take_more items i none c.loop-source-test.true in
    let roads = c.args.network.now in
    elim c.if-source-label.branch [
      | then-source-label+in_ok-lower w ↦ (
          let by = w.in_ok-lower.ensures in
          let moved = by.lowers in
          let low : source.departure < label_of c.loop-source.run.labels.items source.node = omega (arith, c.label.ensures, w.if-source-label.true) in
          let kept = underway-lowers roads _ c.args.query.now.sources c.keeps_limits.ensures (take i items) [] popped source.node source.departure (state_of c.loop-source.run) (state_of w.lower.new.self) there within low (reaches_source roads _ c.args.query.now.sources source among within) inv.underway.1 moved in
          let now = lowered_label source.node source.departure (state_of c.loop-source.run) (state_of w.lower.new.self) there.from_one (omega (arith, there.to_last, inv.underway.1.places)) moved in
          rw (w.run-is, w.word-is, more) (record {
            underway = (popped, underway-begins roads _ c.args.query.now.sources c.keeps_limits.ensures (take i items) source popped (state_of w.lower.new.self) (omega arith) kept, recorded-lowers _ _ popped (state_of c.loop-source.run) (state_of w.lower.new.self) inv.underway.2 moved);
            heaps = moved.count ∙ inv.heaps;
            course = pushes source inv.course low by;
            few = omega (arith, inv.few);
          }))
      | else-source-label w ↦ (
          let low : label_of c.loop-source.run.labels.items source.node ≤ source.departure = omega (arith, c.label.ensures, w.if-source-label.false) in
          rw (w.run-is, w.word-is, more) (record {
            underway = (popped, underway-begins roads _ c.args.query.now.sources c.keeps_limits.ensures (take i items) source popped (state_of c.loop-source.run) low inv.underway.1, inv.underway.2);
            heaps = inv.heaps;
            course = passes source inv.course low;
            few = omega (arith, inv.few);
          }))
    ]

pub loop-source-init : goal.loop-source-init
loop-source-init g c = record {
  underway = c.requires.may.on_course;
  heaps = refl;
  course = begins;
  few = omega arith;
}

pub lower-requires-clause-heaps : goal.lower-requires-clause-heaps
lower-requires-clause-heaps g c = omega (arith, c.loop-source.invariant.heaps, c.requires.may.two_heaps)

pub returns : goal.returns
returns g c = record {
  on_course =
      let all = take_all c.loop-source.source-index c.sources-source-items.result.now (omega (arith, c.loop-source-test.false)) ∙ c.sources-source-items.ensures.sources in
      subst (λ sources. IsOnCourse c.args.network.now (g.T.TravelTimes.answers c.args.times.now) c.args.query.now.sources sources [] (state_of c.loop-source.run)) all c.loop-source.invariant.underway;
  heaps_are = c.loop-source.invariant.heaps;
  pushes = c.loop-source.word;
  sows =
      let all = take_all c.loop-source.source-index c.sources-source-items.result.now (omega (arith, c.loop-source-test.false)) ∙ c.sources-source-items.ensures.sources in
      subst (λ sources. Sows sources (state_of c.args.run.now) c.loop-source.word (state_of c.loop-source.run)) all c.loop-source.invariant.course;
}
