use Rattle.std.proofs.Common.{◌≡◌, arith, inl, refl, ◌∙◌}
use Rattle.ea_check.specs.Verdicts.{Improves, reported_time}
use Rattle.ea_check.proofs.Judged.{question_of, arc_improves, arc_passes}
use Rattle.ea_check.proofs.Supported.{arc_supports, lower_found, marks_more}
use Rattle.ea_check.proofs.judge.verdict.lower_by_arc.Goals.{then-arrival-gt-HORIZON-via-then-arrival-gt-HORIZON, then-arrival-gt-HORIZON-via-else-arrival-gt-HORIZON+then-arrival-time}
use Rattle.ea_check.proofs.judge.verdict.lower_by_arc.Goals as goal

pub arrive-arrival-requires : goal.arrive-arrival-requires
arrive-arrival-requires g c =
    rw c.from.ensures (question_of c.args.network.now _ (g.T.TravelTimes.classes c.args.times.now) c.args.query.now.sources c.args.reported.now c.requires.problem.task (g.met.T.TravelTimes.fifo c.args.times.now) c.requires.problem.formed c.args.number c.time-departure.result c.arc-arc.result c.arc-arc.ensures.arc c.time-departure.ensures c.if-departure.false)

pub returns-then-arrival-gt-HORIZON-clause-passed : goal.returns-then-arrival-gt-HORIZON-clause-passed
returns-then-arrival-gt-HORIZON-clause-passed g c = λ arc arrival is_arc tail answer within late.
    absurd (arc_passes c.args.network.now _ (g.T.TravelTimes.classes c.args.times.now) c.args.query.now.sources c.args.reported.now c.requires.problem.task (g.met.T.TravelTimes.fifo c.args.times.now) c.requires.problem.formed c.args.number c.time-departure.result c.arrive-arrival.result c.arc-arc.result c.arc-arc.ensures.arc c.time-departure.ensures c.if-departure.false (rw c.from.ensures at c.arrive-arrival.ensures) (λ soon less. elim c.then-arrival-gt-HORIZON.branch [
      | then-arrival-gt-HORIZON-via-then-arrival-gt-HORIZON w ↦ omega (arith, w.if-arrival-gt-HORIZON.true)
      | then-arrival-gt-HORIZON-via-else-arrival-gt-HORIZON+then-arrival-time w ↦ omega (arith, w.if-arrival-time.true, c.time-time.ensures)
    ]) arc arrival is_arc answer within late)

pub returns-then-arrival-time-2-clause-finds : goal.returns-then-arrival-time-2-clause-finds
returns-then-arrival-time-2-clause-finds g c =
    let found = lower_found (Improves c.args.network.now (g.T.TravelTimes.answers c.args.times.now) c.args.query.now.sources (reported_time c.args.reported.now)) c.args.lowest c.arc-arc.result.head c.min.result c.min.ensures
    (arc_improves c.args.network.now _ (g.T.TravelTimes.classes c.args.times.now) c.args.query.now.sources c.args.reported.now c.requires.problem.task (g.met.T.TravelTimes.fifo c.args.times.now) c.requires.problem.formed c.args.number c.time-departure.result c.arrive-arrival.result c.time-time.result c.arc-arc.result c.arc-arc.ensures.arc c.time-departure.ensures c.if-departure.false (rw c.from.ensures at c.arrive-arrival.ensures) (omega (arith, c.if-arrival-gt-HORIZON.false)) c.time-time.ensures c.if-arrival-time-2.true) in
    record { lower = omega arith; found = found; are_supported = c.requires.problem.are_supported }

pub returns-then-departure-time-clause-passed : goal.returns-then-departure-time-clause-passed
returns-then-departure-time-clause-passed g c = λ arc arrival is_arc tail answer within late.
    absurd (arc_passes c.args.network.now _ (g.T.TravelTimes.classes c.args.times.now) c.args.query.now.sources c.args.reported.now c.requires.problem.task (g.met.T.TravelTimes.fifo c.args.times.now) c.requires.problem.formed c.args.number c.time-departure.result c.arrive-arrival.result c.arc-arc.result c.arc-arc.ensures.arc c.time-departure.ensures c.if-departure.false (rw c.from.ensures at c.arrive-arrival.ensures) (λ soon less. omega (arith, c.if-arrival-time-2.false, c.time-time.ensures)) arc arrival is_arc answer within late)

pub returns-then-departure-time-clause-finds : goal.returns-then-departure-time-clause-finds
returns-then-departure-time-clause-finds g c =
    let same : c.arrive-arrival.result ≡ c.time-time.result = omega (arith, c.if-arrival-time.false, c.if-arrival-time-2.false) in
    let marks = marks_more c.args.network.now _ (g.T.TravelTimes.classes c.args.times.now) c.args.query.now.sources c.args.reported.now c.requires.problem.task c.requires.problem.formed c.args.marks.now _ c.arc-arc.result.head c.requires.problem.are_supported c.mark.ensures.places c.mark.ensures.only
    (arc_supports c.args.network.now _ (g.T.TravelTimes.classes c.args.times.now) c.args.query.now.sources c.args.reported.now c.requires.problem.task c.requires.problem.formed c.args.number c.time-departure.result c.arrive-arrival.result c.arc-arc.result c.arc-arc.ensures.arc c.time-departure.ensures (rw c.from.ensures at c.arrive-arrival.ensures) (omega (arith, c.if-arrival-gt-HORIZON.false)) (same ∙ c.time-time.ensures) (omega (arith, same, c.if-departure-time.true))) in
    record { lower = omega arith; found = inl refl; are_supported = marks }

pub returns-else-departure-time-clause-passed : goal.returns-else-departure-time-clause-passed
returns-else-departure-time-clause-passed g c = λ arc arrival is_arc tail answer within late.
    absurd (arc_passes c.args.network.now _ (g.T.TravelTimes.classes c.args.times.now) c.args.query.now.sources c.args.reported.now c.requires.problem.task (g.met.T.TravelTimes.fifo c.args.times.now) c.requires.problem.formed c.args.number c.time-departure.result c.arrive-arrival.result c.arc-arc.result c.arc-arc.ensures.arc c.time-departure.ensures c.if-departure.false (rw c.from.ensures at c.arrive-arrival.ensures) (λ soon less. omega (arith, c.if-arrival-time-2.false, c.time-time.ensures)) arc arrival is_arc answer within late)
