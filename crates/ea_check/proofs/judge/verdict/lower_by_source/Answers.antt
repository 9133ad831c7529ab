use Rattle.ea_road.specs.Roads.{IsNode}
use Rattle.ea_check.specs.Verdicts.{Improves, reported_time}
use Rattle.ea_check.proofs.Judged.{source_improves}
use Rattle.ea_check.proofs.Supported.{lower_found, marks_more, source_supports}
use Rattle.ea_check.proofs.judge.verdict.lower_by_source.Goals as goal
use Rattle.std.proofs.Common.{◌∙◌, arith, inl, refl, subst, sym}

pub returns-then-source-time-clause-finds : goal.returns-then-source-time-clause-finds
returns-then-source-time-clause-finds g c =
    let found = lower_found (Improves c.args.network.now (g.T.TravelTimes.answers c.args.times.now) c.args.query.now.sources (reported_time c.args.reported.now)) c.args.lowest c.args.source.node c.min.result c.min.ensures
    (source_improves c.args.network.now _ (g.T.TravelTimes.classes c.args.times.now) c.args.query.now.sources c.args.reported.now c.requires.problem.task (g.met.T.TravelTimes.fifo c.args.times.now) c.requires.problem.formed c.args.source c.time-time.result c.requires.source c.time-time.ensures c.if-source-time.true) in
    record { lower = omega arith; found = found; are_supported = c.requires.problem.are_supported }

pub returns-then-source-time-2-clause-finds : goal.returns-then-source-time-2-clause-finds
returns-then-source-time-2-clause-finds g c =
    let marks = marks_more c.args.network.now _ (g.T.TravelTimes.classes c.args.times.now) c.args.query.now.sources c.args.reported.now c.requires.problem.task c.requires.problem.formed c.args.marks.now _ c.args.source.node c.requires.problem.are_supported c.mark.ensures.places c.mark.ensures.only
    (source_supports c.args.network.now _ (g.T.TravelTimes.classes c.args.times.now) c.args.query.now.sources c.args.reported.now c.requires.problem.task c.requires.problem.formed c.args.source c.requires.source (c.if-source-time-2.true ∙ c.time-time.ensures)) in
    record { lower = omega arith; found = inl refl; are_supported = marks }

pub time-time-requires : goal.time-time-requires
time-time-requires g c = subst (λ n. IsNode n c.args.source.node) (sym c.requires.problem.formed.each_node) (c.requires.problem.task.starts c.args.source c.requires.source).0

pub mark-requires : goal.mark-requires
mark-requires g c = subst (λ n. IsNode n c.args.source.node) (sym c.requires.problem.are_supported.each_node) (c.requires.problem.task.starts c.args.source c.requires.source).0
