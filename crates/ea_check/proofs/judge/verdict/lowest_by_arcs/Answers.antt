use Rattle.std.proofs.Common.{◌∙◌, arith, sym}
use Rattle.ea_check.specs.Parts.{AreAllJudged}
use Rattle.ea_check.proofs.Parts.{each_marked, found_in_parts, parts_after, passed_in_parts, supported_in_parts}
use Rattle.ea_check.proofs.judge.verdict.lowest_by_arcs.Goals as goal

pub gather_marks-requires : goal.gather_marks-requires
gather_marks-requires g c =
    let new = c.judging.new.arg6 in
    let judged : AreAllJudged c.args.network.now (g.T.TravelTimes.answers c.args.times.now) c.args.query.now.sources c.args.reported.now c.args.above c.args.parts.now new = (c.requires.judging c.args.network c.args.query c.args.reported c.args.above _ (record { task = c.requires.problem.task; formed = c.requires.problem.formed }) c.requires.parts).1 _ c.judging.ensures in
    λ place part inside. each_marked c.args.network.now _ c.args.query.now.sources c.args.reported.now c.args.above c.args.parts.now new judged.1 judged.0 place part inside ∙ sym c.requires.problem.are_supported.each_node

pub returns-clause-finds : goal.returns-clause-finds
returns-clause-finds g c =
    let new = c.judging.new.arg6 in
    let judged : AreAllJudged c.args.network.now (g.T.TravelTimes.answers c.args.times.now) c.args.query.now.sources c.args.reported.now c.args.above c.args.parts.now new = (c.requires.judging c.args.network c.args.query c.args.reported c.args.above _ (record { task = c.requires.problem.task; formed = c.requires.problem.formed }) c.requires.parts).1 _ c.judging.ensures in
    record {
      lower = c.lowest_of.ensures.lower;
      found = found_in_parts c.args.network.now _ c.args.query.now.sources c.args.reported.now c.args.above c.args.parts.now new judged.1 judged.0 c.lowest_of.result c.lowest_of.ensures;
      are_supported = supported_in_parts c.args.network.now _ c.args.query.now.sources c.args.reported.now c.args.above c.args.parts.now new judged.1 judged.0 c.args.marks.now c.gather_marks.new.marks c.requires.problem.are_supported c.gather_marks.ensures;
    }

pub returns-clause-passed : goal.returns-clause-passed
returns-clause-passed g c =
    let new = c.judging.new.arg6 in
    let judged : AreAllJudged c.args.network.now (g.T.TravelTimes.answers c.args.times.now) c.args.query.now.sources c.args.reported.now c.args.above c.args.parts.now new = (c.requires.judging c.args.network c.args.query c.args.reported c.args.above _ (record { task = c.requires.problem.task; formed = c.requires.problem.formed }) c.requires.parts).1 _ c.judging.ensures in
    passed_in_parts c.args.network.now _ c.args.query.now.sources c.args.reported.now c.args.above c.args.parts.now new judged.1 judged.0 c.lowest_of.result c.lowest_of.ensures c.requires.parts.0

pub returns-clause-parts : goal.returns-clause-parts
returns-clause-parts g c =
    let new = c.judging.new.arg6 in
    let judged : AreAllJudged c.args.network.now (g.T.TravelTimes.answers c.args.times.now) c.args.query.now.sources c.args.reported.now c.args.above c.args.parts.now new = (c.requires.judging c.args.network c.args.query c.args.reported c.args.above _ (record { task = c.requires.problem.task; formed = c.requires.problem.formed }) c.requires.parts).1 _ c.judging.ensures in
    (parts_after c.args.network.now _ c.args.query.now.sources c.args.reported.now c.args.above c.args.parts.now new judged.1 judged.0 c.requires.parts.0, omega (arith, judged.1, c.requires.parts.1))
