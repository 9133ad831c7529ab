use Rattle.std.proofs.Common.{subst, sym}
use Rattle.ea_report.specs.Asked.{chosen_by}
use Rattle.ea_load.specs.declared.road.Road.{Road}
use Rattle.ea_load.specs.Posed.{times_on}
use Rattle.ea_batch.specs.Solved.{AnswersOn, ArrivesOn}
use Rattle.ea_batch.proofs.Showing.{answer_shown, arrivals_shown}
use Rattle.earliest.proofs.reports.Reports.write_found.Goals as goal

pub write-requires-clause-solves : goal.write-requires-clause-solves
write-requires-clause-solves g c =
    let road = c.of-searched.result in
    let query = c.args.query.now in
    let answer = c.args.found.now.answer in
    let same = sym c.of-searched.ensures in
    record {
      arrivals = arrivals_shown road.network (times_on road) (chosen_by c.args.shown) query answer (subst (λ (r : Road). ArrivesOn r query answer) same c.requires.found.arrivals);
      canonical = λ walks. answer_shown road.network (times_on road) (chosen_by c.args.shown) query answer (subst (λ (r : Road). AnswersOn r query answer) same (c.requires.found.canonical walks));
    }
