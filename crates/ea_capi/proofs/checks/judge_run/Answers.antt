use Rattle.std.proofs.Common.{rules, ◌∙◌, ◌<◌, length}
use Rattle.std.specs.Prelude.{All}
use Rattle.ea_check.specs.Form.{lines_of_report}
use Rattle.ea_capi.specs.Checks.{AreTimely}
use Rattle.ea_capi.proofs.Judged.{answer_of}
use Rattle.ea_capi.proofs.checks.judge_run.Goals as goal

pub returns-in-Ok : goal.returns-in-Ok
returns-in-Ok c =
    let timely : AreTimely c.args.starts.now (length c.args.nodes.now) = search rules in
    let numbered : All (λ node. 0 < node) c.args.nodes.now = search rules in
    answer_of c.args.road.now c.args.starts.now c.args.nodes.now c.deref.result.now (lines_of_report c.args.report.now) c.judge.result
    (c.deref.ensures.value ∙ c.in-Ok.ensures) timely numbered c.judge.ensures
