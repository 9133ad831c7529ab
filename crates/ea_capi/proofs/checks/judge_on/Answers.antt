use Rattle.std.proofs.Common.{sym, subst}
use Rattle.std.specs.Prelude.{Some}
use Rattle.ea_check.specs.Form.{lines_of_report}
use Rattle.ea_capi.specs.declared.handle.content.Content.{Content}
use Rattle.ea_load.specs.declared.road.Road.{Road}
use Rattle.ea_capi.specs.Checks.{IsAnswerTo, IsToldOf}
use Rattle.ea_capi.specs.States.{road_in}
use Rattle.ea_capi.proofs.checks.judge_on.Goals as goal

pub returns-in-Road : goal.returns-in-Road
returns-in-Road c =
    let starts = c.args.starts.now in
    let nodes = c.args.nodes.now in
    let lines = lines_of_report c.args.report.now in
    subst (λ (it : Content). IsToldOf (road_in (Some it)) starts nodes lines c.judge_run.result) (sym c.in-Road.is)
    (subst (λ (it : Road). IsAnswerTo it starts nodes lines c.judge_run.result) c.road.ensures c.judge_run.ensures)
