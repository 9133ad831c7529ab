use Rattle.std.proofs.Common.{◌≡◌, ◌<◌, ◌≤◌, arith, false, length-append}
use Rattle.std.proofs.lemmas.Grind.{common_steps}
use Rattle.ea_check.proofs.Streaming.{falls}
use Rattle.ea_check.proofs.form.report_lines.ReportLines.refill.Goals as goal

pub returns-clause-fewer : goal.returns-clause-fewer
returns-clause-fewer g c =
    let ended = c.in_ok-self.field-0 in
    let old = c.args.self.now.blocks.left in
    let new = c.fill.new.self.left in
    let less : new ≤ old = grind (arith, common_steps, length-append) in
    let on : ended ≡ false → new < old = grind (arith, common_steps, length-append) in
    falls c.args.self.now.ended ended old new c.requires.more less on
