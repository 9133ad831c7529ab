use Rattle.std.proofs.Common.{refl}
use Rattle.std.proofs.lemmas.Result.{err_from_is_err_and}
use Rattle.ea_check.proofs.Streaming.{leads_here, skips_more, stops_on}
use Rattle.ea_check.proofs.form.report_lines.ReportLines.skip_rest.Goals as goal

pub loop-self-init : goal.loop-self-init
loop-self-init g c = leads_here (λ text next. Unit {0}) _ c.args.self.now c.args.self.now c.requires.room refl refl (λ later none. tt)

pub returns-in_err-self-clause-fault : goal.returns-in_err-self-clause-fault
returns-in_err-self-clause-fault g c =
    let p = err_from_is_err_and c.from_residual.result c.from_residual.ensures.1 in
    rw (p.1, p.2) (stops_on (λ text next. Unit {0}) _ _ _ _ c.loop-self.self _ c.loop-self.invariant c.in_err-self.ensures.fault)

pub loop-self-preserved : goal.loop-self-preserved
loop-self-preserved g c = skips_more _ _ _ _ c.loop-self.self _ _ _ c.loop-self.invariant c.in_ok-self.ensures.room c.in_ok-self.ensures.more c.loop-self-test.true c.in_ok-self.ensures.end
