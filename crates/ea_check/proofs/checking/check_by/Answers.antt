use Rattle.std.proofs.Common.{subst}
use Rattle.std.proofs.lemmas.Result.{err_from_is_err_and}
use Rattle.std.specs.Prelude.{Result}
use Rattle.ea_blocks.specs.Taking.{StopsTaking}
use Rattle.ea_check.specs.declared.form.stop.Stop.{Stop}
use Rattle.ea_check.specs.Checked.{IsChecked, sources_of}
use Rattle.ea_check.specs.Judging.{JudgesTo}
use Rattle.ea_check.specs.Lazy.{roads_in}
use Rattle.ea_check.specs.Streams.{ahead, most_bytes}
use Rattle.ea_check.proofs.Streamed.{verdict_leads, whole_checked, whole_stops}
use Rattle.ea_check.proofs.checking.check_by.Goals as goal

pub returns-in_err-verdict-clause-fault : goal.returns-in_err-verdict-clause-fault
returns-in_err-verdict-clause-fault g c =
    let p = err_from_is_err_and c.from_residual-in_err-verdict.result c.from_residual-in_err-verdict.ensures.1 in
    let begins = c.in_ok-lines.ensures.begins in
    let Has = IsChecked (roads_in c.args.network) (g.T.TravelTimes.answers c.args.times.now) (sources_of c.args.queries.now) in
    let stops : StopsTaking (g.R.Device.seen c.open.new.device) c.in_ok-lines.lines.blocks (g.R.Device.seen c.check_lines-judged.new.device) c.in_err-verdict.field-0.0 =
    subst (λ (r : Result (Unit {0}) Stop). JudgesTo Has (g.R.Device.seen c.open.new.device) c.in_ok-lines.lines (g.R.Device.seen c.check_lines-judged.new.device) c.check_lines-judged.new.lines r) c.in_err-verdict.ensures c.check_lines-judged.ensures in
    rw (p.1, p.2) (stops most_bytes _ begins.got begins.taken)

pub returns-in_err-skip_rest-clause-fault : goal.returns-in_err-skip_rest-clause-fault
returns-in_err-skip_rest-clause-fault g c =
    let p = err_from_is_err_and c.from_residual-in_err-skip_rest.result c.from_residual-in_err-skip_rest.ensures.1 in
    let Has = IsChecked (roads_in c.args.network) (g.T.TravelTimes.answers c.args.times.now) (sources_of c.args.queries.now) in
    let start = c.in_ok-lines.lines in
    let after = c.check_lines-judged.new.lines in
    let begun = g.R.Device.seen c.open.new.device in
    let read = g.R.Device.seen c.check_lines-judged.new.device in
    let leads = verdict_leads Has begun read start after c.in_ok-verdict.verdict (subst (λ (r : Result (Unit {0}) Stop). JudgesTo Has begun start read after r) c.in_ok-verdict.ensures c.check_lines-judged.ensures) in
    rw (p.1, p.2) (whole_stops c.args.way _ begun read _ start after c.in_ok-lines.ensures.begins (λ text next. Has (ahead start text) c.in_ok-verdict.verdict) _ leads c.in_err-skip_rest.ensures.fault)

pub returns-clause-checked : goal.returns-clause-checked
returns-clause-checked g c =
    let roads = roads_in c.args.network in
    let answers = g.T.TravelTimes.answers c.args.times.now in
    let queries = sources_of c.args.queries.now in
    let start = c.in_ok-lines.lines in
    let after = c.check_lines-judged.new.lines in
    let begun = g.R.Device.seen c.open.new.device in
    let read = g.R.Device.seen c.check_lines-judged.new.device in
    let leads = verdict_leads (IsChecked roads answers queries) begun read start after c.in_ok-verdict.verdict (subst (λ (r : Result (Unit {0}) Stop). JudgesTo (IsChecked roads answers queries) begun start read after r) c.in_ok-verdict.ensures c.check_lines-judged.ensures) in
    whole_checked c.args.way _ begun read _ start after c.in_ok-lines.ensures.begins roads answers queries c.in_ok-verdict.verdict _ leads c.in_ok-skip_rest.ensures.rest
