use Rattle.std.proofs.Common.{[], ap, arith}
use Rattle.std.proofs.lemmas.Result.{err_from_is_err_and}
use Rattle.ea_report.specs.Asked.{chosen_by}
use Rattle.ea_report.specs.Delivery.{Delivery}
use Rattle.ea_report.specs.Deliverers.{delivery_of}
use Rattle.ea_report.specs.Report.{report_text}
use Rattle.ea_report.proofs.Pieces.{delivery_starts, delivery_ends}
use Rattle.ea_report.proofs.report.send_problem.Goals as goal

pub returns-in_err-put_problem : goal.returns-in_err-put_problem
returns-in_err-put_problem g c =
    let p = err_from_is_err_and c.from_residual.result c.from_residual.ensures.1 in
    let first = (g.W.Device.seen c.args.out.now) in
    let start = delivery_starts first (delivery_of c.new-pending.result) c.new-pending.ensures in
    let none = ap (λ (d : Delivery). d.written) c.new-pending.ensures in
    rw (p.1, p.2) (record {
      ok = tt;
      err = c.in_err-put_problem.ensures.err (omega (arith, none, c.in_err-put_problem.ensures.small, c.in_err-put_problem.ensures.few)) first [] start;
      bound = tt;
      small = omega (arith, none, c.in_err-put_problem.ensures.small, c.in_err-put_problem.ensures.within);
    })

pub returns-in_err-flush : goal.returns-in_err-flush
returns-in_err-flush g c =
    let p = err_from_is_err_and c.from_residual-in_err-flush.result c.from_residual-in_err-flush.ensures.1 in
    let first = (g.W.Device.seen c.args.out.now) in
    let start = delivery_starts first (delivery_of c.new-pending.result) c.new-pending.ensures in
    let problem = c.in_ok-put_problem.ensures.ok first [] start in
    let none = ap (λ (d : Delivery). d.written) c.new-pending.ensures in
    rw (p.1, p.2) (record {
      ok = tt;
      err = c.in_err-flush.ensures.sends.err (omega (arith, none, c.in_err-flush.ensures.sends.small, c.in_ok-put_problem.ensures.bound, c.in_ok-put_problem.ensures.few)) first _ problem;
      bound = tt;
      small = omega (arith, none, c.in_err-flush.ensures.sends.small, c.in_ok-put_problem.ensures.bound, c.in_ok-put_problem.ensures.within);
    })

pub returns : goal.returns
returns g c =
    let first = (g.W.Device.seen c.args.out.now) in
    let start = delivery_starts first (delivery_of c.new-pending.result) c.new-pending.ensures in
    let problem = c.in_ok-put_problem.ensures.ok first [] start in
    let none = ap (λ (d : Delivery). d.written) c.new-pending.ensures in
    record {
      ok = delivery_ends first _ (delivery_of c.flush.new.self) (report_text c.args.options.style (chosen_by c.args.options) c.args.network.now.nodes c.args.query.now c.args.answer.now) c.in_ok-flush.ensures.empty c.flush.new.self.borne (omega (arith, none, c.in_ok-flush.ensures.sends.bound, c.in_ok-put_problem.ensures.bound, c.in_ok-put_problem.ensures.few)) (c.in_ok-flush.ensures.sends.ok first _ problem);
      err = tt;
      bound = omega (arith, none, c.in_ok-flush.ensures.sends.bound, c.in_ok-put_problem.ensures.bound, c.in_ok-put_problem.ensures.within);
      small = tt;
    }
