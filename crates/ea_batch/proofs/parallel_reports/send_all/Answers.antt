use Rattle.std.proofs.lemmas.Result.{err_from_is_err_and}
use Rattle.std.proofs.Common.{[], sym, arith, subst}
use Rattle.std.proofs.lemmas.List.{take_all}
use Rattle.ea_load.specs.Posed.{times_on}
use Rattle.ea_report.specs.Asked.{shape_of}
use Rattle.ea_batch.specs.Sent.{AreSent}
use Rattle.ea_batch.proofs.Sent.{sent_none}
use Rattle.ea_batch.proofs.parallel_reports.send_all.Goals as goal

pub returns-in_err-gone : goal.returns-in_err-gone
returns-in_err-gone g c =
    let p = err_from_is_err_and c.from_residual.result c.from_residual.ensures.1 in
    let inv = c.loop-sent.invariant in
    rw (p.1, p.2) (c.in_err-gone.ensures.cut (g.W.Device.seen c.args.out.now) inv.fits inv.sent)

pub returns-in_err-send_part : goal.returns-in_err-send_part
returns-in_err-send_part g c =
    let p = err_from_is_err_and c.from_residual-in_err-send_part.result c.from_residual-in_err-send_part.ensures.1 in
    let inv = c.loop-sent.invariant in
    let first = g.W.Device.seen c.args.out.now in
    rw (p.1, p.2) (c.in_err-send_part.ensures.sends.cut first inv.fits (c.in_ok-gone.ensures.went.sent first inv.fits inv.sent))

pub loop-sent-init : goal.loop-sent-init
loop-sent-init g c =
    let shape = shape_of c.args.job.shown in
    let network = c.args.job.road.now.network in
    let times = times_on c.args.job.road.now in
    let first = g.W.Device.seen c.args.out.now in
    record {
      fits = omega (arith, c.interruptions.ensures, c.interruptions.type_inv);
      sent = subst (λ n. AreSent shape network times [] first first n) (sym c.requires.none) (sent_none shape network times first);
      can = c.requires.can;
    }

pub loop-sent-preserved-then-gone-sent : goal.loop-sent-preserved-then-gone-sent
loop-sent-preserved-then-gone-sent g c =
    let inv = c.loop-sent.invariant in
    let gone = c.in_ok-gone.ensures in
    record {
      fits = inv.fits;
      sent = gone.went.sent (g.W.Device.seen c.args.out.now) inv.fits inv.sent;
      can = gone.can;
    }

pub loop-sent-preserved : goal.loop-sent-preserved
loop-sent-preserved g c =
    let inv = c.loop-sent.invariant in
    let gone = c.in_ok-gone.ensures in
    let first = g.W.Device.seen c.args.out.now in
    record {
      fits = inv.fits;
      sent = c.in_ok-send_part.ensures.sends.went.sent first inv.fits (gone.went.sent first inv.fits inv.sent);
      can = record {
        stands = c.in_ok-send_part.ensures.sends.stands;
        inside = c.end_of_part.ensures.1;
        piled = gone.can.piled;
      };
    }

pub returns : goal.returns
returns g c =
    let job = c.args.job in
    let can = c.loop-sent.invariant.can in
    let all = take_all c.loop-sent.sent job.queries.now (omega (arith, c.loop-sent-test.false)) in
    record {
      sent = subst (λ qs. AreSent (shape_of job.shown) job.road.now.network (times_on job.road.now) qs (g.W.Device.seen c.args.out.now) (g.W.Device.seen c.loop-sent.out) c.loop-sent.progress.written) all c.loop-sent.invariant.sent;
      bound = omega (arith, can.stands.room, can.inside, can.stands.is_job.few);
    }
