use Rattle.std.proofs.lemmas.Result.{err_from_is_err_and}
use Rattle.ea_batch.proofs.Going.{goes_further, goes_nowhere, stops_later}
use Rattle.std.proofs.Common.{arith}
use Rattle.ea_batch.proofs.parallel_reports.send_round.Goals as goal
use Rattle.ea_batch.proofs.parallel_reports.send_round.Goals.{in-Some+in_ok-send_part-in-Some, in-None+else-not-help}

pub returns-in_err-send_part-in-Some : goal.returns-in_err-send_part-in-Some
returns-in_err-send_part-in-Some g c =
    let p = err_from_is_err_and c.from_residual.result c.from_residual.ensures.1 in
    rw (p.1, p.2) (stops_later c.args.job c.args.from c.loop.sent _ _ _ _ _ c.loop.invariant.went _ c.in_err-send_part-in-Some.ensures.sends)

pub loop-init : goal.loop-init
loop-init g c = record {
  went = goes_nowhere c.args.job c.args.from (g.W.Device.seen c.args.out.now) c.args.progress.now.written;
  onward = omega arith;
  can = c.requires.can;
}

pub loop-preserved : goal.loop-preserved
loop-preserved g c =
    let inv = c.loop.invariant in
    let network = c.args.job.road.now.network in
    elim c.match-take.branch [
      | in-Some+in_ok-send_part-in-Some w ↦ rw (w.progress-is, w.desk-is, w.out-is, w.sent-is) (record {
        went = goes_further c.args.job c.args.from c.loop.sent _ _ _ _ _ inv.went w.end_of_part.result _ w.in_ok-send_part-in-Some.ensures.sends.went;
        onward = omega (arith, inv.onward, w.end_of_part.ensures.0);
        can = record {
          stands = w.in_ok-send_part-in-Some.ensures.sends.stands;
          inside = w.end_of_part.ensures.1;
          piled = c.take.ensures.pile;
        };
      })
      | in-None+else-not-help w ↦ rw (w.progress-is, w.desk-is, w.out-is, w.sent-is) (record {
        went = inv.went;
        onward = inv.onward;
        can = record {
          stands = record {
            is_job = inv.can.stands.is_job;
            room = inv.can.stands.room;
            aided = record { search = w.help.ensures.search; aids = inv.can.stands.aided.aids };
          };
          inside = inv.can.inside;
          piled = w.help.ensures.pile;
        };
      })
    ]

pub returns-after-loop : goal.returns-after-loop
returns-after-loop g c = record { went = c.loop.invariant.went; onward = c.loop.invariant.onward; can = c.loop.invariant.can }

pub returns-then-sent-job : goal.returns-then-sent-job
returns-then-sent-job g c = record { went = c.loop.invariant.went; onward = c.loop.invariant.onward; can = c.loop.invariant.can }

pub returns-then-not-help : goal.returns-then-not-help
returns-then-not-help g c =
    let inv = c.loop.invariant in
    let network = c.args.job.road.now.network in
    record {
      went = inv.went;
      onward = inv.onward;
      can = record {
        stands = record {
          is_job = inv.can.stands.is_job;
          room = inv.can.stands.room;
          aided = record { search = c.help.ensures.search; aids = inv.can.stands.aided.aids };
        };
        inside = inv.can.inside;
        piled = c.help.ensures.pile;
      };
    }
