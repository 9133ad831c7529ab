use Rattle.std.proofs.Common.{inl, inr, arith}
use Rattle.std.proofs.lemmas.Bool.Decides.{eqb_tells}
use Rattle.ea_check.specs.Verdicts.{Improves, reported_time}
use Rattle.ea_check.proofs.Judged.{still_found}
use Rattle.ea_check.proofs.judge.verdict.lowest_in_range.Goals as goal

pub loop-number-preserved : goal.loop-number-preserved
loop-number-preserved g c =
    let was = c.loop-number.invariant in
    let now = c.lower_by_arc-lowest.ensures in
    record {
      finds = record {
        lower = omega (arith, was.finds.lower, now.finds.lower);
        found = still_found (Improves c.args.network.now (g.T.TravelTimes.answers c.args.times.now) c.args.query.now.sources (reported_time c.args.reported.now)) c.loop-number.lowest _ c.args.above was.finds.found now.finds.found;
        are_supported = now.finds.are_supported;
      };
      passed = λ number arc arrival from below is early answer fits sooner. elim (eqb_tells number c.loop-number.number) [
        | inl same ↦ now.passed arc arrival (rw same.1 at is) early answer fits sooner
        | inr other ↦ omega (arith, now.finds.lower, was.passed number arc arrival from (omega (arith, other.1)) is early answer fits sooner)
      ];
    }
