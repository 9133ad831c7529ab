use Rattle.std.proofs.Common.{refl, ◌<◌, ap, arith, subst, sym}
use Rattle.std.proofs.lemmas.Bool.{false≢true}
use Rattle.std.proofs.lemmas.Bool.Decides.{nat_tests}
use Rattle.ea_engine.specs.Closed.{IsCut}
use Rattle.ea_engine.proofs.ProgressLemmas.{OnlySaw-more, OnlySaw-none}
use Rattle.ea_engine.proofs.BoundLemmas.{IsReachedBefore-noted, least_is_before}
use Rattle.ea_engine.proofs.worker.visit.is_above_target.Goals as goal

pub returns-in-Some : goal.returns-in-Some
returns-in-Some g c = record {
  saw = record {
    same_table = c.read.ensures.same_table;
    saw = OnlySaw-more _ _ _ c.in-Some.node c.read.result (OnlySaw-none _) c.read.ensures.gains;
  };
  cut = λ above.
      let low : c.read.result < c.args.entry.key = grind (arith, nat_tests) in
      subst (λ t. IsCut t c.read.new.seat.history.bounds c.args.entry) (sym c.in-Some.is)
      (IsReachedBefore-noted _ _ c.in-Some.node c.read.result c.args.entry.key (ap (λ x. x.bounds) c.read.ensures.gains) low);
  known = λ cut.
      let known = subst (λ t. IsCut t c.args.seat.now.history.bounds c.args.entry) c.in-Some.is cut in
      let low = least_is_before _ c.in-Some.node c.read.result c.args.entry.key c.read.ensures.least known in
      grind (arith, nat_tests);
}

pub returns-in-None : goal.returns-in-None
returns-in-None g c = record {
  saw = record { same_table = refl; saw = OnlySaw-none _ };
  cut = λ above. absurd (false≢true above);
  known = λ cut. absurd (subst (λ t. IsCut t c.args.seat.now.history.bounds c.args.entry) c.in-None.is cut);
}
