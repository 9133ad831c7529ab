use Rattle.std.proofs.Common.{◌∙◌, ap, arith, refl, subst, sym}
use Rattle.ea_road.specs.Roads.{IsNode}
use Rattle.ea_labels.specs.Core.{bound}
use Rattle.ea_engine.proofs.BoundLemmas.{IsReachedBy-noted}
use Rattle.ea_engine.proofs.ProgressLemmas.{Contains-kept}
use Rattle.ea_engine.proofs.AccountLemmas.{closed_noted}
use Rattle.ea_engine.proofs.OpeningLemmas.{OpensUpTo-none}
use Rattle.ea_engine.proofs.SeedLemmas.{sows_of}
use Rattle.ea_engine.proofs.run.seeds.seed.Goals as goal

pub offer-offered-requires-clause-same_table : goal.offer-offered-requires-clause-same_table
offer-offered-requires-clause-same_table g c κs outlives = c.requires.account.fit.labels

pub offer-offered-requires-clause-node : goal.offer-offered-requires-clause-node
offer-offered-requires-clause-node g c κs outlives = c.requires.source.node

pub offer-offered-requires-clause-known : goal.offer-offered-requires-clause-known
offer-offered-requires-clause-known g c κs outlives = c.requires.source.is_known

pub sow-requires-clause-seat : goal.sow-requires-clause-seat
sow-requires-clause-seat g c κs outlives = c.requires.account.fit.pool

pub sow-requires-clause-source : goal.sow-requires-clause-source
sow-requires-clause-source g c κs outlives = record {
  node = subst (λ n. IsNode n c.args.source.node) (sym c.requires.account.nodes_are) c.requires.source.node;
  is_known = c.requires.source.is_known;
}

pub returns-in-Kept : goal.returns-in-Kept
returns-in-Kept g c =
    let kept = c.in-Kept.ensures.kept in
    record {
      account =
          let account = c.requires.account in
          let h = account.gathered in
          record {
            fit = record { labels = c.offer-offered.ensures.same_table ∙ account.fit.labels; pool = account.fit.pool };
            gathered = record { back = h.back; refused = h.refused; closed = closed_noted _ _ _ _ c.args.source.node c.in-Kept.field-0 h.back h.refused c.in-Kept.ensures.kept.3 h.closed; waits = h.waits };
            nodes_are = account.nodes_are;
          };
      reached = IsReachedBy-noted _ _ c.args.source.node c.in-Kept.field-0 c.args.source.departure (ap (λ x. x.bounds) kept.3) kept.1;
      bounds = λ b inside. Contains-kept (bound c.args.source.node c.in-Kept.field-0) _ _ b (ap (λ x. x.bounds) kept.3) inside;
      offers = record {
        same = ap (λ x. x.lowerings) kept.3;
        alone = λ whole.
            let low = c.in-Kept.ensures.alone whole in
            (low.0, low.1, low.2, low.3, (low.4.0, omega (arith, low.4.1, kept.1)));
      };
      step = record { pushed_is = omega arith; popped_is = refl; label_shares = c.offer-offered.ensures.same_shares; pool_shares = refl };
      opens = OpensUpTo-none _;
    }

pub returns-in-Lowered : goal.returns-in-Lowered
returns-in-Lowered g c =
    let fell = c.in-Lowered.ensures.lowered in
    let sown = c.sow.ensures in
    record {
      account =
          let account = c.requires.account in
          let fell = c.in-Lowered.ensures.lowered in
          record {
            fit = record { labels = c.offer-offered.ensures.same_table ∙ account.fit.labels; pool = c.sow.ensures.of_pool };
            gathered = c.sow.ensures.gathered _ _ (record { from = fell.0; after_is = fell.4 }) account.gathered;
            nodes_are = c.sow.ensures.opens.nodes_are ∙ account.nodes_are;
          };
      reached = IsReachedBy-noted _ _ c.args.source.node c.args.source.departure c.args.source.departure (ap (λ x. x.bounds) fell.4) (omega arith);
      bounds = λ b inside. Contains-kept (bound c.args.source.node c.args.source.departure) _ _ b (ap (λ x. x.bounds) fell.4) inside;
      offers = sown.offers _ _ (sows_of g.K.Known.is_known _ _ c.args.source fell);
      step = record { pushed_is = sown.step.pushed_is; popped_is = sown.step.popped_is; label_shares = c.offer-offered.ensures.same_shares; pool_shares = sown.step.shares_are };
      opens = sown.opens;
    }
