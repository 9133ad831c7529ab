use Rattle.std.proofs.Common.{◌≡◌, ◌+◌, length, arith, subst}
use Rattle.std.proofs.lemmas.Grind.{common_steps}
use Rattle.std.specs.Prelude.{is_ok}
use Rattle.ea_report.specs.Asked.{shape_of}
use Rattle.ea_batch.specs.Drafts.{IsDraftAt}
use Rattle.ea_batch.proofs.Placing.{put_if}
use Rattle.ea_batch.proofs.draft.make_drafts.Goals as goal

pub loop-at-preserved : goal.loop-at-preserved
loop-at-preserved c =
    let inv = c.loop-at.invariant in
    let drafts = c.loop-at.made.drafts.items in
    let fits = IsDraftAt (shape_of c.args.job.shown) c.args.job.road.now c.args.job.queries.now in
    let place : c.loop-at.at ≡ c.loop-at.made.from + length drafts = omega (arith, inv.count, inv.from) in
    let new = subst (λ n. fits n c.make_draft_at-draft.result) place c.make_draft_at-draft.ensures.draft in
    record {
      count = grind (arith, common_steps);
      from = inv.from;
      drafts = put_if fits c.loop-at.made.from drafts c.push.new.self.items c.make_draft_at-draft.result (is_ok c.push.result) inv.drafts new c.push.ensures.items;
      search = c.make_draft_at-draft.ensures.search;
    }

pub returns-in-Err-clause-drafts : goal.returns-in-Err-clause-drafts
returns-in-Err-clause-drafts c =
    let inv = c.loop-at.invariant in
    let drafts = c.loop-at.made.drafts.items in
    let fits = IsDraftAt (shape_of c.args.job.shown) c.args.job.road.now c.args.job.queries.now in
    let place : c.loop-at.at ≡ c.loop-at.made.from + length drafts = omega (arith, inv.count, inv.from) in
    let new = subst (λ n. fits n c.make_draft_at-draft.result) place c.make_draft_at-draft.ensures.draft in
    put_if fits c.loop-at.made.from drafts c.push.new.self.items c.make_draft_at-draft.result (is_ok c.push.result) inv.drafts new c.push.ensures.items
