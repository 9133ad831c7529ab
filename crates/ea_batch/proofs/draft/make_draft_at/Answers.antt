use Rattle.std.proofs.Common.{◌∙◌, subst}
use Rattle.std.proofs.lemmas.Option.{get_or_from_slice_get}
use Rattle.ea_road.specs.Queries.{Asking}
use Rattle.ea_report.specs.Asked.{shape_of}
use Rattle.ea_batch.specs.Drafts.{IsDraftOf}
use Rattle.ea_batch.proofs.draft.make_draft_at.Goals as goal

pub returns-then-is_some-clause-draft : goal.returns-then-is_some-clause-draft
returns-then-is_some-clause-draft c query there =
    let job = c.args.job in
    let same = c.in-Some.ensures.lookup.1 ∙ get_or_from_slice_get job.queries.now c.args.at query c.in-Some.query.now there in
    subst (λ (asked : Asking). IsDraftOf (shape_of job.shown) job.road.now asked c.make_draft.result) same c.make_draft.ensures.draft
