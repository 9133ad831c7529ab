use Rattle.std.proofs.Common.{◌≡◌, ◌+◌, IfSome, length}
use Rattle.ea_report.specs.Asked.{shape_of}
use Rattle.ea_batch.specs.Drafts.{AreDraftsAt}
use Rattle.ea_batch.specs.Solved.{Serves}
use Rattle.ea_batch.proofs.draft.make_drafts.Given as goal

abbrev pub invariant-loop-at : goal.invariant-loop-at
invariant-loop-at l = record {
  count : l.span.from + length l.made.drafts.items ≡ l.at;
  from : l.made.from ≡ l.span.from;
  drafts : AreDraftsAt (shape_of l.job.shown) l.job.road.now l.job.queries.now l.made.from l.made.drafts.items;
  search : IfSome l.last (Serves l.job.road.now.network l.job.shown.style.walks);
}
