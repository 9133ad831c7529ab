use Rattle.ea_report.specs.Asked.{shape_of}
use Rattle.ea_batch.specs.Drafts.{IsDraftAt}
use Rattle.ea_batch.proofs.parallel_reports.report_ahead.Given as goal

-- the drafts of the problems of this call
abbrev pub ghosts-report_asked : goal.ghosts-report_asked
ghosts-report_asked g a = record { fits = IsDraftAt (shape_of a.job.shown) a.job.road.now a.job.queries.now }
