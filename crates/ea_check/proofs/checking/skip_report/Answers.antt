use Rattle.ea_check.proofs.Streamed.{skipped_stops, skipped_whole}
use Rattle.ea_check.proofs.checking.skip_report.Goals as goal

pub returns-clause-read : goal.returns-clause-read
returns-clause-read g c = skipped_whole _ _ c.in_ok-lines.lines _ c.skip_rest.result c.in_ok-lines.ensures c.skip_rest.ensures.rest

pub returns-clause-fault : goal.returns-clause-fault
returns-clause-fault g c = skipped_stops _ _ c.in_ok-lines.lines c.skip_rest.result c.in_ok-lines.ensures c.skip_rest.ensures.fault
