use Rattle.earliest.proofs.Agreeing.{answered_pairs_agree, answered_runs_agree}
use Rattle.earliest.proofs.OneReport.{runs_have_one_report, pairs_have_one_report}
use Rattle.earliest.proofs.laws.reports_are_one.Goals as goal

pub returns-clause-runs : goal.returns-clause-runs
returns-clause-runs c = runs_have_one_report

pub returns-clause-pairs : goal.returns-clause-pairs
returns-clause-pairs c = pairs_have_one_report

pub returns-clause-answered_runs : goal.returns-clause-answered_runs
returns-clause-answered_runs c = answered_runs_agree

pub returns-clause-answered_pairs : goal.returns-clause-answered_pairs
returns-clause-answered_pairs c = answered_pairs_agree
