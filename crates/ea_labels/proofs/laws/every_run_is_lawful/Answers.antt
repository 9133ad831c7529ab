use Rattle.ea_labels.proofs.Runs.{every_run}
use Rattle.ea_labels.proofs.laws.every_run_is_lawful.Goals as goal

pub returns : goal.returns
returns g c = every_run g.K.Known.is_known
