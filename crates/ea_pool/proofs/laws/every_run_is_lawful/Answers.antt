use Rattle.ea_pool.proofs.Runs.{every_run}
use Rattle.ea_pool.proofs.laws.every_run_is_lawful.Goals as goal

pub returns : goal.returns
returns g c = λ kind. every_run g.K.Known.is_known kind
