use Rattle.std.proofs.Common.{refl}
use Rattle.ea_load.proofs.There.{table_there}
use Rattle.ea_load.proofs.parallel_readers.read_table_by.Goals as goal

pub returns-in-Some-clause-denoted : goal.returns-in-Some-clause-denoted
returns-in-Some-clause-denoted g c = table_there g.R.Device.seen c.args.tp.now _ _ _ c.args.arcs c.read_timetables_by.result c.in-Some.is refl c.read_timetables_by.ensures.denoted
