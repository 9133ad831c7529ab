use Rattle.std.proofs.Common.{refl}
use Rattle.ea_load.proofs.There.{table_there}
use Rattle.ea_load.proofs.file_readers.read_table.Goals as goal

pub returns-in-Some-clause-denoted : goal.returns-in-Some-clause-denoted
returns-in-Some-clause-denoted g c = table_there g.R.Device.seen c.args.tp.now _ _ _ c.args.arcs c.read_timetables.result c.in-Some.is refl c.read_timetables.ensures.denoted
