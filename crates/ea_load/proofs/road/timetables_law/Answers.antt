use Rattle.std.proofs.Common.{length}
use Rattle.ea_load.proofs.Stepping.{kinds_fit}
use Rattle.ea_load.proofs.road.timetables_law.Goals as goal

pub returns : goal.returns
returns c lines table is = kinds_fit c.args._arcs (length table.kinds) is.others table is.lists
