use Rattle.std.proofs.Common.{arith}
use Rattle.ea_input.specs.TableViews.{table}
use Rattle.ea_input.proofs.Grammars.{table_grammar, whole_denoted, whole_fault}
use Rattle.ea_input.proofs.timetable.read_tp_by.Goals as goal

pub returns-clause-denoted : goal.returns-clause-denoted
returns-clause-denoted g c = whole_denoted (table_grammar c.args.arcs (omega (arith, c.ranges))) table c.args.limit _ _ c.read_table_from.result c.read_table_from.ensures.exact

pub returns-clause-fault : goal.returns-clause-fault
returns-clause-fault g c = whole_fault (table_grammar c.args.arcs (omega (arith, c.ranges))) table c.args.limit _ _ c.read_table_from.result c.read_table_from.ensures.exact
