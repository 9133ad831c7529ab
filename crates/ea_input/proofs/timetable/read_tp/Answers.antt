use Rattle.std.proofs.Common.{arith}
use Rattle.ea_bytes.specs.Text.{field_lines}
use Rattle.ea_input.specs.TableViews.{table}
use Rattle.ea_input.proofs.Grammars.{table_grammar, gives_fault, gives_that_fault}
use Rattle.ea_input.proofs.TableDenoted.{gives_denoted, gives_only}
use Rattle.ea_input.proofs.timetable.read_tp.Goals as goal

pub returns-clause-denoted : goal.returns-clause-denoted
returns-clause-denoted c = gives_denoted table c.read_table.result c.args.arcs (field_lines c.args.text.now) (omega (arith, c.ranges)) c.read_table.ensures.exact

pub returns-clause-only : goal.returns-clause-only
returns-clause-only c = gives_only table c.read_table.result c.args.arcs (field_lines c.args.text.now) (omega (arith, c.ranges)) c.read_table.ensures.exact

pub returns-clause-fault : goal.returns-clause-fault
returns-clause-fault c = gives_fault (table_grammar c.args.arcs (omega (arith, c.ranges))) table c.read_table.result (field_lines c.args.text.now) c.read_table.ensures.exact

pub returns-clause-faulty : goal.returns-clause-faulty
returns-clause-faulty c = gives_that_fault (table_grammar c.args.arcs (omega (arith, c.ranges))) table c.read_table.result (field_lines c.args.text.now) c.read_table.ensures.exact
