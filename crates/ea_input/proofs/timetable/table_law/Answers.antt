use Rattle.std.proofs.Common.{arith}
use Rattle.ea_input.proofs.Grammars.{table_grammar, grammar_law}
use Rattle.ea_input.proofs.timetable.table_law.Goals as goal

pub returns : goal.returns
returns c = grammar_law (table_grammar c.args._arcs (omega (arith, c.ranges)))
