use Rattle.std.proofs.Common.{arith}
use Rattle.ea_input.proofs.Grammars.{time_grammar, grammar_law}
use Rattle.ea_input.proofs.times.time_law.Goals as goal

pub returns : goal.returns
returns c = grammar_law (time_grammar c.args._count (omega (arith, c.ranges)))
