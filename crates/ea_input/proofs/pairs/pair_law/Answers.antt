use Rattle.std.proofs.Common.{arith}
use Rattle.ea_input.proofs.Grammars.{pair_grammar, grammar_law}
use Rattle.ea_input.proofs.pairs.pair_law.Goals as goal

pub returns : goal.returns
returns c = grammar_law (pair_grammar c.args._nodes (omega (arith, c.ranges)))
