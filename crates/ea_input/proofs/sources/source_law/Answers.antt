use Rattle.std.proofs.Common.{arith}
use Rattle.ea_input.proofs.Grammars.{source_grammar, grammar_law}
use Rattle.ea_input.proofs.sources.source_law.Goals as goal

pub returns : goal.returns
returns c = grammar_law (source_grammar c.args._nodes (omega (arith, c.ranges)))
