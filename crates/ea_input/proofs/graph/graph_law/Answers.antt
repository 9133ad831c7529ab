use Rattle.ea_input.proofs.Grammars.{graph_grammar, grammar_law}
use Rattle.ea_input.proofs.graph.graph_law.Goals as goal

pub returns : goal.returns
returns c = grammar_law graph_grammar
