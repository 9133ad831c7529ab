use Rattle.ea_input.specs.Views.{graph}
use Rattle.ea_input.proofs.Grammars.{graph_grammar, whole_denoted, whole_fault}
use Rattle.ea_input.proofs.graph.read_gr_by.Goals as goal

pub returns-clause-denoted : goal.returns-clause-denoted
returns-clause-denoted g c = whole_denoted graph_grammar graph c.args.limit _ _ c.read_graph_from.result c.read_graph_from.ensures.exact

pub returns-clause-fault : goal.returns-clause-fault
returns-clause-fault g c = whole_fault graph_grammar graph c.args.limit _ _ c.read_graph_from.result c.read_graph_from.ensures.exact
