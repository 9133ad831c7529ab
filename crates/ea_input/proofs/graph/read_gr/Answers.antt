use Rattle.ea_bytes.specs.Text.{field_lines}
use Rattle.ea_input.specs.Views.{graph}
use Rattle.ea_input.proofs.Grammars.{graph_grammar, gives_denoted, gives_fault, gives_only, gives_that_fault}
use Rattle.ea_input.proofs.graph.read_gr.Goals as goal

pub returns-clause-denoted : goal.returns-clause-denoted
returns-clause-denoted c = gives_denoted graph_grammar graph c.read_graph.result (field_lines c.args.text.now) c.read_graph.ensures.exact

pub returns-clause-only : goal.returns-clause-only
returns-clause-only c = gives_only graph_grammar graph c.read_graph.result (field_lines c.args.text.now) c.read_graph.ensures.exact

pub returns-clause-fault : goal.returns-clause-fault
returns-clause-fault c = gives_fault graph_grammar graph c.read_graph.result (field_lines c.args.text.now) c.read_graph.ensures.exact

pub returns-clause-faulty : goal.returns-clause-faulty
returns-clause-faulty c = gives_that_fault graph_grammar graph c.read_graph.result (field_lines c.args.text.now) c.read_graph.ensures.exact
