use Rattle.std.proofs.Common.{arith}
use Rattle.ea_bytes.specs.Text.{field_lines}
use Rattle.ea_input.proofs.Grammars.{source_grammar, gives_fault, gives_that_fault}
use Rattle.ea_input.proofs.Items.{gives_denoted, gives_only}
use Rattle.ea_input.proofs.Sorts.{of_sources}
use Rattle.ea_input.proofs.sources.read_ss.Goals as goal

pub returns-clause-denoted : goal.returns-clause-denoted
returns-clause-denoted c = gives_denoted (of_sources c.args.nodes (omega (arith, c.ranges))) (λ sources. sources.items) c.read_sources.result (field_lines c.args.text.now) c.read_sources.ensures.exact

pub returns-clause-only : goal.returns-clause-only
returns-clause-only c = gives_only (of_sources c.args.nodes (omega (arith, c.ranges))) (λ sources. sources.items) c.read_sources.result (field_lines c.args.text.now) c.read_sources.ensures.exact

pub returns-clause-fault : goal.returns-clause-fault
returns-clause-fault c = gives_fault (source_grammar c.args.nodes (omega (arith, c.ranges))) (λ sources. sources.items) c.read_sources.result (field_lines c.args.text.now) c.read_sources.ensures.exact

pub returns-clause-faulty : goal.returns-clause-faulty
returns-clause-faulty c = gives_that_fault (source_grammar c.args.nodes (omega (arith, c.ranges))) (λ sources. sources.items) c.read_sources.result (field_lines c.args.text.now) c.read_sources.ensures.exact
