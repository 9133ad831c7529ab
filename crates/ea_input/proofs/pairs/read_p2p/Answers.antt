use Rattle.std.proofs.Common.{arith}
use Rattle.ea_bytes.specs.Text.{field_lines}
use Rattle.ea_input.proofs.Grammars.{pair_grammar, gives_fault, gives_that_fault}
use Rattle.ea_input.proofs.Items.{gives_denoted, gives_only}
use Rattle.ea_input.proofs.Sorts.{of_pairs}
use Rattle.ea_input.proofs.pairs.read_p2p.Goals as goal

pub returns-clause-denoted : goal.returns-clause-denoted
returns-clause-denoted c = gives_denoted (of_pairs c.args.nodes (omega (arith, c.ranges))) (λ pairs. pairs.items) c.read_pairs.result (field_lines c.args.text.now) c.read_pairs.ensures.exact

pub returns-clause-only : goal.returns-clause-only
returns-clause-only c = gives_only (of_pairs c.args.nodes (omega (arith, c.ranges))) (λ pairs. pairs.items) c.read_pairs.result (field_lines c.args.text.now) c.read_pairs.ensures.exact

pub returns-clause-fault : goal.returns-clause-fault
returns-clause-fault c = gives_fault (pair_grammar c.args.nodes (omega (arith, c.ranges))) (λ pairs. pairs.items) c.read_pairs.result (field_lines c.args.text.now) c.read_pairs.ensures.exact

pub returns-clause-faulty : goal.returns-clause-faulty
returns-clause-faulty c = gives_that_fault (pair_grammar c.args.nodes (omega (arith, c.ranges))) (λ pairs. pairs.items) c.read_pairs.result (field_lines c.args.text.now) c.read_pairs.ensures.exact
