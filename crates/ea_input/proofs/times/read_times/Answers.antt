use Rattle.std.proofs.Common.{arith}
use Rattle.ea_bytes.specs.Text.{field_lines}
use Rattle.ea_input.proofs.Grammars.{time_grammar, gives_fault, gives_that_fault}
use Rattle.ea_input.proofs.Items.{gives_denoted, gives_only}
use Rattle.ea_input.proofs.Sorts.{of_times}
use Rattle.ea_input.proofs.times.read_times.Goals as goal

pub returns-clause-denoted : goal.returns-clause-denoted
returns-clause-denoted c = gives_denoted (of_times c.args.count (omega (arith, c.ranges))) (λ times. times.items) c.read_all_times.result (field_lines c.args.text.now) c.read_all_times.ensures.exact

pub returns-clause-only : goal.returns-clause-only
returns-clause-only c = gives_only (of_times c.args.count (omega (arith, c.ranges))) (λ times. times.items) c.read_all_times.result (field_lines c.args.text.now) c.read_all_times.ensures.exact

pub returns-clause-fault : goal.returns-clause-fault
returns-clause-fault c = gives_fault (time_grammar c.args.count (omega (arith, c.ranges))) (λ times. times.items) c.read_all_times.result (field_lines c.args.text.now) c.read_all_times.ensures.exact

pub returns-clause-faulty : goal.returns-clause-faulty
returns-clause-faulty c = gives_that_fault (time_grammar c.args.count (omega (arith, c.ranges))) (λ times. times.items) c.read_all_times.result (field_lines c.args.text.now) c.read_all_times.ensures.exact
