use Rattle.std.proofs.Common.{arith}
use Rattle.ea_input.proofs.Grammars.{time_grammar, whole_denoted, whole_fault}
use Rattle.ea_input.proofs.times.read_times_from.Goals as goal

pub returns-clause-denoted : goal.returns-clause-denoted
returns-clause-denoted g c = whole_denoted (time_grammar c.args.count (omega (arith, c.ranges))) (λ times. times.items) c.args.limit _ _ c.read_all_times_from.result c.read_all_times_from.ensures.exact

pub returns-clause-fault : goal.returns-clause-fault
returns-clause-fault g c = whole_fault (time_grammar c.args.count (omega (arith, c.ranges))) (λ times. times.items) c.args.limit _ _ c.read_all_times_from.result c.read_all_times_from.ensures.exact
