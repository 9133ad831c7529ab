use Rattle.std.proofs.Common.{arith}
use Rattle.ea_input.proofs.Grammars.{pair_grammar, whole_denoted, whole_fault}
use Rattle.ea_input.proofs.pairs.read_p2p_from.Goals as goal

pub returns-clause-denoted : goal.returns-clause-denoted
returns-clause-denoted g c = whole_denoted (pair_grammar c.args.nodes (omega (arith, c.ranges))) (λ pairs. pairs.items) c.args.limit _ _ c.read_pairs_from.result c.read_pairs_from.ensures.exact

pub returns-clause-fault : goal.returns-clause-fault
returns-clause-fault g c = whole_fault (pair_grammar c.args.nodes (omega (arith, c.ranges))) (λ pairs. pairs.items) c.args.limit _ _ c.read_pairs_from.result c.read_pairs_from.ensures.exact
