use Rattle.std.proofs.Common.{arith}
use Rattle.ea_input.proofs.Grammars.{source_grammar, whole_denoted, whole_fault}
use Rattle.ea_input.proofs.sources.read_ss_from.Goals as goal

pub returns-clause-denoted : goal.returns-clause-denoted
returns-clause-denoted g c = whole_denoted (source_grammar c.args.nodes (omega (arith, c.ranges))) (λ sources. sources.items) c.args.limit _ _ c.read_sources_from.result c.read_sources_from.ensures.exact

pub returns-clause-fault : goal.returns-clause-fault
returns-clause-fault g c = whole_fault (source_grammar c.args.nodes (omega (arith, c.ranges))) (λ sources. sources.items) c.args.limit _ _ c.read_sources_from.result c.read_sources_from.ensures.exact
