use Rattle.ea_layout.proofs.Renaming.{problem_renamed, renamed_network}
use Rattle.ea_layout.proofs.laws.renamed_problems_are_problems.Goals as goal

pub returns-clause-network : goal.returns-clause-network
returns-clause-network g c = renamed_network c.args.network.now c.args.there.now c.args.back.now c.keeps_limits.ensures c.requires.reverse

pub returns-clause-problem : goal.returns-clause-problem
returns-clause-problem g c = problem_renamed c.args.network.now _ c.args.query.now c.args.there.now c.args.back.now c.keeps_limits.ensures c.requires.reverse c.requires.problem
