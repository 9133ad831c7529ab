use Rattle.ea_layout.proofs.Renaming.{least_back, least_renamed}
use Rattle.ea_layout.proofs.RenamedLevels.{canonical_again, canonical_renamed, level_again, level_renamed}
use Rattle.ea_layout.proofs.laws.renaming_changes_no_answer.Goals as goal

pub returns-clause-least : goal.returns-clause-least
returns-clause-least g c = λ node arrival is. (
  least_renamed c.args.network.now _ c.args.query.now.sources c.args.there.now c.args.back.now c.keeps_limits.ensures c.requires.reverse c.requires.problem.sources node arrival is,
  least_back c.args.network.now _ c.args.query.now.sources c.args.there.now c.args.back.now c.keeps_limits.ensures c.requires.reverse c.requires.problem.sources node arrival is,
)

pub returns-clause-level : goal.returns-clause-level
returns-clause-level g c = λ node level is. (
  level_renamed c.args.network.now _ c.args.query.now.sources c.args.there.now c.args.back.now c.keeps_limits.ensures c.requires.reverse c.requires.problem.sources node level,
  level_again c.args.network.now _ c.args.query.now.sources c.args.there.now c.args.back.now c.keeps_limits.ensures c.requires.reverse c.requires.problem.sources node level is,
)

pub returns-clause-canonical : goal.returns-clause-canonical
returns-clause-canonical g c = λ node walk is. (
  canonical_renamed c.args.network.now _ c.args.query.now.sources c.args.there.now c.args.back.now c.keeps_limits.ensures c.requires.reverse c.requires.problem.sources node walk,
  canonical_again c.args.network.now _ c.args.query.now.sources c.args.there.now c.args.back.now c.keeps_limits.ensures c.requires.reverse c.requires.problem.sources node walk is,
)
