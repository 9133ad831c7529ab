use Rattle.ea_options.specs.Grammar.{rank_app}
use Rattle.ea_options.proofs.commands.rank_command.Goals as goal

pub returns : goal.returns
unfolding rank_app
returns c = c.with_output_and_telling.ensures _ (c.with_search-command.ensures _ (c.with_file-command-2.ensures _ (c.with_file-command.ensures _ c.begun-command.ensures)))
