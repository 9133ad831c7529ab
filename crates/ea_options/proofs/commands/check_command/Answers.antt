use Rattle.ea_options.specs.Grammar.{check_app}
use Rattle.ea_options.proofs.commands.check_command.Goals as goal

pub returns : goal.returns
unfolding check_app
returns c = c.with_telling.ensures _ (c.with_flag-command.ensures _ (c.with_all_times-command.ensures _ (c.with_file-command-3.ensures _ (c.with_file-command-2.ensures _ (c.with_file-command.ensures _ c.begun-command.ensures)))))
