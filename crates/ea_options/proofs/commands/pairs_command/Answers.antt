use Rattle.ea_options.specs.Grammar.{pairs_app}
use Rattle.ea_options.proofs.commands.pairs_command.Goals as goal

pub returns : goal.returns
unfolding pairs_app
returns c = c.with_output_and_telling.ensures _ (c.with_prepare-command.ensures _ (c.with_report-command.ensures _ (c.with_workers-command.ensures _ (c.with_all_times-command.ensures _ (c.with_file-command-2.ensures _ (c.with_file-command.ensures _ c.begun-command.ensures))))))
