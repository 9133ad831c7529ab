use Rattle.ea_options.specs.Grammar.{run_app}
use Rattle.ea_options.proofs.commands.run_command.Goals as goal

pub returns : goal.returns
unfolding run_app
returns c = c.with_output_and_telling.ensures _ (c.with_flag-command.ensures _ (c.with_nodes-command.ensures _ (c.with_report-command.ensures _ (c.with_workers-command.ensures _ (c.with_all_times-command.ensures _ (c.with_file-command-2.ensures _ (c.with_file-command.ensures _ c.begun-command.ensures)))))))
