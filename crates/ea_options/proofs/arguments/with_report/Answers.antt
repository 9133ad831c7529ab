use Rattle.ea_options.proofs.arguments.with_report.Goals as goal

pub returns : goal.returns
returns c = λ app built. c.with_flag.ensures _ (c.with_flag-command.ensures _ (c.with_valued-command-3.ensures _ (c.with_valued-command-2.ensures _ (c.with_valued-command.ensures _ built))))
