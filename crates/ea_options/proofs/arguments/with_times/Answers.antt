use Rattle.ea_options.proofs.arguments.with_times.Goals as goal

pub returns : goal.returns
returns c = λ app built. c.with_valued.ensures _ (c.with_valued-command-2.ensures _ (c.with_valued-command.ensures _ built))
