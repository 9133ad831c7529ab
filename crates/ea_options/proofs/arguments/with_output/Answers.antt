use Rattle.ea_options.proofs.arguments.with_output.Goals as goal

pub returns : goal.returns
returns c = λ app built. c.with_arg.ensures app _ built c.output_file.ensures.rule c.output_file.ensures.local
