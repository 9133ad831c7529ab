use Rattle.ea_options.proofs.arguments.with_file.Goals as goal

pub returns : goal.returns
returns c = λ app built. c.with_arg.ensures app _ built c.file.ensures.rule c.file.ensures.local
