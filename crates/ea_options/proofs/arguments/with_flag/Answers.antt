use Rattle.ea_options.proofs.arguments.with_flag.Goals as goal

pub returns : goal.returns
returns c = λ app built. c.with_arg.ensures app _ built c.flag.ensures.rule c.flag.ensures.local
