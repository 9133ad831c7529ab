use Rattle.ea_options.proofs.arguments.with_valued.Goals as goal

pub returns : goal.returns
returns c = λ app built. c.with_arg.ensures app _ built c.valued.ensures.rule c.valued.ensures.local
