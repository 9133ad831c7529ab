use Rattle.ea_options.proofs.arguments.with_prepare.Goals as goal

pub returns : goal.returns
returns c = λ app built. c.with_valued.ensures _ built
