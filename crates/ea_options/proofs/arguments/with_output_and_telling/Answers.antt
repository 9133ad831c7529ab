use Rattle.ea_options.proofs.arguments.with_output_and_telling.Goals as goal

pub returns : goal.returns
returns c = λ app built. c.with_telling.ensures _ (c.with_output.ensures _ built)
