use Rattle.ea_options.proofs.arguments.with_all_times.Goals as goal

pub returns : goal.returns
returns c = λ app built. c.with_times.ensures _ (c.with_departures.ensures _ built)
