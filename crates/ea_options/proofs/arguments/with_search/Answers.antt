use Rattle.ea_options.proofs.arguments.with_search.Goals as goal

pub returns : goal.returns
returns c = λ app built. c.with_workers.ensures _ (c.with_departures.ensures _ built)
