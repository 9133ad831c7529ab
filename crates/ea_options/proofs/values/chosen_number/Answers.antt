use Rattle.std.proofs.Common.{◌∙◌, ap}
use Rattle.clap.specs.Words.{found_of}
use Rattle.clap.proofs.WalkLemmas.{first_value-rows}
use Rattle.ea_options.specs.Values.{number_if_given}
use Rattle.ea_options.proofs.values.chosen_number.Goals as goal

pub returns-clause-value : goal.returns-clause-value
returns-clause-value c = c.number_if_given.ensures.value ∙ ap (number_if_given c.args.low c.args.high) (c.get_str.ensures ∙ first_value-rows (found_of c.args.matches.now) c.args.name.now)
