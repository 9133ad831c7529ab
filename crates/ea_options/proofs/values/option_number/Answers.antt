use Rattle.std.proofs.Common.{◌∙◌, ap}
use Rattle.clap.specs.Words.{found_of}
use Rattle.clap.proofs.WalkLemmas.{first_value-rows}
use Rattle.ea_options.specs.Values.{number_in}
use Rattle.ea_options.proofs.values.option_number.Goals as goal

pub returns-clause-value : goal.returns-clause-value
returns-clause-value c = c.number_or.ensures.value ∙ ap (number_in c.args.default c.args.low c.args.high) (c.get_str.ensures ∙ first_value-rows (found_of c.args.matches.now) c.args.name.now)
