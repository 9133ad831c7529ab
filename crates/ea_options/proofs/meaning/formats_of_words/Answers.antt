use Rattle.std.proofs.Common.{map, refl}
use Rattle.clap.proofs.TakesLemmas.{passed_up}
use Rattle.ea_options.specs.Grammar.{formats_app}
use Rattle.ea_options.proofs.Refused.{formats_refused}
use Rattle.ea_options.proofs.SimpleApps.{simple_formats, simple_built, free_formats, free_built}
use Rattle.ea_options.proofs.meaning.formats_of_words.Goals as goal

pub matches_of_built-requires-clause-simple : goal.matches_of_built-requires-clause-simple
matches_of_built-requires-clause-simple g c = simple_built formats_app c.formats_command.result simple_formats c.formats_command.ensures

pub matches_of_built-requires-clause-free : goal.matches_of_built-requires-clause-free
matches_of_built-requires-clause-free g c = free_built formats_app c.formats_command.result free_formats c.formats_command.ensures

pub returns-in_err-matches_of_built-clause-err : goal.returns-in_err-matches_of_built-clause-err
returns-in_err-matches_of_built-clause-err g c =
    let fault = c.in_err-matches_of_built.field-0.0 in
    passed_up c.from_residual.result fault _ c.from_residual.ensures.1 (formats_refused (map g.S.AsStr.text c.args.words.now) fault (c.in_err-matches_of_built.ensures.refused formats_app c.formats_command.ensures))

pub returns-clause-ok : goal.returns-clause-ok
returns-clause-ok g c = (c.in_ok-matches_of_built.ensures.taken formats_app c.formats_command.ensures, refl)
