use Rattle.std.proofs.Common.{map}
use Rattle.ea_options.specs.Grammar.{program}
use Rattle.ea_options.proofs.Refused.{stray_refused, stray_taken}
use Rattle.ea_options.proofs.SimpleApps.{simple_program, simple_built, free_program, free_built}
use Rattle.ea_options.proofs.meaning.refusal_of_words.Goals as goal

pub matches_of_built-requires-clause-simple : goal.matches_of_built-requires-clause-simple
matches_of_built-requires-clause-simple g c = simple_built program c.program.result simple_program c.program.ensures

pub matches_of_built-requires-clause-free : goal.matches_of_built-requires-clause-free
matches_of_built-requires-clause-free g c = free_built program c.program.result free_program c.program.ensures

pub returns-in-Ok : goal.returns-in-Ok
returns-in-Ok g c = stray_taken (map g.S.AsStr.text c.args.words.now) c.no_command.result (c.in-Ok.ensures.taken program c.program.ensures) c.no_command.ensures

pub returns : goal.returns
returns g c = stray_refused (map g.S.AsStr.text c.args.words.now) c.in-Err.fault (c.in-Err.ensures.refused program c.program.ensures)
