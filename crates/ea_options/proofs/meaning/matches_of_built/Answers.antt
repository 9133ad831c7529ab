use Rattle.std.proofs.Common.{◌≡◌, subst, true, map, []}
use Rattle.std.proofs.lemmas.Result.{IfOk-at_ok}
use Rattle.std.specs.Prelude.{IfErr, IfOk}
use Rattle.clap.specs.Words.{App, app_of, fault_of, found_of, is_simple, is_simple_and_free, matches_of, rows_of}
use Rattle.clap.specs.declared.builder.command.Command.{Command}
use Rattle.ea_options.specs.Refusals.{IsRefusalBy}
use Rattle.ea_options.proofs.Built.{built_in, parsed_in}
use Rattle.ea_options.proofs.meaning.matches_of_built.Goals as goal

pub matches_in-requires-clause-simple : goal.matches_in-requires-clause-simple
matches_in-requires-clause-simple g c = IfOk-at_ok (λ (d : Command). is_simple (app_of d) ≡ true) c.in-Ok.is c.requires.simple

pub matches_in-requires-clause-free : goal.matches_in-requires-clause-free
matches_in-requires-clause-free g c = IfOk-at_ok (λ (d : Command). is_simple_and_free (app_of d) ≡ true) c.in-Ok.is c.requires.free

pub returns-in-Ok-clause-taken : goal.returns-in-Ok-clause-taken
returns-in-Ok-clause-taken g c = λ app built.
    let words = map g.S.AsStr.text c.args.words.now in
    subst (λ (a : App). IfOk c.matches_in.result (λ m. fault_of a words ≡ [])) (built_in c.args.command c.in-Ok.command app c.in-Ok.is built).known c.matches_in.ensures.taken

pub returns-in-Ok-clause-parsed : goal.returns-in-Ok-clause-parsed
returns-in-Ok-clause-parsed g c = parsed_in c.args.command c.in-Ok.command c.matches_in.result c.in-Ok.is c.matches_in.ensures.parsed

pub returns-in-Ok-clause-rows : goal.returns-in-Ok-clause-rows
returns-in-Ok-clause-rows g c = λ app built.
    let words = map g.S.AsStr.text c.args.words.now in
    subst (λ (a : App). IfOk c.matches_in.result (λ m. rows_of (found_of m) ≡ matches_of a words)) (built_in c.args.command c.in-Ok.command app c.in-Ok.is built).known c.matches_in.ensures.rows

pub returns-in-Ok-clause-refused : goal.returns-in-Ok-clause-refused
returns-in-Ok-clause-refused g c = λ app built.
    let words = map g.S.AsStr.text c.args.words.now in
    subst (λ (a : App). IfErr c.matches_in.result (IsRefusalBy (fault_of a words))) (built_in c.args.command c.in-Ok.command app c.in-Ok.is built).known c.matches_in.ensures.refused
