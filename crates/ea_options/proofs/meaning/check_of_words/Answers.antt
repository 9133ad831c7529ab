use Rattle.std.proofs.Common.{map, refl, arith}
use Rattle.std.proofs.lemmas.Grind.{common_steps}
use Rattle.clap.proofs.CallerLemmas.{some_of_text}
use Rattle.clap.proofs.TakesLemmas.{passed_up}
use Rattle.clap.specs.declared.builder.command.Command.{Command}
use Rattle.std.specs.Prelude.{Result}
use Rattle.ea_options.specs.Building.{Builds}
use Rattle.ea_options.specs.Meaning.{check_verb, app_by, files, second_by, reported_by}
use Rattle.ea_options.specs.Refusals.{IsReadBy}
use Rattle.ea_options.proofs.Refused.{asks_by}
use Rattle.ea_options.proofs.Reported.{check_asked, report_there}
use Rattle.ea_options.proofs.meaning.check_of_words.Goals as goal

read : {E : Type 0} (command : Result Command E) → Builds (app_by check_verb) command → IsReadBy check_verb command (second_by check_verb) (reported_by check_verb)
read command built = record { built = built; called = refl; wants = refl }

pub asked_of_words-requires : goal.asked_of_words-requires
asked_of_words-requires g c = (check_verb, read c.check_command-command.result c.check_command-command.ensures)

pub returns-in_err-names-clause-err : goal.returns-in_err-names-clause-err
returns-in_err-names-clause-err g c =
    passed_up c.from_residual.result c.in_err-names.field-0.0 _ c.from_residual.ensures.1 (c.in_err-names.ensures.err check_verb (read c.check_command-command.result c.check_command-command.ensures))

pub unwrap-requires : goal.unwrap-requires
unwrap-requires g c = some_of_text (λ t. t.now) c.in_ok-names.names.report _ refl (report_there _ _ (files c.in_ok-names.names) (c.in_ok-names.ensures.ok check_verb (read c.check_command-command.result c.check_command-command.ensures)).named)

pub returns-clause-ok : goal.returns-clause-ok
returns-clause-ok g c = asks_by check_verb (map g.S.AsStr.text c.args.words.now) (files c.in_ok-names.names) c.in_ok-names.options _
    (c.in_ok-names.ensures.ok check_verb (read c.check_command-command.result c.check_command-command.ensures)) (check_asked c.in_ok-names.names _ c.in_ok-names.options (grind (arith, common_steps)))
