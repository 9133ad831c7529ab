use Rattle.std.proofs.Common.{map, refl}
use Rattle.clap.proofs.TakesLemmas.{passed_up}
use Rattle.clap.specs.declared.builder.command.Command.{Command}
use Rattle.std.specs.Prelude.{Result}
use Rattle.ea_options.specs.Building.{Builds}
use Rattle.ea_options.specs.Meaning.{run_verb, app_by, files, second_by, reported_by}
use Rattle.ea_options.specs.Refusals.{IsReadBy}
use Rattle.ea_options.proofs.Refused.{asks_by}
use Rattle.ea_options.proofs.meaning.run_of_words.Goals as goal

read : {E : Type 0} (command : Result Command E) → Builds (app_by run_verb) command → IsReadBy run_verb command (second_by run_verb) (reported_by run_verb)
read command built = record { built = built; called = refl; wants = refl }

pub asked_of_words-requires : goal.asked_of_words-requires
asked_of_words-requires g c = (run_verb, read c.run_command-command.result c.run_command-command.ensures)

pub returns-in_err-names-clause-err : goal.returns-in_err-names-clause-err
returns-in_err-names-clause-err g c =
    passed_up c.from_residual.result c.in_err-names.field-0.0 _ c.from_residual.ensures.1 (c.in_err-names.ensures.err run_verb (read c.run_command-command.result c.run_command-command.ensures))

pub returns-clause-ok : goal.returns-clause-ok
returns-clause-ok g c = asks_by run_verb (map g.S.AsStr.text c.args.words.now) (files c.in_ok-names.names) c.in_ok-names.options _
    (c.in_ok-names.ensures.ok run_verb (read c.run_command-command.result c.run_command-command.ensures)) refl
