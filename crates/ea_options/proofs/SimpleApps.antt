-- The commands are of the kind for which clap's contract says the matches and the kinds of error.
use Rattle.std.proofs.Common.{◌≡◌, ◌∙◌, ap, true, refl, Result, Ok, Err}
use Rattle.std.specs.Prelude.{IfOk}
use Rattle.clap.specs.Words.{App, app_of, is_simple, is_simple_and_free}
use Rattle.clap.specs.declared.builder.command.Command.{Command}
use Rattle.clap.proofs.OnLiterals.{clap_on_literals}
use Rattle.ea_options.specs.Building.{Builds}
use Rattle.ea_options.specs.Grammar.{run_app, pairs_app, rank_app, check_app, explain_app, formats_app, program}
use Rattle.ea_options.specs.Meaning.{Verb, run_verb, pairs_verb, rank_verb, check_verb, app_by}

simple_run : is_simple run_app ≡ true
unfolding clap_on_literals run_app
simple_run = refl

free_run : is_simple_and_free run_app ≡ true
unfolding clap_on_literals run_app
free_run = refl

simple_pairs : is_simple pairs_app ≡ true
unfolding clap_on_literals pairs_app
simple_pairs = refl

free_pairs : is_simple_and_free pairs_app ≡ true
unfolding clap_on_literals pairs_app
free_pairs = refl

simple_rank : is_simple rank_app ≡ true
unfolding clap_on_literals rank_app
simple_rank = refl

free_rank : is_simple_and_free rank_app ≡ true
unfolding clap_on_literals rank_app
free_rank = refl

simple_check : is_simple check_app ≡ true
unfolding clap_on_literals check_app
simple_check = refl

free_check : is_simple_and_free check_app ≡ true
unfolding clap_on_literals check_app
free_check = refl

pub simple_explain : is_simple explain_app ≡ true
unfolding clap_on_literals explain_app
simple_explain = refl

pub free_explain : is_simple_and_free explain_app ≡ true
unfolding clap_on_literals explain_app
free_explain = refl

pub simple_formats : is_simple formats_app ≡ true
unfolding clap_on_literals formats_app
simple_formats = refl

pub free_formats : is_simple_and_free formats_app ≡ true
unfolding clap_on_literals formats_app
free_formats = refl

pub simple_program : is_simple program ≡ true
unfolding clap_on_literals program run_app pairs_app rank_app check_app explain_app formats_app
simple_program = refl

pub free_program : is_simple_and_free program ≡ true
unfolding clap_on_literals program run_app pairs_app rank_app check_app explain_app formats_app
free_program = refl

pub simple_by : (verb : Verb) → is_simple (app_by verb) ≡ true
simple_by run_verb = simple_run
simple_by pairs_verb = simple_pairs
simple_by rank_verb = simple_rank
simple_by check_verb = simple_check

pub free_by : (verb : Verb) → is_simple_and_free (app_by verb) ≡ true
free_by run_verb = free_run
free_by pairs_verb = free_pairs
free_by rank_verb = free_rank
free_by check_verb = free_check

-- And so are the commands that clap knows in this form.
pub simple_built : {E : Type 0} (app : App) (found : Result Command E) → is_simple app ≡ true → Builds app found → IfOk found (λ c. is_simple (app_of c) ≡ true)
simple_built app (Ok c) is built = ap is_simple built.known ∙ is
simple_built app (Err e) is built = built

pub free_built : {E : Type 0} (app : App) (found : Result Command E) → is_simple_and_free app ≡ true → Builds app found → IfOk found (λ c. is_simple_and_free (app_of c) ≡ true)
free_built app (Ok c) is built = ap is_simple_and_free built.known ∙ is
free_built app (Err e) is built = built
