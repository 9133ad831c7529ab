-- If clap takes the words of a command, its files are named.
use Rattle.std.proofs.Common.{◌≡◌, refl, sym, subst, arith, true, is_some, Bool, ℕ, Result, Ok, Err}
use Rattle.std.specs.Prelude.{IsOkAnd, codes}
use Rattle.clap.specs.Built.{IsParsedFrom}
use Rattle.clap.specs.Matches.{found_of}
use Rattle.clap.specs.Simple.{App, app_of}
use Rattle.clap.specs.Walk.{Text, rows_of}
use Rattle.clap.specs.Words.{first_of}
use Rattle.clap.specs.declared.builder.command.Command.{Command}
use Rattle.clap.specs.declared.parser.matches.ArgMatches.{ArgMatches}
use Rattle.clap.proofs.OnLiterals.{clap_on_literals}
use Rattle.ea_options.specs.Grammar.{run_app, pairs_app, rank_app, check_app}
use Rattle.ea_options.specs.Meaning.{Verb, run_verb, pairs_verb, rank_verb, check_verb, app_by, files_of, reported_by, second_by, wanted}
use Rattle.ea_options.specs.Refusals.{IsReadBy}
use Rattle.ea_options.proofs.Reported.{has_files, there}
use Rattle.ea_options.proofs.Required.{IsStrict, IsWanted, has_name}

strict : (verb : Verb) → IsStrict (app_by verb).top
unfolding clap_on_literals run_app pairs_app rank_app check_app
strict run_verb = record { simple = refl; free = refl; asks = refl }
strict pairs_verb = record { simple = refl; free = refl; asks = refl }
strict rank_verb = record { simple = refl; free = refl; asks = refl }
strict check_verb = record { simple = refl; free = refl; asks = refl }

wants_network : (verb : Verb) → IsWanted (app_by verb).top.rules 0 (codes "gr")
unfolding clap_on_literals run_app pairs_app rank_app check_app
wants_network run_verb = record { there = omega arith; named = refl; required = refl; action = refl; range = refl; alone = refl; not_empty = refl; not_help = refl; not_version = refl }
wants_network pairs_verb = record { there = omega arith; named = refl; required = refl; action = refl; range = refl; alone = refl; not_empty = refl; not_help = refl; not_version = refl }
wants_network rank_verb = record { there = omega arith; named = refl; required = refl; action = refl; range = refl; alone = refl; not_empty = refl; not_help = refl; not_version = refl }
wants_network check_verb = record { there = omega arith; named = refl; required = refl; action = refl; range = refl; alone = refl; not_empty = refl; not_help = refl; not_version = refl }

wants_starts : (verb : Verb) → IsWanted (app_by verb).top.rules 1 (second_by verb)
unfolding clap_on_literals run_app pairs_app rank_app check_app
wants_starts run_verb = record { there = omega arith; named = refl; required = refl; action = refl; range = refl; alone = refl; not_empty = refl; not_help = refl; not_version = refl }
wants_starts pairs_verb = record { there = omega arith; named = refl; required = refl; action = refl; range = refl; alone = refl; not_empty = refl; not_help = refl; not_version = refl }
wants_starts rank_verb = record { there = omega arith; named = refl; required = refl; action = refl; range = refl; alone = refl; not_empty = refl; not_help = refl; not_version = refl }
wants_starts check_verb = record { there = omega arith; named = refl; required = refl; action = refl; range = refl; alone = refl; not_empty = refl; not_help = refl; not_version = refl }

wants_report : IsWanted check_app.top.rules 2 (codes "report")
unfolding clap_on_literals check_app
wants_report = record { there = omega arith; named = refl; required = refl; action = refl; range = refl; alone = refl; not_empty = refl; not_help = refl; not_version = refl }

named_at : (verb : Verb) (c : Command) (m : ArgMatches) (k : ℕ) (id : Text) → app_of c ≡ app_by verb → IsParsedFrom c m
    → IsWanted (app_by verb).top.rules k id → is_some (first_of id (rows_of (found_of m))) ≡ true
named_at verb c m k id app parsed wanted =
    has_name c m k id parsed (subst (λ (a : App). IsStrict a.top) (sym app) (strict verb)) (subst (λ (a : App). IsWanted a.top.rules k id) (sym app) wanted)

files_named : (verb : Verb) (c : Command) (m : ArgMatches) → app_of c ≡ app_by verb → IsParsedFrom c m
    → is_some (files_of (second_by verb) (reported_by verb) (rows_of (found_of m))) ≡ true
files_named verb c m app parsed = has_files (second_by verb) (reported_by verb) (rows_of (found_of m))
    (named_at verb c m 0 (codes "gr") app parsed (wants_network verb)) (named_at verb c m 1 (second_by verb) app parsed (wants_starts verb)) (reported verb app)
  where
    reported : (verb : Verb) → app_of c ≡ app_by verb → is_some (wanted (reported_by verb) (first_of (codes "report") (rows_of (found_of m)))) ≡ true
    reported run_verb app = refl
    reported pairs_verb app = refl
    reported rank_verb app = refl
    reported check_verb app = there _ (named_at check_verb c m 2 (codes "report") app parsed wants_report)

pub files_read : {E : Type 0} (verb : Verb) (found : Result Command E) (second : Text) (wants : Bool) (m : ArgMatches) → IsReadBy verb found second wants
    → IsOkAnd found (λ c. IsParsedFrom c m) → is_some (files_of second wants (rows_of (found_of m))) ≡ true
files_read verb (Ok c) second wants m read parsed =
    rw (read.called, read.wants) (files_named verb c m read.built.known parsed)
files_read verb (Err e) second wants m read parsed = absurd parsed
