-- Properties that commands keep while they are built.
use Rattle.std.proofs.Common.{◌≡◌, ◌∙◌, ap, ap₂, subst, sym, false, ◌||◌, Result, Ok, Err}
use Rattle.std.specs.Prelude.{IfOk, IsOkAnd}
use Rattle.clap.specs.Words.{AddsArg, AddsSubcommand, App, Rule, rule_of, with_rule, with_subcommand}
use Rattle.clap.specs.Simple.{app_of_fields}
use Rattle.clap.specs.declared.builder.command.Command.TheViews.{out-Command as fields_of}
use Rattle.clap.specs.declared.builder.command.Command.{Command}
use Rattle.clap.specs.Built.{IsParsedFrom}
use Rattle.clap.specs.declared.builder.arg.Arg.{Arg}
use Rattle.clap.specs.declared.parser.matches.ArgMatches.{ArgMatches}
use Rattle.ea_options.specs.Building.{Builds, IsBuilt}

pub built_in : {E : Type 0} (found : Result Command E) (c : Command) (app : App) → found ≡ Ok c → Builds app found → IsBuilt app c
built_in found c app is built = subst (Builds app) is built

pub parsed_in : {E F : Type 0} (found : Result Command E) (c : Command) (parsed : Result ArgMatches F) → found ≡ Ok c
    → IfOk parsed (λ m. IsParsedFrom c m) → IfOk parsed (λ m. IsOkAnd found (λ d. IsParsedFrom d m))
parsed_in found c parsed is from = subst (λ (r : Result Command _). IfOk parsed (λ m. IsOkAnd r (λ d. IsParsedFrom d m))) (sym is) from

pub built_with : {E : Type 0} (before : Command) (arg : Arg) (found : Result Command E) → IfOk found (λ c. AddsArg before arg c)
    → (app : App) (rule : Rule) → IsBuilt app before → rule_of arg ≡ rule → arg.global ≡ false → Builds (with_rule app rule) found
built_with before arg (Ok c) adds app rule built is is_local = record {
  known = adds.shape is_local ∙ ap₂ with_rule built.known is;
  local = adds.globals ∙ ap₂ ◌||◌ built.local is_local;
}
built_with before arg (Err e) adds app rule built is is_local = adds

-- A command with another name in its texts has the same arguments.
pub built_named : {E : Type 0} (before : Command) (more : Command → Type 0) (found : Result Command E)
    → IfOk found (λ c. (fields_of c ≡ record (fields_of before) { bin_name = (fields_of c).bin_name }) × more c)
    → (app : App) → IsBuilt app before → Builds app found
built_named before more (Ok c) is app built = record {
  known = ap app_of_fields is.0 ∙ built.known;
  local = ap (λ fields. fields.has_globals) is.0 ∙ built.local;
}
built_named before more (Err e) is app built = is

pub built_above : {E : Type 0} (before below : Command) (found : Result Command E) → IfOk found (λ c. AddsSubcommand before below c)
    → (app under : App) → IsBuilt app before → IsBuilt under below → Builds (with_subcommand app under.top) found
built_above before below (Ok c) adds app under built built_below = record {
  known = adds.shape built_below.local ∙ ap₂ with_subcommand built.known (ap (λ (a : App). a.top) built_below.known);
  local = adds.globals ∙ ap₂ ◌||◌ built.local built_below.local;
}
built_above before below (Err e) adds app under built built_below = adds
