use Rattle.std.proofs.Common.{◌∙◌, ap}
use Rattle.clap.specs.Simple.{app_of_fields}
use Rattle.clap.specs.Words.{new_app}
use Rattle.ea_options.proofs.commands.begun.Goals as goal

pub returns : goal.returns
returns c = c.named.ensures (new_app c.args.name.now) (record {
  known = ap app_of_fields c.after_help-command.ensures ∙ ap app_of_fields c.about.ensures ∙ c.new.ensures.app;
  local = ap (λ fields. fields.has_globals) c.after_help-command.ensures ∙ ap (λ fields. fields.has_globals) c.about.ensures ∙ c.new.ensures.local;
})
