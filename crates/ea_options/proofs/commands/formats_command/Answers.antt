use Rattle.std.proofs.Common.{◌∙◌, ap}
use Rattle.clap.specs.Simple.{app_of_fields}
use Rattle.ea_options.specs.Grammar.{formats_app}
use Rattle.ea_options.proofs.commands.formats_command.Goals as goal

pub returns : goal.returns
unfolding formats_app
returns c = c.named.ensures formats_app (record {
  known = ap app_of_fields c.about.ensures ∙ c.new.ensures.app;
  local = ap (λ fields. fields.has_globals) c.about.ensures ∙ c.new.ensures.local;
})
