use Rattle.ea_options.specs.Grammar.{explain_app}
use Rattle.ea_options.proofs.commands.explain_command.Goals as goal

pub returns : goal.returns
unfolding explain_app
returns c =
    let begun = c.begun-command.ensures in
    c.with_arg.ensures _ _ begun c.optional.ensures.rule c.optional.ensures.local
