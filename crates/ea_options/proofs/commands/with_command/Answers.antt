use Rattle.ea_options.proofs.Built.{built_above, built_in}
use Rattle.ea_options.proofs.commands.with_command.Goals as goal

pub returns-in-Ok-below : goal.returns-in-Ok-below
returns-in-Ok-below c = λ app under built built_below. built_above c.in-Ok.command c.in-Ok-below.below c.subcommand.result c.subcommand.ensures app under
    (built_in c.args.command c.in-Ok.command app c.in-Ok.is built) (built_in c.args.below c.in-Ok-below.below under c.in-Ok-below.is built_below)
