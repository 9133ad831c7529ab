use Rattle.ea_options.proofs.Built.{built_named}
use Rattle.ea_options.proofs.commands.named.Goals as goal

pub returns : goal.returns
returns c = built_named c.args.command _ c.bin_name.result c.bin_name.ensures
