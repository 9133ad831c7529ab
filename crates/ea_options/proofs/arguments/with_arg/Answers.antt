use Rattle.ea_options.proofs.Built.{built_in, built_with}
use Rattle.ea_options.proofs.arguments.with_arg.Goals as goal

pub returns-in-Ok : goal.returns-in-Ok
returns-in-Ok c = λ app rule built. built_with c.in-Ok.command c.args.arg c.arg.result c.arg.ensures app rule (built_in c.args.command c.in-Ok.command app c.in-Ok.is built)
