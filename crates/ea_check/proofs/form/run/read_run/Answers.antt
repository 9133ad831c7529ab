use Rattle.std.proofs.Common.{◌-◌, refl}
use Rattle.ea_check.proofs.Pieces.{found_in}
use Rattle.ea_check.proofs.form.run.read_run.Goals as goal

pub returns : goal.returns
returns c = (refl, found_in c.args.way c.args.text.now c.args.run.now.from (c.args.run.now.to - c.args.run.now.from) c.args.last _ _ c.lines_in-run.ensures)
