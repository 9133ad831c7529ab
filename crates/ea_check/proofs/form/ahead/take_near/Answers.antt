use Rattle.ea_check.proofs.Pieces.{found_near}
use Rattle.ea_check.proofs.form.ahead.take_near.Goals as goal

pub returns : goal.returns
returns c =
    found_near c.args.way c.args.text.now c.args.near c.args.first c.args.last c.take_times.new.times.items c.take_times.result c.take_times.ensures
