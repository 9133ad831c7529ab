use Rattle.ea_layout.proofs.Told.{told_back}
use Rattle.ea_layout.proofs.laws.a_layout_is_of_one_network.Goals as goal

pub returns : goal.returns
returns c = told_back c.args.network.now c.args.layout.now c.keeps_limits.ensures c.requires
