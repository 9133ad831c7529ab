use Rattle.ea_check.proofs.Formed.{well_formed}
use Rattle.ea_check.proofs.laws.forms_are_well_formed.Goals as goal

pub returns : goal.returns
returns c = well_formed
