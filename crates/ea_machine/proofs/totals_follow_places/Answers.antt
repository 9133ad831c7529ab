use Rattle.ea_machine.proofs.Totals.{total_set_at}
use Rattle.ea_machine.proofs.totals_follow_places.Goals as goal

pub returns : goal.returns
returns g c = λ weight members place new inside. total_set_at weight members place new inside
