use Rattle.ea_rank.proofs.Keeping.{keep_keys}
use Rattle.ea_rank.proofs.laws.queues_keep_keys.Goals as goal

pub returns : goal.returns
returns c = keep_keys
