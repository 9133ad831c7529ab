use Rattle.ea_rank.proofs.Keeping.{count_smaller_keys, tell_missing_keys}
use Rattle.ea_rank.proofs.laws.ranks_count_smaller_keys.Goals as goal

pub returns-clause-smaller : goal.returns-clause-smaller
returns-clause-smaller c = count_smaller_keys

pub returns-clause-missing : goal.returns-clause-missing
returns-clause-missing c = tell_missing_keys
