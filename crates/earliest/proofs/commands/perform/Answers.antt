use Rattle.std.proofs.Common.{refl}
use Rattle.earliest.proofs.commands.perform.Goals as goal

pub returns-in-Err : goal.returns-in-Err
returns-in-Err g c = rw c.in-Run.is c.in-Err.ensures.failed

pub returns-in-Err-pairs_watched : goal.returns-in-Err-pairs_watched
returns-in-Err-pairs_watched g c = rw c.in-Pairs.is c.in-Err-pairs_watched.ensures.failed

pub returns-in-Err-rank_watched : goal.returns-in-Err-rank_watched
returns-in-Err-rank_watched g c = rw c.in-Rank.is c.in-Err-rank_watched.ensures.unranked

pub returns-in-Err-check_watched : goal.returns-in-Err-check_watched
returns-in-Err-check_watched g c = rw (c.in-Check.is, c.in-Some.is) (refl, c.in-Err-check_watched.ensures.unjudged)
