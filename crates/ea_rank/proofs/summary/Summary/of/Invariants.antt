use Rattle.std.proofs.Common.{◌≡◌, ◌≤◌, ◌*◌, take}
use Rattle.ea_rank.specs.Summaries.{greatest}
use Rattle.ea_rank.specs.Tallies.{added}
use Rattle.ea_rank.proofs.summary.Summary.of.Given as goal

abbrev pub invariant-loop-rank : goal.invariant-loop-rank
invariant-loop-rank l = record {
  greatest : l.greatest ≡ greatest (take l.rank-index l.ranks);
  sum : l.sum ≡ added (take l.rank-index l.ranks);
  few : l.sum ≤ 18446744073709551616 * l.rank-index;
}
