use Rattle.std.proofs.Common.{◌≡◌, get_or, arith}
use Rattle.ea_rank.proofs.Tallying.{added-take_more, greatest-take_more, max_is}
use Rattle.ea_rank.proofs.summary.Summary.of.Goals as goal

pub loop-rank-preserved : goal.loop-rank-preserved
loop-rank-preserved c =
    let ranks = c.args.ranks.now in
    let i = c.loop-rank.rank-index in
    let read : c.from-sum.result ≡ get_or ranks i 0 = c.from-sum.ensures in record {
      greatest = omega (arith, c.max-greatest.ensures, max_is c.loop-rank.greatest (get_or ranks i 0), c.loop-rank.invariant.greatest, greatest-take_more ranks i c.loop-rank-test.true);
      sum = omega (arith, read, c.loop-rank.invariant.sum, added-take_more ranks i c.loop-rank-test.true);
      few = omega (arith, c.loop-rank.invariant.few, c.from-sum.type_inv);
    }
