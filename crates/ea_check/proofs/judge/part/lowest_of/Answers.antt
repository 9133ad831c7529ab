use Rattle.std.proofs.Common.{arith}
use Rattle.ea_check.proofs.Parts.{found_more, item_is, least_more}
use Rattle.ea_check.proofs.judge.part.lowest_of.Goals as goal

pub loop-part-preserved : goal.loop-part-preserved
loop-part-preserved c =
    let was = c.loop-part.invariant in
    let parts = c.args.parts.now in
    let here = c.part-item.result in
    record {
      lower = omega (arith, was.lower, c.min-lowest.ensures);
      found = found_more parts c.loop-part.part-index c.args.above c.loop-part.lowest c.min-lowest.result here c.loop-part-test.true (item_is parts c.loop-part.part-index here c.loop-part-test.true c.part-item.is) (omega (arith, c.min-lowest.ensures)) was.found;
      least = least_more parts c.loop-part.part-index c.args.above c.loop-part.lowest c.min-lowest.result here c.loop-part-test.true (item_is parts c.loop-part.part-index here c.loop-part-test.true c.part-item.is) (omega (arith, c.min-lowest.ensures)) was.least;
    }
