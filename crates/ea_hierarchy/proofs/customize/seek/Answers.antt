use Rattle.std.proofs.Common.{arith, length, ◌+◌, ◌-◌, ◌/◌, ℕ}
use Rattle.ea_hierarchy.specs.Hierarchies.{IsFrom}
use Rattle.ea_hierarchy.proofs.Finding.{comes_first, comes_not_after, inside, read_at}
use Rattle.ea_hierarchy.proofs.customize.seek.Goals as goal

pub loop-to-preserved-then-index-high : goal.loop-to-preserved-then-index-high
loop-to-preserved-then-index-high c =
    let firsts = c.args.upward.now.firsts.items in
    let heads = c.args.upward.now.heads.items in
    let nodes : ℕ = length firsts - 1 in
    let middle : ℕ = c.loop-to.from + (c.loop-to.to - c.loop-to.from) / 2 in
    let is : IsFrom firsts c.args.low middle = record { from = omega (arith, c.loop-to.invariant.low); before = omega (arith, c.loop-to.invariant.high, c.loop-to-test.true) } in
    let at = read_at heads middle c.index-in-loop-to.result.now (inside nodes firsts heads c.requires.upward c.args.low middle c.requires.low is) c.index-in-loop-to.ensures in
    record {
      low = is.from;
      high = c.loop-to.invariant.high;
      order = omega (arith, c.loop-to.invariant.order, c.loop-to-test.true);
      between = λ place joins. (comes_not_after nodes firsts heads c.requires.upward c.args.low middle place c.requires.low is joins.is_from (omega (arith, at, c.if-index-high.true, joins.head)), (c.loop-to.invariant.between place joins).1);
    }

pub loop-to-preserved : goal.loop-to-preserved
loop-to-preserved c =
    let firsts = c.args.upward.now.firsts.items in
    let heads = c.args.upward.now.heads.items in
    let nodes : ℕ = length firsts - 1 in
    let middle : ℕ = c.loop-to.from + (c.loop-to.to - c.loop-to.from) / 2 in
    let is : IsFrom firsts c.args.low middle = record { from = omega (arith, c.loop-to.invariant.low); before = omega (arith, c.loop-to.invariant.high, c.loop-to-test.true) } in
    let at = read_at heads middle c.index-in-loop-to.result.now (inside nodes firsts heads c.requires.upward c.args.low middle c.requires.low is) c.index-in-loop-to.ensures in
    record {
      low = c.loop-to.invariant.low;
      high = omega (arith, is.before);
      order = omega (arith, c.loop-to.invariant.order);
      between = λ place joins. ((c.loop-to.invariant.between place joins).0, comes_first nodes firsts heads c.requires.upward c.args.low place middle c.requires.low joins.is_from is (omega (arith, at, c.if-index-high.false, joins.head)));
    }
