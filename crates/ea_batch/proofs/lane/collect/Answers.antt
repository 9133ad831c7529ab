use Rattle.std.specs.Prelude.{is_ok}
use Rattle.ea_batch.proofs.Piling.{piled_more}
use Rattle.ea_batch.proofs.lane.collect.Goals as goal

pub loop-preserved : goal.loop-preserved
loop-preserved g c =
    piled_more c.args.job c.loop.pile.items c.push.new.self.items c.in-Some.made (is_ok c.push.result) c.loop.invariant c.in-Some.ensures c.push.ensures.items
