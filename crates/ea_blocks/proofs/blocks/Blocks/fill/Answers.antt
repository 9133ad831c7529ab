use Rattle.std.proofs.Common.{rules, ◌∙◌}
use Rattle.ea_blocks.proofs.Taken.{goes_on, stops}
use Rattle.ea_blocks.proofs.blocks.Blocks.fill.Goals as goal

pub loop-self-preserved : goal.loop-self-preserved
loop-self-preserved g c =
    let was = c.loop-self.invariant in
    let took = c.in-Ok.ensures.filled in
    record {
      room = took.room;
      left = took.left ∙ was.left;
      more = goes_on _ _ _ _ _ _ _ _ _ _ _ _ was.more took.more;
    }

pub returns-in-Ok-true : goal.returns-in-Ok-true
returns-in-Ok-true g c =
    let was = c.loop-self.invariant in
    let took = c.in-Ok-true.ensures.filled in
    record {
      room = took.room;
      more = goes_on _ _ _ _ _ _ _ _ _ _ _ _ was.more took.more;
      left = took.left ∙ was.left;
      full = λ never. search rules;
      end = λ _. took.end (search rules);
      fault = tt;
    }

pub returns-in-Err : goal.returns-in-Err
returns-in-Err g c =
    let took = c.in-Err.ensures.filled in
    record {
      room = took.room;
      more = tt;
      left = tt;
      full = tt;
      end = tt;
      fault = stops _ _ _ _ _ _ _ _ _ _ c.loop-self.invariant.more took.fault;
    }
