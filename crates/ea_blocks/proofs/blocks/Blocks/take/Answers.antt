use Rattle.std.proofs.Common.{arith, rules, tests, ◌-◌}
use Rattle.std.proofs.lemmas.Grind.{common_steps}
use Rattle.ea_blocks.proofs.Taken.{interrupted_taken, none_taken, some_taken, stops_failed, stops_interrupted, stops_large, stops_refused}
use Rattle.ea_blocks.proofs.blocks.Blocks.take.Goals as goal

pub returns-in_default-clause-filled : goal.returns-in_default-clause-filled
returns-in_default-clause-filled g c =
    let read = c.in_default.ensures.refused in
    record {
      room = search rules;
      more = search rules;
      left = search rules;
      full = search rules;
      end = search rules;
      fault = stops_refused _ _ c.args.self.now.left c.args.self.now.interruptions _ read.taken read.quiet.0 read.quiet.1 (grind (arith, common_steps));
    }

pub returns-then-count-self-clause-filled : goal.returns-then-count-self-clause-filled
returns-then-count-self-clause-filled g c =
    let read = c.in-Ok.ensures.read in
    record {
      room = search rules;
      more = search rules;
      left = search rules;
      full = search rules;
      end = search rules;
      fault = stops_large _ _ _ _ c.args.self.now.left c.args.self.now.interruptions (c.len.result - c.len-before.result) read.more (grind (arith, common_steps)) (grind (arith, common_steps)) (grind (arith, common_steps)) (grind (arith, common_steps)) (grind (arith, common_steps));
    }

pub returns-else-count-self-clause-filled : goal.returns-else-count-self-clause-filled
returns-else-count-self-clause-filled g c =
    let read = c.in-Ok.ensures.read in
    record {
      room = search rules;
      more = some_taken _ _ _ _ c.args.self.now.left c.args.self.now.interruptions (c.len.result - c.len-before.result) read.more (grind (arith, common_steps)) (grind (arith, common_steps)) (grind (arith, common_steps)) (grind (arith, common_steps));
      left = search rules;
      full = search rules;
      end = search rules;
      fault = search rules;
    }

pub returns-in-End-clause-filled : goal.returns-in-End-clause-filled
returns-in-End-clause-filled g c =
    let read = c.in-Ok.ensures.read in
    record {
      room = search rules;
      more = none_taken _ _ _ _ c.args.self.now.left c.args.self.now.interruptions read.more (grind (arith, common_steps)) (grind (arith, common_steps)) (grind (arith, tests, common_steps));
      left = search rules;
      full = search rules;
      end = search rules;
      fault = search rules;
    }

pub returns-in-Fault-Interrupted-clause-filled : goal.returns-in-Fault-Interrupted-clause-filled
returns-in-Fault-Interrupted-clause-filled g c =
    let read = c.in-Ok.ensures.read in
    record {
      room = search rules;
      more = interrupted_taken _ _ _ _ c.args.self.now.left c.args.self.now.interruptions read.more (grind (arith, common_steps)) (grind (arith, common_steps)) (grind (arith, tests, common_steps)) (grind (arith, common_steps));
      left = search rules;
      full = search rules;
      end = search rules;
      fault = search rules;
    }

pub returns-in-Fault-clause-filled : goal.returns-in-Fault-clause-filled
returns-in-Fault-clause-filled g c =
    let read = c.in-Ok.ensures.read in
    record {
      room = search rules;
      more = search rules;
      left = search rules;
      full = search rules;
      end = search rules;
      fault = stops_interrupted _ _ _ _ c.args.self.now.left c.args.self.now.interruptions read.more (grind (arith, tests, common_steps)) (grind (arith, tests, common_steps)) (grind (arith, tests, common_steps)) (grind (arith, common_steps));
    }

pub returns-in-Fault-2-clause-filled : goal.returns-in-Fault-2-clause-filled
returns-in-Fault-2-clause-filled g c =
    let read = c.in-Ok.ensures.read in
    record {
      room = search rules;
      more = search rules;
      left = search rules;
      full = search rules;
      end = search rules;
      fault = stops_failed _ _ _ _ c.args.self.now.left c.args.self.now.interruptions read.more (grind (arith, tests, common_steps)) (grind (arith, tests, common_steps)) (grind (arith, tests, common_steps));
    }
