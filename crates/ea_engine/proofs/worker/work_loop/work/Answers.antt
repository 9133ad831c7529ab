use Rattle.std.proofs.Common.{ap, ◌∙◌, inl, inr, refl, arith, rules, of_calls}
use Rattle.ea_engine.proofs.HoldLemmas.{known_nothing, known_inside}
use Rattle.ea_engine.proofs.TurnLemmas.{pops_once}
use Rattle.ea_engine.proofs.WorkLemmas.{SoFar-start, SoFar-more, SoFar-end, SoFar-roomy, fresh_of_lowered}
use Rattle.ea_engine.proofs.worker.work_loop.work.Goals as goal
use Rattle.ea_engine.proofs.worker.work_loop.work.Goals.{then-turns-test+then-idle-pace+else-number-pace, then-turns-test+else-idle-pace, else-turns-test}

pub turns-init : goal.turns-init
turns-init g c =
    let lists = c.empty-lists.ensures in
    record {
      held = record {
        seats = c.requires.seats;
        taken_known = known_nothing g.K.Known.is_known _ lists.taken;
        fresh_known = known_nothing g.K.Known.is_known _ lists.fresh;
      };
      tracer = c.requires.tracer;
      small = omega arith;
      so_far = rw (lists.taken, lists.fresh) (SoFar-start _ _ _ _ _ _ _ _ c.new-counters.ensures.turns c.new-counters.ensures.pops c.new-counters.ensures.pushes refl refl refl c.requires.may.is_pace.some_batch);
    }

pub turns-preserved : goal.turns-preserved
turns-preserved g c = record {
  held = c.take_turn-end.ensures.means;
  tracer = search (rules, of_calls);
  small = omega (arith, c.if-number-pace.true);
  so_far = SoFar-more _ _ _ _ _ _ _ _ _ _ _ _ _ _ _ _ _ _ _ (rw c.turns-test.true at c.turns.invariant.so_far) c.if-idle-pace.true c.if-number-pace.true
      c.take_turn-end.ensures.turn.turn c.take_turn-end.ensures.turn.pushes c.tracer-flow.ensures c.count.ensures c.idle_after-idle.ensures c.is_last-ended.ensures;
}

pub returns : goal.returns
returns g c =
    let known = g.K.Known.is_known in
    let posed = c.requires.may.is_ground.posed in
    record {
      seats = c.turns.invariant.held.seats;
      work = SoFar-end _ _ _ _ _ _ _ _ _ _ _ _ _ _ c.turns.invariant.so_far (omega (arith, c.turns.invariant.small, c.requires.may.is_pace.turns)) (elim c.turns-test.branch [
        | then-turns-test+then-idle-pace+else-number-pace w ↦ inr (inr w.if-number-pace.false)
        | then-turns-test+else-idle-pace w ↦ inr (inl w.if-idle-pace.false)
        | else-turns-test w ↦ inl w.turns-test.false
      ]) refl refl refl refl
          (known_inside known g.K.Posed.problem _ posed c.turns.invariant.held.taken_known) (known_inside known g.K.Posed.problem _ posed c.turns.invariant.held.fresh_known)
          (fresh_of_lowered _ _ _ _ _ _ _ _ _ _ _ _ _ c.turns.invariant.so_far refl)
          c.close.ensures;
    }

pub take_turn-end-requires-clause-may : goal.take_turn-end-requires-clause-may
take_turn-end-requires-clause-may g c κs outlives = record {
  equipped = record {
    is_ground = c.requires.may.is_ground;
    target_is = c.target-target.ensures.target ∙ ap (λ q. q.target) c.requires.may.is_ground.named.query_is;
    are_held = c.turns.invariant.held;
    room = omega (arith, c.turns.invariant.so_far.fresh_left c.turns-test.true);
    batch_few = omega (arith, c.requires.may.is_pace.batch);
  };
  few = omega (arith, c.turns.invariant.so_far.taken_few);
}

pub count-requires : goal.count-requires
count-requires g c = record {
  room = SoFar-roomy _ _ _ _ _ _ _ _ _ _ _ _ _ c.turns.invariant.so_far (omega (arith, c.turns.invariant.small, c.requires.may.is_pace.turns));
  lowered = c.take_turn-end.ensures.turn.turn.few;
  pops = pops_once c.take_turn-end.result.turn.kind _ c.take_turn-end.ensures.turn.turn.pops;
  pushes = omega (arith, c.take_turn-end.ensures.turn.pushes, c.take_turn-end.ensures.turn.turn.few);
}

pub idle_after-idle-requires : goal.idle_after-idle-requires
idle_after-idle-requires g c = omega (arith, c.if-idle-pace.true, c.requires.may.is_pace.patience)

pub turns-smaller : goal.turns-smaller
turns-smaller g c = omega (arith, c.if-number-pace.true)

pub close-requires : goal.close-requires
close-requires g c = record {
  room = SoFar-roomy _ _ _ _ _ _ _ _ _ _ _ _ _ c.turns.invariant.so_far (omega (arith, c.turns.invariant.small, c.requires.may.is_pace.turns));
  few = fresh_of_lowered _ _ _ _ _ _ _ _ _ _ _ _ _ c.turns.invariant.so_far refl;
}
