use Rattle.std.proofs.Common.{◌≤◌, ap, arith}
use Rattle.std.proofs.lemmas.Bool.Decides.{nat_tests}
use Rattle.ea_road.proofs.Arcs.{is_question}
use Rattle.ea_engine.proofs.BoundLemmas.{IsReachedBy-noted}
use Rattle.ea_engine.proofs.ProgressLemmas.{OnlySaw-more, OnlySaw-none}
use Rattle.ea_engine.proofs.worker.scan.is_ahead.Goals as goal

pub read-requires-clause-same_table : goal.read-requires-clause-same_table
read-requires-clause-same_table g c κs outlives = c.requires.seat.seat_fits

-- the label is at most the departure, and no answer is earlier
pub returns : goal.returns
returns g c = record {
  saw = record {
    same_table = c.read.ensures.same_table;
    saw = OnlySaw-more _ _ _ _ c.read.result (OnlySaw-none _) c.read.ensures.gains;
  };
  followed = λ is arrival answer within.
      let ground = c.requires.seat.is_ground in
      let low : c.read.result ≤ c.args.departure = grind (arith, nat_tests) in
      let asked = is_question g.K.Posed.problem.network (g.T.TravelTimes.classes c.args.ground.now.times.now) c.requires.arc.number c.args.departure c.args.arc ground.posed.network ground.classed c.requires.arc.is_arc c.requires.arc.in_time in
      let late = ground.fifo.not_before c.args.arc.class c.args.arc.weight c.args.departure arrival asked ((ground.named.answers_are _ _ _ _).1 answer) in
      IsReachedBy-noted _ _ c.args.arc.head c.read.result arrival (ap (λ x. x.bounds) c.read.ensures.gains) (omega (arith, low, late));
}
