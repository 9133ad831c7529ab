use Rattle.std.proofs.Common.{ℕ, ◌≤◌, [], ◌∷◌, refl, ◌∙◌, ap, arith, length, length-append}
use Rattle.std.proofs.lemmas.Bool.Decides.{nat_tests}
use Rattle.ea_base.specs.declared.limits.TheConstants.{HORIZON}
use Rattle.ea_travel_times.specs.Answers.{IsQuestion}
use Rattle.ea_road.proofs.Arcs.{is_question}
use Rattle.ea_road.proofs.Reached.{reaches_more}
use Rattle.ea_engine.proofs.HoldLemmas.{known_more}
use Rattle.ea_engine.proofs.ProgressLemmas.{Progress-none, Progress-noted, Progress-lowered, Progress-then}
use Rattle.ea_engine.proofs.BoundLemmas.{IsReachedBy-noted}
use Rattle.ea_engine.proofs.worker.scan.ask_and_offer.Goals as goal
use Rattle.ea_engine.proofs.worker.scan.ask_and_offer.Goals.{After-arrive-arrival}

question : (g : _) (c : After-arrive-arrival g) → IsQuestion (g.T.TravelTimes.classes c.args.ground.now.times.now) c.args.arc.class c.args.arc.weight c.args.entry.key
question g c =
    let ground = c.requires.may.may_scan.is_ground in
    let within = g.K.Known.within c.args.entry.node c.args.entry.key c.requires.may.may_scan.is_known in
    is_question g.K.Posed.problem.network (g.T.TravelTimes.classes c.args.ground.now.times.now) c.requires.may.number c.args.entry.key c.args.arc ground.posed.network ground.classed c.requires.may.is_arc within

pub arrive-arrival-requires : goal.arrive-arrival-requires
arrive-arrival-requires g c =
    let ground = c.requires.may.may_scan.is_ground in
    let within = g.K.Known.within c.args.entry.node c.args.entry.key c.requires.may.may_scan.is_known in
    rw c.from.ensures (is_question g.K.Posed.problem.network (g.T.TravelTimes.classes c.args.ground.now.times.now) c.requires.may.number c.args.entry.key c.args.arc ground.posed.network ground.classed c.requires.may.is_arc within)

-- no answer of the problem at this departure is earlier than the one returned
least : (g : _) (c : After-arrive-arrival g) (arrival : ℕ) → g.K.Posed.problem.answers c.args.arc.class c.args.arc.weight c.args.entry.key arrival → c.arrive-arrival.result ≤ arrival
least g c arrival answer =
    let ground = c.requires.may.may_scan.is_ground in
    let is = question g c in
    let mine = rw c.from.ensures at c.arrive-arrival.ensures in
    ground.fifo.in_order c.args.arc.class c.args.arc.weight c.args.entry.key c.args.entry.key c.arrive-arrival.result arrival is is mine ((ground.named.answers_are _ _ _ _).1 answer) (omega arith)

-- the arrival is that of a walk
reached : (g : _) (c : After-arrive-arrival g) → c.arrive-arrival.result ≤ HORIZON → g.K.Known.is_known c.args.arc.head c.arrive-arrival.result
reached g c within =
    let ground = c.requires.may.may_scan.is_ground in
    let problem = g.K.Posed.problem in
    let is_arc = c.requires.may.is_arc in
    let before = (ground.posed.names c.args.entry.node c.args.entry.key).0 c.requires.may.may_scan.is_known in
    let answer = (ground.named.answers_are _ _ _ _).0 (rw c.from.ensures at c.arrive-arrival.ensures) in
    (ground.posed.names c.args.arc.head c.arrive-arrival.result).1 (reaches_more problem.network _ problem.query.sources c.args.entry.node c.args.entry.key c.requires.may.number c.args.arc.head c.arrive-arrival.result c.args.arc before is_arc c.requires.may.tail_is refl answer within)

pub offer-requires-clause-known : goal.offer-requires-clause-known
offer-requires-clause-known g c κs outlives = reached g (goal.at.offer-requires-clause-known g c).After-arrive-arrival (omega (arith, c.if-arrival-gt-HORIZON.false))

pub offer-requires-clause-same_table : goal.offer-requires-clause-same_table
offer-requires-clause-same_table g c κs outlives = c.requires.may.may_scan.are_means.seats.labels

pub returns-then-arrival-gt-HORIZON : goal.returns-then-arrival-gt-HORIZON
returns-then-arrival-gt-HORIZON g c = record {
  means = c.requires.may.may_scan.are_means;
  relaxed =
      let d = (goal.at.returns-then-arrival-gt-HORIZON g c).After-arrive-arrival in
      record {
        progress = Progress-none _;
        left = c.requires.may.may_scan.room;
        one_push_each = λ is. refl;
        spent = λ arrival answer within. absurd (omega (arith, least g d arrival answer, c.if-arrival-gt-HORIZON.true));
      };
}

pub returns-in-Kept : goal.returns-in-Kept
returns-in-Kept g c = record {
  means =
      let means = c.requires.may.may_scan.are_means in
      record { seats = record { labels = c.offer.ensures.same_table ∙ means.seats.labels; pool = means.seats.pool }; fresh_known = means.fresh_known };
  relaxed =
      let d = (goal.at.returns-in-Kept g c).After-arrive-arrival in
      let kept = c.in-Kept.ensures.kept in
      record {
        progress = Progress-noted _ _ _ _ _ _ c.args.arc.head c.in-Kept.field-0 kept.3;
        left = c.requires.may.may_scan.room;
        one_push_each = λ is. refl;
        spent = λ arrival answer within. IsReachedBy-noted _ _ c.args.arc.head c.in-Kept.field-0 arrival (ap (λ x. x.bounds) kept.3) (omega (arith, kept.1, least g d arrival answer));
      };
}

pub returns-then-len-batch : goal.returns-then-len-batch
returns-then-len-batch g c = record {
  means =
      let d = (goal.at.returns-then-len-batch g c).After-arrive-arrival in
      let means = c.requires.may.may_scan.are_means in
      record {
        seats = record { labels = c.offer.ensures.same_table ∙ means.seats.labels; pool = means.seats.pool };
        fresh_known = known_more g.K.Known.is_known c.args.fresh.now.items _ _ c.push.ensures.items means.fresh_known (reached g d (omega (arith, c.if-arrival-gt-HORIZON.false)));
      };
  relaxed =
      let d = (goal.at.returns-then-len-batch g c).After-arrive-arrival in
      let low = c.in-Lowered.ensures.lowered in
      record {
        progress = Progress-lowered _ _ _ _ [] _ _ c.args.arc.head low.0 c.arrive-arrival.result low.4 c.push.ensures.items;
        left = grind (arith, nat_tests);
        one_push_each = λ is. absurd (grind (arith, nat_tests));
        spent = λ arrival answer within. IsReachedBy-noted _ _ c.args.arc.head c.arrive-arrival.result arrival (ap (λ x. x.bounds) low.4) (least g d arrival answer);
      };
}

pub push_fresh-requires-clause-may : goal.push_fresh-requires-clause-may
push_fresh-requires-clause-may g c κs outlives = record {
  of_pool = c.requires.may.may_scan.are_means.seats.pool;
  fresh_known =
      let d = (goal.at.push_fresh-requires-clause-may g c).After-arrive-arrival in
      known_more g.K.Known.is_known c.args.fresh.now.items _ _ c.push.ensures.items c.requires.may.may_scan.are_means.fresh_known (reached g d (omega (arith, c.if-arrival-gt-HORIZON.false)));
}

pub returns-then-push_fresh : goal.returns-then-push_fresh
returns-then-push_fresh g c = record {
  means = record {
    seats = record { labels = c.offer.ensures.same_table ∙ c.requires.may.may_scan.are_means.seats.labels; pool = c.push_fresh.ensures.of_pool };
    fresh_known = c.push_fresh.ensures.left_known;
  };
  relaxed =
      let d = (goal.at.returns-then-push_fresh g c).After-arrive-arrival in
      let low = c.in-Lowered.ensures.lowered in
      let none = c.push_fresh.ensures.none c.if-push_fresh.true in
      record {
        progress = Progress-then _ _ _ [] [] [] 0 1 _ 1 0 _ (Progress-lowered _ _ _ _ [] _ _ c.args.arc.head low.0 c.arrive-arrival.result low.4 c.push.ensures.items) (c.push_fresh.ensures.progress _) refl refl refl;
        left = omega (arith, ap length none, c.requires.may.may_scan.room);
        one_push_each = λ is. refl;
        spent = λ arrival answer within. IsReachedBy-noted _ _ c.args.arc.head c.arrive-arrival.result arrival (ap (λ x. x.bounds) low.4) (least g d arrival answer);
      };
}

pub returns-else-push_fresh : goal.returns-else-push_fresh
returns-else-push_fresh g c = record {
  means = record {
    seats = record { labels = c.offer.ensures.same_table ∙ c.requires.may.may_scan.are_means.seats.labels; pool = c.push_fresh.ensures.of_pool };
    fresh_known = c.push_fresh.ensures.left_known;
  };
  relaxed =
      let d = (goal.at.returns-else-push_fresh g c).After-arrive-arrival in
      let low = c.in-Lowered.ensures.lowered in
      let left = c.push_fresh.ensures in
      record {
        progress = Progress-then _ _ _ [] [] [] 0 1 _ 1 0 _ (Progress-lowered _ _ _ _ [] _ _ c.args.arc.head low.0 c.arrive-arrival.result low.4 c.push.ensures.items) (c.push_fresh.ensures.progress _) refl refl refl;
        left = (left.some c.if-push_fresh.false, omega (arith, left.few, ap length c.push.ensures.items, length-append c.args.fresh.now.items (record { key = c.arrive-arrival.result; node = c.args.arc.head } ∷ []), c.requires.may.may_scan.room));
        one_push_each = λ is. refl;
        spent = λ arrival answer within. IsReachedBy-noted _ _ c.args.arc.head c.arrive-arrival.result arrival (ap (λ x. x.bounds) low.4) (least g d arrival answer);
      };
}
