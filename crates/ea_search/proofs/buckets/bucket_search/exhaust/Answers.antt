use Rattle.std.proofs.Common.{◌≡◌, ◌∙◌, ℕ, Some, sym, inl, inr, arith}
use Rattle.ea_road.proofs.ByTail.{leaving_has}
use Rattle.ea_search.proofs.Boundary.{same_limit}
use Rattle.ea_search.proofs.Entries.{AwaitsScansFrom-moved, AwaitsScansFrom-scanned}
use Rattle.ea_search.proofs.Falls.{FallsBy-then, FallsBy-scanned}
use Rattle.ea_search.proofs.Gatherings.{AreHad-offered, AwaitsScansFrom-hand, FallsBy-offered, had_is_node}
use Rattle.ea_search.proofs.Steps.{KeepsRoom-by, KeepsRoom-same, SearchesOn-same, SearchesOn-then}
use Rattle.ea_search.proofs.buckets.bucket_search.exhaust.Goals as goal

pub scanning-init : goal.scanning-init
scanning-init g c = record {
  underway = c.requires.underway;
  onward = SearchesOn-same _ _ _ _ _ _;
  room = KeepsRoom-same _;
  none = c.none-candidates.ensures;
  whole = λ all. all;
}

pub offer-requires : goal.offer-requires
offer-requires g c candidate there =
    let emptied = c.take_hand_up-crowded.ensures.emptied in
    let taken = c.in-Some.ensures in
    let had = emptied.had candidate there in
    let is_node = had_is_node c.args.network.now _ (g.L.Table.labels c.scanning.table) c.min-last.result candidate c.keeps_limits.ensures had in
    let places = c.scanning.invariant.underway.places in
    record {
      can_fall = record { is_node = (is_node.from_one, omega (arith, is_node.to_last, places)); in_time = had.step.in_time };
      places = omega (arith, places, emptied.nodes, taken.nodes, c.scanning.invariant.room.nodes, c.requires.room);
    }

pub scan-requires-clause-can : goal.scan-requires-clause-can
scan-requires-clause-can g c =
    let node = c.in-Some-crowded.node in
    let crowded = c.in-Some-crowded.ensures.crowded in
    let offered = c.offer.ensures.offered in
    let read = c.label-time.ensures in
    record {
      is_node = crowded.0;
      in_time = omega (arith, read, offered.lower node, crowded.1, c.min-last.ensures);
      classed = c.requires.problem.classed;
      places = offered.places ∙ c.scanning.invariant.underway.places;
    }

pub scanning-preserved : goal.scanning-preserved
scanning-preserved g c =
    let table = (g.L.Table.labels c.scanning.table) in
    let before = c.scanning.invariant.underway in
    let taken = c.in-Some.ensures in
    let emptied = c.take_hand_up-crowded.ensures.emptied in
    let offered = c.offer.ensures.offered in
    let limited = rw (c.target-target.ensures.target, ← same_limit c.args.network.now (g.T.TravelTimes.answers c.args.times.now) _ c.args.query.now c.keeps_limits.ensures c.requires.problem table before.places) at c.latest.ensures in
    let fell = FallsBy-offered c.args.network.now _ table c.min-last.result _ _ _ _ _ _ _ _ emptied.had offered in
    record {
      underway = AwaitsScansFrom-moved _ _ _ _ (g.L.Table.labels c.offer.new.table) _ _ _ (AwaitsScansFrom-hand c.args.network.now _ _ _ table c.min-last.result c.in-Some.entry _ _ _ _ _ _ _ _ _ _ _ (omega (arith, limited, c.min-last.ensures)) before taken emptied offered)
          (λ v waits. elim waits [
            | inl held ↦ absurd (c.in_default-crowded.not-Some v held)
            | inr still ↦ still
          ]);
      onward = SearchesOn-then _ _ _ _ _ _ _ _ _ _ _ _ c.scanning.invariant.onward c.requires.problem.target fell (omega (arith, limited, c.min-last.ensures)) c.offer.ensures.keeps.listed (AreHad-offered c.args.network.now _ table c.min-last.result _ _ _ _ _ _ _ _ (omega (arith, c.min-last.ensures)) emptied.had offered);
      room = KeepsRoom-by _ c.take_hand_up-crowded.new.frontier.todo _ (record { nodes = emptied.nodes ∙ taken.nodes ∙ c.scanning.invariant.room.nodes; walks = emptied.walks ∙ taken.walks ∙ c.scanning.invariant.room.walks }) c.offer.ensures.keeps.same_room;
      none = c.offer.ensures.none;
      whole = λ all. c.without_hand-left.ensures (c.scanning.invariant.whole all);
    }

pub scanning-preserved-in-Some-crowded : goal.scanning-preserved-in-Some-crowded
scanning-preserved-in-Some-crowded g c =
    let table = (g.L.Table.labels c.scanning.table) in
    let node = c.in-Some-crowded.node in
    let crowded = c.in-Some-crowded.ensures.crowded in
    let before = c.scanning.invariant.underway in
    let taken = c.in-Some.ensures in
    let emptied = c.take_hand_up-crowded.ensures.emptied in
    let offered = c.offer.ensures.offered in
    let scanned = c.scan.ensures.scanned in
    let limited = rw (c.target-target.ensures.target, ← same_limit c.args.network.now (g.T.TravelTimes.answers c.args.times.now) _ c.args.query.now c.keeps_limits.ensures c.requires.problem table before.places) at c.latest.ensures in
    let fell = FallsBy-offered c.args.network.now _ table c.min-last.result _ _ _ _ _ _ _ _ emptied.had offered in
    let read = c.label-time.ensures in
    let all_fell = FallsBy-then _ _ _ _ _ _ _ fell (FallsBy-scanned _ _ _ _ _ _ _ _ _ _ _ scanned) (omega (arith, read, offered.lower node, crowded.1)) in
    let hand = AwaitsScansFrom-hand c.args.network.now _ _ _ table c.min-last.result c.in-Some.entry _ _ _ _ _ _ _ _ _ _ _ (omega (arith, limited, c.min-last.ensures)) before taken emptied offered in
    record {
      underway = AwaitsScansFrom-scanned _ _ _ _ node _ _ _ _ _ _ _ _ _ hand
          (λ v waits. elim waits [
            | inl held ↦ inl (some_of (sym c.in-Some-crowded.is ∙ held))
            | inr still ↦ inr still
          ]) read (omega (arith, read, offered.lower node, crowded.1, c.min-last.ensures)) (λ n arc is_arc tail. leaving_has c.args.network.now node n arc is_arc tail) scanned;
      onward = SearchesOn-then _ _ _ _ _ _ _ _ _ _ _ _ c.scanning.invariant.onward c.requires.problem.target all_fell (omega (arith, limited, c.min-last.ensures))
          (λ all. c.scan.ensures.keeps.listed (c.offer.ensures.keeps.listed all))
          (λ all. c.scan.ensures.had (omega (arith, read)) (AreHad-offered c.args.network.now _ table c.min-last.result _ _ _ _ _ _ _ _ (omega (arith, c.min-last.ensures)) emptied.had offered all));
      room = KeepsRoom-by _ c.take_hand_up-crowded.new.frontier.todo _ (record { nodes = emptied.nodes ∙ taken.nodes ∙ c.scanning.invariant.room.nodes; walks = emptied.walks ∙ taken.walks ∙ c.scanning.invariant.room.walks }) (c.scan.ensures.keeps.same_room ∙ c.offer.ensures.keeps.same_room);
      none = c.offer.ensures.none;
      whole = λ all. c.without_hand-left.ensures (c.scanning.invariant.whole all);
    }
  where
    some_of : {a b : ℕ} → Some a ≡ Some b → a ≡ b
    some_of same = cc

pub returns-in_default-clause-underway : goal.returns-in_default-clause-underway
returns-in_default-clause-underway g c =
    let table = (g.L.Table.labels c.scanning.table) in
    let kept = c.in_default.ensures.0 in
    AwaitsScansFrom-moved _ _ _ _ table _ _ _ c.scanning.invariant.underway kept.rest
