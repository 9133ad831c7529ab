use Rattle.std.proofs.Common.{◌<◌, length, get_or, ap, arith}
use Rattle.std.proofs.lemmas.List.{take_more}
use Rattle.ea_search.specs.declared.buckets.candidates.Candidate.{Candidate}
use Rattle.ea_search.specs.Worklist.{Room}
use Rattle.ea_search.proofs.Gatherings.{Offered-more, candidate_is_there}
use Rattle.ea_search.proofs.Steps.{KeepsSearch-then}
use Rattle.ea_search.proofs.buckets.candidates.Candidates.offer.Goals as goal

abbrev none : Candidate
none = record { time = 0; node = 0; from = 0; place = 0 }

pub lower-requires : goal.lower-requires
lower-requires g c =
    let it = c.self.inside in
    let there = candidate_is_there it.list c.loop-place.place it.count none c.loop-place-test.true (omega (arith, c.self.invariant)) in
    let candidate = get_or it.list c.loop-place.place none in
    let offer = rw (← c.self.view_is) at (c.requires candidate) in
    let can = offer there in
    let room = ap (λ (r : Room). r.nodes) c.loop-place.invariant.keeps.same_room in
    let places = c.loop-place.invariant.offered.places in
    record {
      can_fall = record { is_node = (can.can_fall.is_node.0, omega (arith, can.can_fall.is_node.1, places)); in_time = can.can_fall.in_time };
      places = omega (arith, places, can.places, room);
    }

pub loop-place-preserved : goal.loop-place-preserved
loop-place-preserved g c =
    let it = c.self.inside in
    let inside : c.loop-place.place < length it.list = omega (arith, c.loop-place-test.true, c.self.invariant) in
    record {
      offered = rw (take_more it.list c.loop-place.place none inside) (Offered-more _ (get_or it.list c.loop-place.place none) _ _ _ _ _ _ _ _ _ _ _ _ c.loop-place.invariant.offered c.lower.ensures.offered.lowers c.lower.ensures.offered.meets c.lower.ensures.offered.still c.lower.ensures.offered.adds);
      keeps = KeepsSearch-then _ _ _ _ _ _ _ _ _ _ _ _ c.loop-place.invariant.keeps c.lower.ensures.keeps;
    }
