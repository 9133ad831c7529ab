use Rattle.std.proofs.Common.{◌≡◌, ◌<◌, length, ap, arith}
use Rattle.std.proofs.lemmas.List.{take_more}
use Rattle.ea_road.specs.Roads.{leaving}
use Rattle.ea_road.specs.declared.arc.Arc.{Arc}
use Rattle.ea_road.specs.declared.leaving_arc.LeavingArc.{LeavingArc}
use Rattle.ea_road.proofs.ByTail.{arc_beside}
use Rattle.ea_search.proofs.Gatherings.{Gathered-more}
use Rattle.ea_search.proofs.buckets.candidates.Candidates.gather.Goals as goal

abbrev none : LeavingArc
none = record { head = 0; weight = 0; class = 0 }

pub look_at-requires-clause-can : goal.look_at-requires-clause-can
look_at-requires-clause-can g c =
    let beside = arc_beside c.args.network.now c.args.node c.leaving.result.numbers.now c.leaving.result.arcs.now c.loop-place.place none c.leaving.ensures.arcs c.loop-place-test.true in
    let lengths = rw c.leaving.ensures.numbers at c.leaving.ensures.arcs.lengths in
    record {
      is_arc = rw c.with_tail.ensures (rw c.leaving.ensures.numbers at beside);
      placed = rw c.with_tail.ensures (omega (arith, lengths, c.loop-place-test.true));
      in_time = c.requires.in_time;
      classed = c.requires.classed;
      places = c.requires.places;
    }

pub loop-place-preserved : goal.loop-place-preserved
loop-place-preserved g c =
    let numbers = leaving c.args.network.now c.args.node in
    let place = c.loop-place.place in
    let lengths = rw c.leaving.ensures.numbers at c.leaving.ensures.arcs.lengths in
    let near : place < length numbers = omega (arith, lengths, c.loop-place-test.true) in
    let tail : c.with_tail.result.tail ≡ c.args.node = ap (λ (arc : Arc). arc.tail) c.with_tail.ensures in
    let by_node = rw tail at c.look_at.ensures.gathered in
    record {
      gathered = rw (take_more numbers place 0 near) (Gathered-more _ _ _ _ _ _ _ _ _ _ c.loop-place.invariant.gathered by_node);
      room = omega (arith, c.look_at.ensures.room, c.loop-place.invariant.room);
    }
