use Rattle.std.proofs.Common.{◌≡◌, ◌<◌, length, ◌∙◌, ap, arith}
use Rattle.std.proofs.lemmas.List.{take_more}
use Rattle.ea_road.specs.declared.arc.Arc.{Arc}
use Rattle.ea_road.specs.declared.leaving_arc.LeavingArc.{LeavingArc}
use Rattle.ea_road.specs.Roads.{leaving}
use Rattle.ea_road.proofs.ByTail.{arc_beside}
use Rattle.ea_search.proofs.Entries.{Scanned-more}
use Rattle.ea_search.proofs.Steps.{KeepsSearch-then}
use Rattle.ea_search.proofs.finishing_pass.scan.Goals as goal

abbrev none : LeavingArc
none = record { head = 0; weight = 0; class = 0 }

pub follow-requires-clause-can : goal.follow-requires-clause-can
follow-requires-clause-can g c =
    let beside = arc_beside c.args.network.now c.args.node c.leaving.result.numbers.now c.leaving.result.arcs.now c.loop-place.place none c.leaving.ensures.arcs c.loop-place-test.true in
    let lengths = rw c.leaving.ensures.numbers at c.leaving.ensures.arcs.lengths in
    record {
      is_arc = rw c.with_tail.ensures (rw c.leaving.ensures.numbers at beside);
      placed = rw c.with_tail.ensures (omega (arith, lengths, c.loop-place-test.true));
      in_time = c.requires.can.in_time;
      classed = c.requires.can.classed;
      places = c.loop-place.invariant.scanned.places ∙ c.requires.can.places;
    }

pub loop-place-preserved : goal.loop-place-preserved
loop-place-preserved g c =
    let numbers = leaving c.args.network.now c.args.node in
    let place = c.loop-place.place in
    let lengths = rw c.leaving.ensures.numbers at c.leaving.ensures.arcs.lengths in
    let near : place < length numbers = omega (arith, lengths, c.loop-place-test.true) in
    let tail : c.with_tail.result.tail ≡ c.args.node = ap (λ (arc : Arc). arc.tail) c.with_tail.ensures in
    let by_node = rw tail at c.follow.ensures.scanned in
    record {
      scanned = rw (take_more numbers place 0 near) (Scanned-more _ _ _ _ _ _ _ _ _ _ _ _ _ _ _ c.loop-place.invariant.scanned by_node);
      had = λ later before. (rw tail at c.follow.ensures.had) (let low = c.loop-place.invariant.scanned.lower c.args.node in omega (arith, later)) (c.loop-place.invariant.had later before);
      keeps = KeepsSearch-then _ _ _ _ _ _ _ _ _ _ _ _ c.loop-place.invariant.keeps c.follow.ensures.keeps;
    }
