use Rattle.std.proofs.Common.{◌≡◌, ◌∙◌, length, arith}
use Rattle.std.proofs.lemmas.List.{length-take-le, take_all, take_more}
use Rattle.ea_road.specs.declared.arc.Arc.{Arc}
use Rattle.ea_road.specs.ArcLists.{arcs_beside}
use Rattle.ea_road.proofs.ArcLists.{all_assigned, length-beside, read_at}
use Rattle.ea_road.proofs.arcs_of_graph.arcs_by.Goals as goal

abbrev none : Arc
none = record { tail = 0; head = 0; weight = 0; class = 0 }

pub push_reserved-requires : goal.push_reserved-requires
push_reserved-requires c =
    let list = arcs_beside c.in_ok-classes.classes.items 0 c.args.raw.now in
    let many = length-beside c.in_ok-classes.classes.items 0 c.args.raw.now in
    let inside = c.loop-place-test.true in
    let pushed : length c.loop-place.arcs.items ≡ c.loop-place.place = rw (c.loop-place.invariant.arcs) (length-take-le c.loop-place.place list (omega arith)) in
    omega (arith, c.loop-place.arcs.ok.0, c.loop-place.invariant.room)

pub loop-place-preserved : goal.loop-place-preserved
loop-place-preserved c =
    let classes = c.in_ok-classes.classes.items in
    let raw = c.args.raw.now in
    let many = length-beside classes 0 raw in
    let inside = c.loop-place-test.true in
    let more = take_more (arcs_beside classes 0 raw) c.loop-place.place none (omega arith) in
    let read = read_at classes raw c.loop-place.place none (omega arith) in
    let before = c.loop-place.invariant.arcs in
    record {
      arcs = rw (more, read) (cc);
      room = omega (arith, c.loop-place.invariant.room, c.push_reserved.ensures.capacity);
    }

pub returns : goal.returns
returns c =
    let classes = c.in_ok-classes.classes.items in
    let raw = c.args.raw.now in
    let many = length-beside classes 0 raw in
    let whole = take_all c.loop-place.place (arcs_beside classes 0 raw) (omega arith) in
    c.loop-place.invariant.arcs ∙ whole ∙ all_assigned classes c.args.assigned.now raw (λ place inside. c.in_ok-classes.ensures place (omega arith))
