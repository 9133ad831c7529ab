use Rattle.std.proofs.Common.{◌≡◌, ◌∙◌, map, take, arith, ap}
use Rattle.std.proofs.lemmas.List.{take_all}
use Rattle.ea_road.specs.ArcLists.{without_class}
use Rattle.ea_travel_times.proofs.Lists.{more_mapped, room_for_more}
use Rattle.ea_road.proofs.arc_list.raw_of.Goals as goal

pub push_reserved-requires : goal.push_reserved-requires
push_reserved-requires c =
    let inv = c.loop-arc.invariant in
    omega (arith, c.loop-arc.raw.ok.0, room_for_more without_class c.args.arcs.now _ _ _ inv.raw c.loop-arc-test.true inv.room)

pub loop-arc-preserved : goal.loop-arc-preserved
loop-arc-preserved c =
    let inv = c.loop-arc.invariant in
    let raw = c.push_reserved.ensures in
    record {
      raw = raw.items ∙ more_mapped without_class c.args.arcs.now c.loop-arc.arc-index _ _ inv.raw c.loop-arc-test.true;
      room = omega (arith, inv.room, raw.capacity);
    }

pub returns : goal.returns
returns c =
    let arcs = c.args.arcs.now in
    let whole : take c.loop-arc.arc-index arcs ≡ arcs = take_all c.loop-arc.arc-index arcs (omega arith) in
    c.loop-arc.invariant.raw ∙ ap (map without_class) whole
