use Rattle.std.proofs.Common.{◌≡◌, length, arith}
use Rattle.ea_road.proofs.ArcLists.{all_assigned}
use Rattle.ea_road.proofs.arc_list.ArcList.with_classes.Goals as goal

pub classes_of-requires : goal.classes_of-requires
classes_of-requires c =
    let many : c.len.result ≡ length c.args.raw.items = omega (arith, c.len.ensures, c.args.raw.ok.0) in
    rw many c.requires

pub returns : goal.returns
returns c =
    let many : c.len.result ≡ length c.args.raw.items = omega (arith, c.len.ensures, c.args.raw.ok.0) in
    all_assigned c.in_ok-classes.classes.items c.args.assigned.now c.args.raw.items
    (λ place inside. c.in_ok-classes.ensures place (omega (arith, many, inside)))
