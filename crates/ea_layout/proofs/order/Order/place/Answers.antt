use Rattle.std.proofs.Common.{refl}
use Rattle.ea_layout.proofs.Ordering.{places_one}
use Rattle.ea_layout.proofs.order.Order.place.Goals as goal

pub invariant_of-self : goal.invariant_of-self
invariant_of-self c =
    let inside = c.self.inside in
    let lacks = rw (← c.self.view_is) at ((rw c.if-not-lacks.false at c.lacks.ensures).0 refl) in
    places_one inside.places.items inside.nodes.items inside.count c.args.node c.self.invariant lacks.0 lacks.1
