use Rattle.ea_layout.proofs.Ordering.{all_placed}
use Rattle.ea_layout.proofs.order.Order.into_parts.Goals as goal

pub returns : goal.returns
returns c =
    let inside = c.self.inside in
    rw (← c.self.view_is) (all_placed (record { places = inside.places.items; nodes = inside.nodes.items; count = inside.count }) c.self.invariant (rw (← c.self.view_is) at c.requires))
