use Rattle.ea_layout.proofs.Renaming.{renamed_network}
use Rattle.ea_layout.proofs.layout.Layout.by.Goals as goal

pub new-requires : goal.new-requires
new-requires c =
    let reverse = rw c.requires.nodes at c.into_parts-places.ensures in
    rw (c.nodes.ensures.nodes, c.in_ok-arcs.ensures, c.deref.ensures.value) (renamed_network c.args.network.now c.into_parts-places.result.0.items c.into_parts-places.result.1.items c.nodes.ensures.network reverse)
