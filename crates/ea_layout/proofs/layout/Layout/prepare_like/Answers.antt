use Rattle.ea_layout.proofs.Renaming.{renamed_top}
use Rattle.ea_layout.proofs.layout.Layout.prepare_like.Goals as goal

pub prepared_like-requires : goal.prepared_like-requires
prepared_like-requires g c =
    rw (c.in_ok-laid.ensures.laid_out.network, renamed_top c.in_ok-laid.laid.places.items c.args.network.now.arcs) c.requires
