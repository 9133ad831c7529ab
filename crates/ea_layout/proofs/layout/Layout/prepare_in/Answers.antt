use Rattle.ea_layout.proofs.Renaming.{renamed_top}
use Rattle.ea_layout.proofs.layout.Layout.prepare_in.Goals as goal

pub by_numbers-requires : goal.by_numbers-requires
by_numbers-requires g c =
    rw (c.in_ok-laid.ensures.laid_out.network, renamed_top c.in_ok-laid.laid.places.items c.args.network.now.arcs) c.requires.classes
