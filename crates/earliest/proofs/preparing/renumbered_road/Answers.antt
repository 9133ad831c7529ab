use Rattle.std.proofs.Common.{ap, subst, sym, ◌∙◌}
use Rattle.ea_layout.specs.Orders.{LaysOut}
use Rattle.ea_layout.proofs.Renaming.{renamed_top}
use Rattle.ea_layout.proofs.Told.{told_back}
use Rattle.ea_load.specs.declared.road.Road.{Road}
use Rattle.ea_road.specs.Roads.{Roads}
use Rattle.ea_layout.specs.Orders.{file_roads}
use Rattle.earliest.proofs.preparing.renumbered_road.Goals as goal

pub prepared_in-layout-requires : goal.prepared_in-layout-requires
prepared_in-layout-requires c = record {
  none = c.requires.none;
  classed = rw (c.requires.laid_out.network, renamed_top c.args.layout.places.items c.args.road.network.arcs) c.requires.classes;
}

pub returns : goal.returns
returns c =
    let road = c.args.road in
    let made = c.prepared_in-layout in
    let same = made.ensures.same ∙ told_back road.network c.args.layout c.keeps_limits.ensures c.requires.laid_out in
    record {
      same = ap (λ (r : Roads). let it : Road = record { network = r; times = road.times } in it) same;
      laid_out = made.ensures.laid_out (file_roads made.result) (subst (λ (r : Roads). LaysOut r c.args.layout) (sym same) c.requires.laid_out);
    }
