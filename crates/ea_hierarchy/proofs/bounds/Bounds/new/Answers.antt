use Rattle.std.proofs.Common.{arith, subst}
use Rattle.ea_hierarchy.specs.Bounds.{IsRoomFor}
use Rattle.ea_hierarchy.specs.Hierarchies.{Hierarchy}
use Rattle.ea_hierarchy.specs.declared.bounds.Bounds.{Bounds}
use Rattle.ea_hierarchy.proofs.bounds.Bounds.new.Goals as goal

pub returns : goal.returns
returns c =
    let bounds : Bounds = record { cells = c.in_ok-cells.cells; path = c.in_ok-path.path } in
    subst (λ (h : Hierarchy). IsRoomFor h bounds) c.prepared.view_is (record {
      count = omega (arith, c.in_ok-cells.ensures.count, c.len-ranks.ensures);
      stamps = c.in_ok-cells.ensures.stamps;
      path_empty = c.in_ok-path.ensures.items;
      path_room = omega (arith, c.in_ok-path.ensures.exact, c.len-ranks.ensures);
    })
