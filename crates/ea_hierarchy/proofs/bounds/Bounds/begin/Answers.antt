use Rattle.std.proofs.Common.{arith, ap, length, subst, ◌-◌}
use Rattle.ea_hierarchy.specs.Bounds.{AreBoundsTo}
use Rattle.ea_hierarchy.specs.Cells.{reach_of}
use Rattle.ea_hierarchy.specs.Hierarchies.{Hierarchy}
use Rattle.ea_hierarchy.specs.Potentials.{IsReach}
use Rattle.ea_hierarchy.specs.declared.bounds.Bounds.{Bounds}
use Rattle.ea_hierarchy.proofs.Bounding.{found_none}
use Rattle.ea_hierarchy.proofs.bounds.Bounds.begin.Goals as goal

pub returns : goal.returns
returns c =
    let firsts = c.prepared.inside.upward.firsts.items in
    let heads = c.prepared.inside.upward.heads.items in
    let ups = c.prepared.inside.numbers.ups.items in
    let downs = c.prepared.inside.numbers.downs.items in
    let ranks = c.prepared.inside.ranks in
    let aim = c.begin.new.self.aim in
    let list = c.begin.new.self.list.items in
    let begun = c.begin.ensures in
    let bounds : Bounds = record { cells = c.begin.new.self; path = c.args.self.now.path } in
    let same = ap (λ (h : Hierarchy). length h.firsts) c.prepared.view_is in
    subst (λ (h : Hierarchy). AreBoundsTo h c.args.target bounds) c.prepared.view_is (record {
      over = record {
        room = record {
          count = begun.count;
          stamps = λ any. omega (arith, begun.reached any);
          path_empty = c.requires.room.path_empty;
          path_room = omega (arith, same, c.requires.room.path_room);
        };
        found = found_none firsts heads ups downs c.of-rank.result aim list c.prepared.invariant.0.upward begun;
      };
      reach = subst (λ r. IsReach (length firsts - 1) firsts heads downs r (reach_of aim list)) c.of-rank.ensures begun.reach;
    })
