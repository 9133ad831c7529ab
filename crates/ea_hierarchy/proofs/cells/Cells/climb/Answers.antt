use Rattle.std.proofs.Common.{rules, length, ◌-◌}
use Rattle.ea_hierarchy.specs.Hierarchies.{IsLowest}
use Rattle.ea_hierarchy.proofs.Finding.{lowest_up}
use Rattle.ea_hierarchy.proofs.Paths.{climbs_more, top_ends}
use Rattle.ea_hierarchy.proofs.cells.Cells.climb.Goals as goal

pub returns-then-parent-clause-top : goal.returns-then-parent-clause-top
returns-then-parent-clause-top c =
    let firsts = c.args.upward.now.firsts.items in
    let heads = c.args.upward.now.heads.items in
    let at = c.loop-path.at in
    let climbs = c.loop-path.invariant.climbs in
    let none = c.parent-parent.ensures.none c.if-parent.true in
    rw c.push_reserved.ensures.items (top_ends firsts heads c.loop-path.path.items c.args.rank at climbs c.args.self.now.aim c.args.self.now.list.items none)

pub loop-path-preserved : goal.loop-path-preserved
loop-path-preserved c =
    let firsts = c.args.upward.now.firsts.items in
    let heads = c.args.upward.now.heads.items in
    let at = c.loop-path.at in
    let parent = c.parent-parent.result in
    let climbs = c.loop-path.invariant.climbs in
    let lowest : IsLowest firsts heads at parent = c.parent-parent.ensures.lowest c.if-parent.false in
    let up = lowest_up (length firsts - 1) firsts heads c.requires.upward at parent climbs.below lowest in
    record {
      room = search rules;
      climbs = rw c.push_reserved.ensures.items (climbs_more firsts heads c.loop-path.path.items c.args.rank at climbs parent lowest up.0 up.1);
    }
