use Rattle.std.proofs.Common.{arith}
use Rattle.ea_search.specs.Underway.{bound_of}
use Rattle.ea_search.proofs.Fronts.{KeepsWaiting-then}
use Rattle.ea_search.proofs.buckets.frontier.Frontier.refill.Goals as goal

pub draw-requires : goal.draw-requires
draw-requires g c =
    let label = bound_of (g.L.Table.labels c.args.table.now) in
    omega (arith, c.requires, (c.narrow.ensures label).nodes, (c.advance.ensures label).nodes)

pub returns : goal.returns
returns g c =
    let label = bound_of (g.L.Table.labels c.args.table.now) in
    rw c.self-2.view_is (KeepsWaiting-then label _ _ _ (KeepsWaiting-then label _ _ _ (c.narrow.ensures label) (c.advance.ensures label)) c.draw.ensures)

pub returns-then-len-lt-FEW : goal.returns-then-len-lt-FEW
returns-then-len-lt-FEW g c =
    let label = bound_of (g.L.Table.labels c.args.table.now) in
    rw c.self.view_is (KeepsWaiting-then label _ _ _ (c.narrow.ensures label) (c.advance.ensures label))
