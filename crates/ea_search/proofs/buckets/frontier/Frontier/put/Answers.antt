use Rattle.std.proofs.Common.{ap, arith}
use Rattle.std.proofs.lemmas.List.{length-set}
use Rattle.ea_search.specs.Frontiers.{Frontage}
use Rattle.ea_search.proofs.Fronts.{pushed_entries, pushed_puts, refused_puts, same_lists}
use Rattle.ea_search.proofs.buckets.frontier.Frontier.put.Goals as goal

pub invariant_of-self : goal.invariant_of-self
invariant_of-self c =
    let nodes = ap (λ (f : Frontage). f.todo.nodes) c.self.view_is in (
      rw length-set c.self.invariant.0,
      pushed_entries (λ l. l.items) c.self.inside.lists.items c.args.list c.index_mut.result.now c.push.new.self (omega (arith, c.self.invariant.0, c.requires.list)) c.index_mut.ensures.value (c.args.time, c.args.node) c.self.inside.todo.nodes c.in-Ok.ensures.items (c.requires.node.0, omega (arith, c.requires.node.1)) c.self.invariant.1,
    )

pub invariant_of-self-in-Err : goal.invariant_of-self-in-Err
invariant_of-self-in-Err c = (
  rw length-set c.self.invariant.0,
  rw (same_lists (λ l. l.items) c.self.inside.lists.items c.args.list c.index_mut.result.now c.push.new.self (omega (arith, c.self.invariant.0, c.requires.list)) c.index_mut.ensures.value c.in-Err.ensures.items, c.add.ensures.room.0) c.self.invariant.1,
)

pub returns-in-Ok : goal.returns-in-Ok
returns-in-Ok c =
    rw (← c.self.view_is) (pushed_puts (λ l. l.items) c.self.inside.lists.items c.args.list c.index_mut.result.now c.push.new.self (omega (arith, c.self.invariant.0, c.requires.list)) c.index_mut.ensures.value (c.args.time, c.args.node) c.self.inside.todo c.in-Ok.ensures.items)

pub returns-in-Err : goal.returns-in-Err
returns-in-Err c =
    let same = same_lists (λ l. l.items) c.self.inside.lists.items c.args.list c.index_mut.result.now c.push.new.self (omega (arith, c.self.invariant.0, c.requires.list)) c.index_mut.ensures.value c.in-Err.ensures.items in
    rw (← c.self.view_is, same) (refused_puts _ c.self.inside.todo c.add.new.self (c.args.time, c.args.node) c.add.ensures.room c.add.ensures.inside c.add.ensures.kept)
