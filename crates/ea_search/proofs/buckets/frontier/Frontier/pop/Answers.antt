use Rattle.std.proofs.Common.{sym, arith}
use Rattle.std.proofs.lemmas.List.{length-set}
use Rattle.ea_search.proofs.Fronts.{popped, popped_entries}
use Rattle.ea_search.proofs.buckets.frontier.Frontier.pop.Goals as goal

pub invariant_of-self : goal.invariant_of-self
invariant_of-self c = (
  rw length-set c.self.invariant.0,
  popped_entries (λ l. l.items) c.self.inside.lists.items c.args.list c.index_mut.result.now c.pop.new.self (omega (arith, c.self.invariant.0, c.requires)) c.index_mut.ensures.value c.pop.result c.self.inside.todo.nodes c.pop.ensures.items c.self.invariant.1,
)

pub returns : goal.returns
returns c =
    rw (← c.self.view_is) (popped (λ l. l.items) c.self.inside.lists.items c.args.list c.index_mut.result.now c.pop.new.self (omega (arith, c.self.invariant.0, c.requires)) c.index_mut.ensures.value c.pop.result c.self.inside.todo _ _ _ c.pop.ensures.items c.self.invariant.0 (sym c.index_mut.result.now.ok.0) c.pop.ensures.cases c.self.invariant.1)
