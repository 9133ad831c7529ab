use Rattle.std.proofs.Common.{length}
use Rattle.ea_search.specs.Frontiers.{HaveNone, entries_in}
use Rattle.ea_search.specs.Searching.{KeepsRoom}
use Rattle.ea_search.proofs.buckets.frontier.Frontier.clear.Given as goal

abbrev pub invariant-emptying : goal.invariant-emptying
invariant-emptying l = KeepsRoom l.initial.self.todo l.self.todo

abbrev pub decreases-emptying : goal.decreases-emptying
decreases-emptying l = entries_in l.self

abbrev pub invariant-releasing : goal.invariant-releasing
invariant-releasing l = record {
  none : HaveNone l.self.lists;
  room : KeepsRoom l.initial.self.todo l.self.todo;
}

abbrev pub decreases-releasing : goal.decreases-releasing
decreases-releasing l = length l.self.todo.waiting
