use Rattle.std.proofs.Common.{◌≡◌, ◌≤◌, ◌<◌, ◌+◌, ℕ, Some, length, option_to_list, ◌⊎◌}
use Rattle.std.specs.Prelude.{IfSome}
use Rattle.ea_road.specs.Roads.{IsNode}
use Rattle.ea_search.specs.Candidates.{AreHadBy, IsPending}
use Rattle.ea_search.specs.Frontiers.{WaitsAt, entries_in}
use Rattle.ea_search.specs.Underway.{bound_of}
use Rattle.ea_search.proofs.buckets.bucket_search.take_hand_up.Given as goal

-- what waited, with the next entry taken out
abbrev pub invariant-loop-next : goal.invariant-loop-next
invariant-loop-next g l = record {
  rest : (node : ℕ) → (l.fn.first ≡ (bound_of (g.L.Table.labels l.table) node, node)) ⊎ WaitsAt l.initial.frontier (bound_of (g.L.Table.labels l.table)) node
      → (WaitsAt l.frontier (bound_of (g.L.Table.labels l.table)) node ⊎ IsPending l.network (g.T.TravelTimes.answers l.times) (g.L.Table.labels l.table) l.candidates node) ⊎ ((l.next ≡ Some (bound_of (g.L.Table.labels l.table) node, node)) ⊎ (l.last < bound_of (g.L.Table.labels l.table) node));
  had : AreHadBy l.network (g.T.TravelTimes.answers l.times) (g.L.Table.labels l.table) l.last l.candidates;
  fewer : entries_in l.frontier ≤ entries_in l.initial.frontier;
  nodes : l.frontier.todo.nodes ≡ l.initial.frontier.todo.nodes;
  walks : l.frontier.todo.walks ≡ l.initial.frontier.todo.walks;
  is_node : IfSome l.next (λ entry. IsNode l.network.nodes entry.1);
}

-- each turn takes an entry out
abbrev pub decreases-loop-next : goal.decreases-loop-next
decreases-loop-next g l = entries_in l.frontier + length (option_to_list l.next)
