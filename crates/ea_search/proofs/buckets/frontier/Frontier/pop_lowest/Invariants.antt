use Rattle.std.proofs.Common.{◌≡◌, ℕ, ◌<◌}
use Rattle.ea_search.specs.Frontiers.{HasNone}
use Rattle.ea_search.proofs.buckets.frontier.Frontier.pop_lowest.Given as goal

-- nothing changed, and the lists so far have none
abbrev pub invariant-loop-list : goal.invariant-loop-list
invariant-loop-list l = record {
  same : l.self ≡ l.initial.self;
  none : (place : ℕ) → place < l.list → HasNone l.initial.self.lists place;
}
