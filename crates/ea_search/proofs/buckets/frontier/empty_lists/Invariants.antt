use Rattle.std.proofs.Common.{◌≡◌, ℕ, List, length, map, sum_by}
use Rattle.ea_search.proofs.buckets.frontier.empty_lists.Given as goal

-- the number of lists so far, and no entry in them
abbrev pub invariant-adding : goal.invariant-adding
invariant-adding l = record {
  many : length l.lists.items ≡ l.counter;
  none : sum_by (λ (list : List (ℕ × ℕ)). length list) (map (λ v. v.items) l.lists.items) ≡ 0;
}
