use Rattle.std.proofs.Common.{◌≤◌}
use Rattle.std.specs.List.Sorted.{IsPermutation}
use Rattle.ea_asked.proofs.frontier.divide.Given as goal

-- So far entries were only moved.
abbrev pub invariant-loop-place : goal.invariant-loop-place
invariant-loop-place l = IsPermutation l.initial.entries l.entries × (l.begin ≤ l.place)
