use Rattle.std.proofs.Common.{ℕ, ◌-◌, ◌<◌, get_or}
use Rattle.ea_goal.specs.declared.frontier.Entry.{Entry}
use Rattle.ea_goal.specs.declared.frontier.TheConstants.{FARTHEST}
use Rattle.ea_goal.proofs.frontier.are_above.Given as goal

abbrev pub invariant-loop-entry : goal.invariant-loop-entry
invariant-loop-entry l = (place : ℕ) (other : Entry) → place < l.entry-index → l.last < FARTHEST - (get_or l.entries place other).nearness
