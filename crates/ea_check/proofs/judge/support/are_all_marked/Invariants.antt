use Rattle.std.proofs.Common.{◌≡◌, ◌≢◌, ℕ, ◌<◌, true, false, get_or}
use Rattle.ea_road.specs.declared.TheConstants.{NONE}
use Rattle.ea_check.specs.Verdicts.{times_of}
use Rattle.ea_check.proofs.judge.support.are_all_marked.Given as goal

abbrev pub invariant-loop-place : goal.invariant-loop-place
invariant-loop-place l =
    (before : ℕ) → before < l.place → get_or (times_of l.reported) before 0 ≢ NONE → get_or l.marks before false ≡ true
