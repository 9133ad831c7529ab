use Rattle.std.proofs.Common.{◌≡◌, ℕ, ◌<◌, ◌≤◌, get_or}
use Rattle.ea_check.specs.declared.form.run.Run.{Run}
use Rattle.ea_check.specs.Pieces.{IsRead}
use Rattle.ea_check.proofs.team.AloneTeam.read_runs.Given as goal

abbrev pub invariant-loop-run : goal.invariant-loop-run
invariant-loop-run l = record {
  read : (place : ℕ) (run : Run) → place < l.run-index → IsRead l.way l.text l.last (get_or l.fn.runs place run) (get_or l.runs place run);
  left : (place : ℕ) (run : Run) → l.run-index ≤ place → get_or l.runs place run ≡ get_or l.fn.runs place run;
}
