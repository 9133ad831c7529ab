use Rattle.std.proofs.Common.{◌≡◌, ℕ, ◌<◌, ◌≤◌, get_or}
use Rattle.ea_check.specs.declared.judge.part.Part.{Part}
use Rattle.ea_check.specs.Parts.{IsJudged}
use Rattle.ea_check.proofs.judge.verdict.judge_parts.Given as goal

abbrev pub invariant-loop-part : goal.invariant-loop-part
invariant-loop-part g l = record {
  judged : (place : ℕ) (part : Part) → place < l.part-index → IsJudged l.network (g.T.TravelTimes.answers l.times) l.query.sources l.reported l.above (get_or l.fn.parts place part) (get_or l.parts place part);
  left : (place : ℕ) (part : Part) → l.part-index ≤ place → get_or l.parts place part ≡ get_or l.fn.parts place part;
}
