use Rattle.std.proofs.Common.{ℕ, ◌<◌}
use Rattle.std.specs.Prelude.{MatchOption}
use Rattle.ea_check.specs.Verdicts.{IsAttained, IsCanonicalAt, IsFirst, IsNotCanonical}
use Rattle.ea_check.specs.Passing.{ComparesFrom}
use Rattle.ea_check.proofs.judge.verdict.first_other.Given as goal

-- The lines of the nodes before are attained, and the first `w` line that is not canonical is known, if one
-- of these has any.
abbrev pub invariant-loop-node : goal.invariant-loop-node
invariant-loop-node g l = record {
  compares : ComparesFrom l.links l.reported l.node l.walks;
  attained : (before : ℕ) → before < l.node → IsAttained l.network (g.T.TravelTimes.answers l.times) l.query.sources l.reported before;
  canonical : MatchOption l.first ((before : ℕ) → before < l.node → IsCanonicalAt l.network (g.T.TravelTimes.answers l.times) l.query.sources l.reported before) (λ line. IsFirst (IsNotCanonical l.network (g.T.TravelTimes.answers l.times) l.query.sources l.reported) line);
}
