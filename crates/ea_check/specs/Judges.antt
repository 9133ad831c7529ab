-- Calls that judge the parts of a network's arcs.
use Rattle.std.specs.Prelude.{ℕ, List}
use denote.Ref.{Bor, MutBor}
use denote.Param.Members.{Shared}
use Rattle.ea_road.specs.Queries.{Asking}
use Rattle.ea_road.specs.Roads.{Roads}
use Rattle.ea_check.specs.declared.judge.part.Part.{Part}
use Rattle.ea_check.specs.Parts.{AreFewParts, AreAllJudged}
use Rattle.ea_check.specs.Verdicts.{Said, MayJudge}

-- What such a call is given.
abbrev pub Given : Type 0
Given = Bor Roads × (Bor Asking × (Bor (List Said) × (ℕ × (MutBor (List Part) × Unit {0}))))

-- And what it leaves.
abbrev pub Left : Type 0
Left = Unit {0} × (MutBor (List Part) × Unit {0})

module _ {F : Type 0} (g : Shared F Given Left) (f : F) (answers : ℕ → ℕ → ℕ → ℕ → Type 0) (classes : ℕ) where
  -- Whatever the network, the problem and its reported times, the parts may be judged, and are judged then.
  abbrev pub JudgesBy : Type 0
  JudgesBy =
      (network : Bor Roads) (query : Bor Asking) (reported : Bor (List Said)) (above : ℕ) (parts : MutBor (List Part)) → MayJudge network.now classes query.now.sources reported.now → AreFewParts network.now parts.now
      → g.pre f (network, (query, (reported, (above, (parts, tt)))))
      × ((after : MutBor (List Part)) → g.post f (network, (query, (reported, (above, (parts, tt))))) (tt, (after, tt)) → AreAllJudged network.now answers query.now.sources reported.now above parts.now after.now)
