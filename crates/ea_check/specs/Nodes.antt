-- Faults in the lines of nodes other than improved times.
use Rattle.std.specs.Prelude.{ℕ, ◌≤◌, List, Option, Some, None, Result, Ok, Err}
use Rattle.ea_road.specs.declared.source.Source.{Source}
use Rattle.ea_road.specs.Roads.{Roads}
use Rattle.ea_check.specs.declared.fault.CheckFault.{CheckFault}
use Rattle.ea_check.specs.declared.fault.CheckFault.TheVariants.{BadLine, NotAttained, NotLeast, OutOfMemory, NotCanonical}
use Rattle.ea_check.specs.Verdicts.{Said, AreAttained, AreCanonical, IsAttained, IsCanonicalAt, IsFirst, IsNotAttained, IsNotCanonical}

-- The first line of a node with a fault of a sort.
pub record IsFirstAt (IsFault : ℕ → ℕ → Type 0) (node line : ℕ) : Type 0 where
  pub fault : IsFault node line
  pub first : (next : ℕ) → IsFault node next → line ≤ next

-- The `w` line of a node that is not the canonical walk, or none, if the node's lines are attained; otherwise
-- the first that is not attained.
abbrev pub IsOtherAt : Roads → (ℕ → ℕ → ℕ → ℕ → Type 0) → List Source → List Said → ℕ → Result (Option ℕ) CheckFault → Type 0
IsOtherAt roads answers sources reported node (Ok None) =
    IsAttained roads answers sources reported node × IsCanonicalAt roads answers sources reported node
IsOtherAt roads answers sources reported node (Ok (Some line)) =
    IsAttained roads answers sources reported node × IsFirstAt (IsNotCanonical roads answers sources reported) node line
IsOtherAt roads answers sources reported node (Err (NotAttained line)) =
    IsFirstAt (IsNotAttained roads answers sources reported) node line
IsOtherAt roads answers sources reported node (Err OutOfMemory) = Unit {0}
IsOtherAt roads answers sources reported node (Err (NotCanonical line)) = ⊥
IsOtherAt roads answers sources reported node (Err (NotLeast line)) = ⊥
IsOtherAt roads answers sources reported node (Err (BadLine line)) = ⊥

-- The first `w` line that is not the canonical walk, or none, if all lines are attained; otherwise the first
-- that is not attained.
abbrev pub IsFirstOther : Roads → (ℕ → ℕ → ℕ → ℕ → Type 0) → List Source → List Said → Result (Option ℕ) CheckFault → Type 0
IsFirstOther roads answers sources reported (Ok None) =
    AreAttained roads answers sources reported × AreCanonical roads answers sources reported
IsFirstOther roads answers sources reported (Ok (Some line)) =
    AreAttained roads answers sources reported × IsFirst (IsNotCanonical roads answers sources reported) line
IsFirstOther roads answers sources reported (Err (NotAttained line)) =
    IsFirst (IsNotAttained roads answers sources reported) line
IsFirstOther roads answers sources reported (Err OutOfMemory) = Unit {0}
IsFirstOther roads answers sources reported (Err (NotCanonical line)) = ⊥
IsFirstOther roads answers sources reported (Err (NotLeast line)) = ⊥
IsFirstOther roads answers sources reported (Err (BadLine line)) = ⊥
