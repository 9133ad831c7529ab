-- The checker's verdict on a report.
use Rattle.std.specs.Prelude.{◌≡◌, ℕ, None, List, [], ◌∷◌, map, Result, Ok, Err}
use Rattle.std.specs.List.{IsAmong}
use Rattle.ea_road.specs.Queries.{Asking, IsProblem}
use Rattle.ea_road.specs.declared.source.Source.{Source}
use Rattle.ea_road.specs.Roads.{Roads}
use Rattle.ea_check.specs.declared.fault.CheckFault.{CheckFault}
use Rattle.ea_check.specs.declared.fault.CheckFault.TheVariants.{BadLine, NotAttained, NotLeast, OutOfMemory, NotCanonical}
use Rattle.ea_check.specs.Form.{Line, SaysProblems, IsBadLine}
use Rattle.ea_check.specs.Verdicts.{Said, IsFaultless, IsRight, IsVerdict}

-- Each query is a problem, and asks all nodes.
abbrev pub AreCheckable : Roads → ℕ → List Asking → Type 0
AreCheckable roads classes queries =
    (query : Asking) → IsAmong queries query → IsProblem roads classes query × (query.target ≡ None)

-- The sources of each query.
abbrev pub sources_of : List Asking → List (List Source)
sources_of queries = map (λ query. query.sources) queries

-- Each problem's report is right.
abbrev pub AreRight : Roads → (ℕ → ℕ → ℕ → ℕ → Type 0) → List (List Source) → List (List Said) → Type 0
AreRight roads answers [] [] = Unit {0}
AreRight roads answers [] (reported ∷ problems) = ⊥
AreRight roads answers (sources ∷ queries) [] = ⊥
AreRight roads answers (sources ∷ queries) (reported ∷ problems) =
    IsRight roads answers sources reported × AreRight roads answers queries problems

-- The fault of the first problem that has one.
pub data IsFirstFault
    (roads : Roads)
    (answers : ℕ → ℕ → ℕ → ℕ → Type 0)
    (fault : CheckFault)
    : List (List Source) → List (List Said) → Type 0 where
  in_this : {sources : List Source} {queries : List (List Source)} {reported : List Said} {problems : List (List Said)} → IsVerdict roads answers sources reported (Err fault) → IsFirstFault roads answers fault (sources ∷ queries) (reported ∷ problems)
  in_later : {sources : List Source} {queries : List (List Source)} {reported : List Said} {problems : List (List Said)} → IsFaultless roads answers sources reported → IsFirstFault roads answers fault queries problems → IsFirstFault roads answers fault (sources ∷ queries) (reported ∷ problems)

-- Lines of right form, whose first fault is this.
pub record IsFaulty
    (roads : Roads)
    (answers : ℕ → ℕ → ℕ → ℕ → Type 0)
    (queries : List (List Source))
    (lines : List Line)
    (fault : CheckFault)
    : Type 0 where
  pub problems : List (List Said)
  pub form : SaysProblems roads.nodes queries problems lines
  pub first : IsFirstFault roads answers fault queries problems

-- The verdict on the lines of a report. Refused memory says nothing of them.
abbrev pub IsChecked : Roads → (ℕ → ℕ → ℕ → ℕ → Type 0) → List (List Source) → List Line → Result (Unit {0}) CheckFault → Type 0
IsChecked roads answers queries lines (Ok _) =
    (problems : List (List Said)) × SaysProblems roads.nodes queries problems lines × AreRight roads answers queries problems
IsChecked roads answers queries lines (Err (BadLine line)) = IsBadLine roads.nodes queries lines line
IsChecked roads answers queries lines (Err OutOfMemory) = Unit {0}
IsChecked roads answers queries lines (Err (NotAttained line)) = IsFaulty roads answers queries lines (NotAttained line)
IsChecked roads answers queries lines (Err (NotLeast line)) = IsFaulty roads answers queries lines (NotLeast line)
IsChecked roads answers queries lines (Err (NotCanonical line)) = IsFaulty roads answers queries lines (NotCanonical line)
