-- The reports of problems.
use Rattle.std.specs.Prelude.{◌≡◌, ℕ, true, List, [], ◌∷◌, ◌++◌}
use Rattle.ea_road.specs.Roads.{Roads}
use Rattle.ea_road.specs.Queries.{Asking}
use Rattle.ea_search.specs.Answers.{Answered}
use Rattle.ea_asked.specs.Asked.{HasArrivalsAt, IsAnswerAt}
use Rattle.ea_report.specs.Asked.{Shape}
use Rattle.ea_report.specs.Report.{report_text}
use Rattle.ea_batch.specs.Shown.{IsShownIn}

-- A text is the report of a problem: for each node that it shows its least arrival and, with walks, its
-- canonical walk, in the shape that is asked.
pub record IsReportOf
    (shape : Shape)
    (roads : Roads)
    (answers : ℕ → ℕ → ℕ → ℕ → Type 0)
    (query : Asking)
    (text : List ℕ)
    : Type 0 where
  pub answer : Answered
  pub least : HasArrivalsAt roads answers query (IsShownIn shape.chosen query) answer
  pub canonical : shape.style.walks ≡ true → IsAnswerAt roads answers query (IsShownIn shape.chosen query) answer
  pub says : text ≡ report_text shape.style shape.chosen roads.nodes query answer

-- The reports of problems, one after another.
abbrev pub AreReported : Shape → Roads → (ℕ → ℕ → ℕ → ℕ → Type 0) → List Asking → List ℕ → Type 0
AreReported shape roads answers [] text = text ≡ []
AreReported shape roads answers (query ∷ queries) text =
    (first : List ℕ) × (others : List ℕ) × IsReportOf shape roads answers query first × AreReported shape roads answers queries others × (text ≡ first ++ others)
