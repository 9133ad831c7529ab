-- The text of a problem, by what is asked.
use Rattle.std.proofs.Common.{◌≡◌, ℕ, List, ◌++◌, refl}
use Rattle.std.specs.Prelude.{Option, Some, None}
use Rattle.std.specs.List.{flat_map}
use Rattle.ea_road.specs.Queries.{Asking}
use Rattle.ea_search.specs.Answers.{Answered}
use Rattle.ea_report.specs.Report.{asked_line, report_text, reported_node, reported_nodes, start_line}
use Rattle.ea_report.specs.declared.style.Style.{Style}

pub all_text : (style : Style) (chosen : Option (List ℕ)) (nodes : ℕ) (query : Asking) (answer : Answered) → query.target ≡ None → flat_map (start_line style.direction) query.sources ++ reported_nodes style chosen nodes answer ≡ report_text style chosen nodes query answer
all_text style chosen nodes query answer e = rw e refl

pub target_text : (style : Style) (chosen : Option (List ℕ)) (nodes : ℕ) (query : Asking) (answer : Answered) (target : ℕ) → query.target ≡ Some target → flat_map (asked_line style.direction target) query.sources ++ reported_node style answer target ≡ report_text style chosen nodes query answer
target_text style chosen nodes query answer target e = rw e refl
