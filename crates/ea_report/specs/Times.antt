-- The lines of times that are built at once.
use Rattle.std.specs.Prelude.{◌≡◌, ℕ, ◌+◌, ◌*◌, ◌^◌, ◌<◌, ◌≤◌, List, None}
use Rattle.ea_search.specs.Answers.{Answered}
use Rattle.ea_report.specs.Report.{node_time, some_nodes}
use Rattle.ea_report.specs.declared.time_lines.TheConstants.{LINE}
use Rattle.ea_report.specs.declared.time_lines.TimeSpan.{TimeSpan}

-- The lines of a span, in the order of its nodes.
abbrev pub times_text : Answered → TimeSpan → List ℕ
times_text answer span = some_nodes (node_time span.direction answer) span.after span.count

-- A text of this length has room for them; the nodes are those of an answer that has all.
pub record MayPutTimes (room : ℕ) (answer : Answered) (span : TimeSpan) : Type 0 where
  pub fits : span.count * LINE ≤ room
  pub nodes : span.after + span.count ≤ answer.nodes
  pub few : span.after + span.count < 2 ^ 32
  pub all : answer.target ≡ None
