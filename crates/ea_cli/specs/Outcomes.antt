-- What is said after a command that had files.
use Rattle.std.specs.Prelude.{Option, Some, None, Result, Ok, Err}
use Rattle.ea_load.specs.declared.answer_fault.AnswerFault.{AnswerFault}
use Rattle.ea_messages.specs.declared.outcome_lines.Outcome.{Outcome}
use Rattle.ea_messages.specs.declared.outcome_lines.Outcome.TheVariants.{Accepted, Answer, Check as Refused}
use Rattle.earliest.specs.declared.commands.Performed.{Performed}
use Rattle.earliest.specs.declared.commands.Performed.TheVariants.{Reported, Ranked, Checked}

-- The outcome that is reported: none if everything was written, the verdict of a check, or a fault.
abbrev pub outcome_by : Result Performed AnswerFault → Option Outcome
outcome_by (Ok (Reported totals)) = None
outcome_by (Ok Ranked) = None
outcome_by (Ok (Checked (Ok done))) = Some Accepted
outcome_by (Ok (Checked (Err fault))) = Some (Refused fault)
outcome_by (Err fault) = Some (Answer fault)
