-- The problems of runs and pairs, and what is sent.
use Rattle.std.specs.Prelude.{ℕ, IfErr, IfOk, List, Option, Result, length}
use Rattle.ea_bytes.specs.Device.{Seen}
use Rattle.ea_input.specs.Formats.{source_format, pair_format}
use Rattle.ea_input.specs.Sources.{DenotesSources}
use Rattle.ea_input.specs.Pairs.{DenotesPairs}
use Rattle.ea_load.specs.declared.file_fault.FileWord.TheVariants.{Ss, P2p}
use Rattle.ea_load.specs.Starts.{AreWithin, Plan, run_problems, pair_problems}
use Rattle.ea_load.specs.Asked.{Asks, Files, IsAnswered, IsFailed}
use Rattle.ea_load.specs.declared.answer_fault.AnswerFault.{AnswerFault}
use Rattle.ea_report.specs.declared.stats.Totals.{Totals}
use Rattle.ea_options.specs.declared.options.RunOptions.{RunOptions}
use Rattle.earliest.specs.Fronts.{IsCutShort, IsWritten}

-- When starts depart or have to be reached, by the options and, if there is one, a list of times.
abbrev pub plan_by : RunOptions → Option (List ℕ) → Plan
plan_by options times = record { depart = options.depart; gap = options.gap; times = times; direction = options.direction }

-- What was asked on files is answered, or why it isn't.
pub record AnswersOrFails {S T : Type 0} (asks : Asks S T) (files : Files) (first now : Seen) (result : Result T AnswerFault) : Type 0 where
  pub answered : IfOk result (IsAnswered asks files first now)
  pub failed : IfErr result (IsFailed asks files first now)

-- A run asks each source alone, or all together: the report of its problems and, with statistics, the totals.
abbrev pub run_asks : RunOptions → Asks (List ℕ) Totals
run_asks options = record {
  word = Ss;
  format = source_format;
  DenotesStarts = DenotesSources;
  count = λ sources. length sources;
  direction = options.direction;
  problems = λ sources extras. run_problems options.joint (plan_by options extras.times) sources;
  AreWithin = λ sources extras. AreWithin (plan_by options extras.times) (length sources);
  IsWhole = IsWritten options;
  IsCut = IsCutShort options;
}

-- Each pair is asked alone.
abbrev pub pair_asks : RunOptions → Asks (List (ℕ × ℕ)) Totals
pair_asks options = record {
  word = P2p;
  format = pair_format;
  DenotesStarts = DenotesPairs;
  count = λ pairs. length pairs;
  direction = options.direction;
  problems = λ pairs extras. pair_problems (plan_by options extras.times) 0 pairs;
  AreWithin = λ pairs extras. AreWithin (plan_by options extras.times) (length pairs);
  IsWhole = IsWritten options;
  IsCut = IsCutShort options;
}
