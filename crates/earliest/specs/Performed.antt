-- The effect of each command, given its files.
use Rattle.std.specs.Prelude.{◌≡◌, Option, Some, Result, Ok, Err, option_map}
use Rattle.ea_bytes.specs.Device.{Seen}
use Rattle.ea_load.specs.Files.{Reading, reading}
use Rattle.ea_load.specs.Asked.{Files, files_of, IsAnswered, IsFailed}
use Rattle.ea_load.specs.declared.answer_fault.AnswerFault.{AnswerFault}
use Rattle.ea_messages.specs.declared.opened.Opened.{Opened}
use Rattle.ea_rank_command.specs.Ranks.{no_extras, rank_asks}
use Rattle.ea_options.specs.declared.options.Command.{Command}
use Rattle.ea_options.specs.declared.options.Command.TheVariants.{Run, Pairs, Rank, Check}
use Rattle.earliest.specs.Checks.{IsJudged, IsUnjudged}
use Rattle.earliest.specs.Runs.{run_asks, pair_asks}
use Rattle.earliest.specs.declared.commands.Performed.{Performed}
use Rattle.earliest.specs.declared.commands.Performed.TheVariants.{Reported, Ranked, Checked}

-- The files of a command, and a report's reader before and after, if there is one.
pub record PerformedOn : Type 0 where
  pub files : Files
  pub report_old : Option Seen
  pub report_new : Option Seen

abbrev pub performed_on : {R : Type 0} → (R → Seen) → Opened R → Opened R → PerformedOn
performed_on seen old new = record {
  files = files_of (reading seen old.gr new.gr) (reading seen old.starts new.starts) seen old.others new.others;
  report_old = option_map seen old.report;
  report_new = option_map seen new.report;
}

-- The files that rank errors need.
abbrev pub ranked_files : Files → Files
ranked_files files = record { gr = files.gr; starts = files.starts; tp_old = files.tp_old; tp_new = files.tp_new; extras = no_extras }

-- The report, if there is one, was judged, or not for this reason.
abbrev pub IsCheckedBy : (Reading → Type 0) → Option Seen → Option Seen → Type 0
IsCheckedBy IsSo (Some old) (Some new) = IsSo (record { old = old; new = new })
IsCheckedBy IsSo _ _ = ⊥

-- Each command has the effect that its call promises for its files and options: a run and pairs write a
-- report, rank errors their lines, and a check gives a verdict and writes nothing.
abbrev pub IsPerformed : Command → PerformedOn → Seen → Seen → Result Performed AnswerFault → Type 0
IsPerformed (Run gr ss tp times nodes output options) on first now (Ok (Reported totals)) = IsAnswered (run_asks options) on.files first now totals
IsPerformed (Run gr ss tp times nodes output options) on first now (Err fault) = IsFailed (run_asks options) on.files first now fault
IsPerformed (Pairs gr p2p tp times output options) on first now (Ok (Reported totals)) = IsAnswered (pair_asks options) on.files first now totals
IsPerformed (Pairs gr p2p tp times output options) on first now (Err fault) = IsFailed (pair_asks options) on.files first now fault
IsPerformed (Rank gr ss tp output options) on first now (Ok Ranked) = IsAnswered (rank_asks options) (ranked_files on.files) first now tt
IsPerformed (Rank gr ss tp output options) on first now (Err fault) = IsFailed (rank_asks options) (ranked_files on.files) first now fault
IsPerformed (Check gr ss tp times name options) on first now (Ok (Checked verdict)) =
    (now ≡ first) × IsCheckedBy (λ report. IsJudged options on.files report verdict) on.report_old on.report_new
IsPerformed (Check gr ss tp times name options) on first now (Err fault) =
    (now ≡ first) × IsCheckedBy (λ report. IsUnjudged options on.files report fault) on.report_old on.report_new
IsPerformed _ on first now _ = ⊥
