-- What a run has written and may use, between two problems.
use Rattle.std.specs.Prelude.{◌≡◌, ◌≤◌, ◌<◌, ◌+◌, ◌*◌, ◌^◌, ℕ, Bool, true, [], if◌then◌else◌, IfErr, IfOk, IfSome, OnOk, List, Result, Ok, Err}
use Rattle.std.specs.Io.KnownBytes.{Appends}
use Rattle.ea_base.specs.declared.limits.TheConstants.{MOST_STARTS}
use Rattle.ea_bytes.specs.Device.{BearsOn, GivesUp, Seen}
use Rattle.ea_road.specs.Queries.{Asking}
use Rattle.ea_batch.specs.Arrays.{HasSentNothing, IsAided}
use Rattle.ea_batch.specs.Reportable.{AreReportable, IsReportable}
use Rattle.ea_batch.specs.Sent.{AreSent}
use Rattle.ea_batch.specs.Solved.{AnswersOn, AreAidsOn, ArrivesOn}
use Rattle.ea_batch.specs.declared.searching.Aids.{Aids}
use Rattle.ea_engine.specs.declared.settings.Settings.{Settings}
use Rattle.ea_load.specs.Posed.{times_on}
use Rattle.ea_load.specs.declared.answer_fault.AnswerFault.{AnswerFault}
use Rattle.ea_load.specs.declared.answer_fault.AnswerFault.TheVariants.{Write}
use Rattle.ea_load.specs.declared.road.Road.{Road}
use Rattle.ea_options.specs.Limits.{AreOptions}
use Rattle.ea_options.specs.declared.options.RunOptions.{RunOptions}
use Rattle.ea_report.specs.Asked.{Shape}
use Rattle.ea_report.specs.Sent.{IsCutAt}
use Rattle.ea_report.specs.Stats.{stats_text}
use Rattle.ea_report.specs.declared.stats.Totals.{Totals}
use Rattle.earliest.specs.Counted.{AreBalanced, AreNoTotals, AreOfOne, AreSmall, AreTotals, IsTotal, plus}
use Rattle.earliest.specs.Fronts.{IsCutShort, IsWritten, shape_by}
use Rattle.earliest.specs.Workers.{settings_by}
use Rattle.earliest.specs.declared.reports.Reports.{Reports}
use Rattle.earliest.specs.declared.solver_choice.Found.{Found}

-- The totals of the problems so far, which are fewer than a file may have.
pub record AreSoFar (totals : Totals) : Type 0 where
  pub small : (problems : ℕ) × (problems < MOST_STARTS) × AreSmall problems totals
  pub balanced : AreBalanced totals

-- What was written so far, and the totals.
pub record IsRunning (written : ℕ) (totals : Totals) : Type 0 where
  pub room : written ≤ MOST_STARTS * 2 ^ 90
  pub so_far : AreSoFar totals

-- Nothing was sent or counted yet.
pub record HasReportedNothing (aids : Aids) (reports : Reports) : Type 0 where
  pub totals : AreNoTotals reports.totals
  pub progress : HasSentNothing aids reports.progress

-- Totals with one more problem: they balance, and are as small as one more problem's are.
pub record HasOneMore (old new : Totals) : Type 0 where
  pub balanced : AreBalanced new
  pub small : (problems : ℕ) → AreSmall problems old → AreSmall (problems + 1) new

-- Totals with those of one more problem added.
pub record AddsTotals (old more new : Totals) : Type 0 where
  pub sums : new ≡ plus old more
  pub has_one_more : HasOneMore old new

-- Totals with one more problem: those of a run of it are added, if statistics are asked for.
pub record AddsReport (options : RunOptions) (query : Asking) (old new : Totals) : Type 0 where
  pub counted : options.stats ≡ true → (more : Totals) × IsTotal (settings_by options) query more × (new ≡ plus old more)
  pub more : HasOneMore old new

-- Workers found the least arrivals of a problem and, with walks, its canonical walks.
pub record IsFoundByWorkers (walks : Bool) (road : Road) (query : Asking) (found : Found) : Type 0 where
  pub arrivals : ArrivesOn road query found.answer
  pub canonical : walks ≡ true → AnswersOn road query found.answer
  pub of_one : AreOfOne found.totals

-- And with statistics their turns were counted, with the settings that the options ask for.
pub record AddsFound (options : RunOptions) (road : Road) (query : Asking) (result : Found) : Type 0 where
  pub found : IsFoundByWorkers options.walks road query result
  pub counted : options.stats ≡ true → IsTotal (settings_by options) query result.totals

-- And their turns were counted, with these settings.
pub record IsFoundAndCounted (walks : Bool) (settings : Settings) (road : Road) (query : Asking) (result : Found) : Type 0 where
  pub found : IsFoundByWorkers walks road query result
  pub counted : IsTotal settings query result.totals

-- The next problem of a run can be reported as the options say.
pub record MayReport (road : Road) (query : Asking) (options : RunOptions) (shape : Shape) (reports : Reports) : Type 0 where
  pub reportable : IsReportable road shape query
  pub options_are : AreOptions options
  pub walks : shape.style.walks ≡ options.walks
  pub running : IsRunning reports.progress.written reports.totals
  pub aided : IsAided road shape.style.walks reports.progress.search reports.progress.aids
  pub found : IfSome reports.found (AddsFound options road query)

-- All problems of a run can be.
pub record MayReportAll (road : Road) (queries : List Asking) (options : RunOptions) (shape : Shape) (means : Aids) : Type 0 where
  pub reportable : AreReportable road shape queries
  pub options_are : AreOptions options
  pub asked : shape ≡ shape_by options shape.chosen
  pub aids : AreAidsOn road means

-- The reports of all problems were sent and, with statistics, their totals were counted.
pub record HaveReported (options : RunOptions) (shape : Shape) (road : Road) (queries : List Asking) (old now : Seen) (reports : Reports) : Type 0 where
  pub sent : AreSent shape road.network (times_on road) queries old now reports.progress.written
  pub bound : reports.progress.written ≤ MOST_STARTS * 2 ^ 90
  pub counted : options.stats ≡ true → AreTotals (settings_by options) queries reports.totals
  pub balanced : AreBalanced reports.totals

-- They were sent, or cut short by a fault.
abbrev pub ReportsAll : RunOptions → Shape → Road → List Asking → Seen → Seen → Result Reports AnswerFault → Type 0
ReportsAll options shape road queries old now (Ok reports) = HaveReported options shape road queries old now reports
ReportsAll options shape road queries old now (Err fault) = IsCutShort options shape.chosen road.network (times_on road) queries old now fault

-- The totals of reports were written, if statistics are asked for; or the device gave up within them.
pub record WritesTotals (reports : Reports) (stats : Bool) (old now : Seen) (result : Result (Unit {0}) AnswerFault) : Type 0 where
  pub ok : OnOk result (Appends old.bytes now.bytes (if stats then stats_text reports.totals else []))
  pub borne : OnOk result (BearsOn old now)
  pub err : IfErr result (λ fault. (sent : ℕ) × (stats ≡ true) × (fault ≡ Write (reports.progress.written + sent)) × IsCutAt old.bytes now.bytes (stats_text reports.totals) sent × GivesUp old now)

-- All reports and, with statistics, the totals were written, or they were cut short.
pub record WritesAll (options : RunOptions) (shape : Shape) (road : Road) (queries : List Asking) (old now : Seen) (result : Result Totals AnswerFault) : Type 0 where
  pub ok : IfOk result (IsWritten options shape.chosen road.network (times_on road) queries old now)
  pub err : IfErr result (IsCutShort options shape.chosen road.network (times_on road) queries old now)
