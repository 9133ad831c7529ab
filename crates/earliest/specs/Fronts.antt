-- What was sent of a report, whole or cut short.
use Rattle.std.specs.Prelude.{◌≡◌, ℕ, ◌+◌, ◌*◌, ◌≤◌, true, List, [], ◌++◌, if◌then◌else◌, length, Option}
use Rattle.std.specs.Io.KnownBytes.{Appends}
use Rattle.ea_bytes.specs.Device.{GivesUp, Seen}
use Rattle.ea_base.specs.declared.limits.TheConstants.{MOST_INTERRUPTIONS}
use Rattle.ea_road.specs.Roads.{Roads}
use Rattle.ea_road.specs.Queries.{Asking}
use Rattle.ea_report.specs.declared.stats.Totals.{Totals}
use Rattle.ea_report.specs.Asked.{Shape}
use Rattle.ea_report.specs.Sent.{IsCutAt}
use Rattle.ea_report.specs.Stats.{stats_text}
use Rattle.ea_options.specs.declared.options.RunOptions.{RunOptions}
use Rattle.earliest.specs.Counted.{AreBalanced, AreTotals}
use Rattle.ea_batch.specs.Reported.{AreReported}
use Rattle.ea_batch.specs.Sent.{AreCutShort, AreSent}
use Rattle.earliest.specs.Workers.{settings_by}
use Rattle.ea_load.specs.declared.answer_fault.AnswerFault.{AnswerFault}
use Rattle.ea_load.specs.declared.answer_fault.AnswerFault.TheVariants.{Write}

-- What a report shows: walks if they are asked for, in the direction that is asked, and of these nodes.
abbrev pub shape_by : RunOptions → Option (List ℕ) → Shape
shape_by options chosen = record { style = record { walks = options.walks; direction = options.direction }; chosen = chosen }

-- With statistics, the totals follow the reports.
abbrev pub totals_text : RunOptions → Totals → List ℕ
totals_text options totals = if options.stats then stats_text totals else []

-- The reports of all problems were sent and, with statistics, their totals: sums over runs of the problems,
-- which balance. Without statistics the totals say nothing of runs. No call of the device failed, and at most
-- 1,000 for each problem and for the totals were interrupted.
pub record IsWritten (options : RunOptions) (chosen : Option (List ℕ)) (roads : Roads) (answers : ℕ → ℕ → ℕ → ℕ → Type 0) (problems : List Asking) (first now : Seen) (totals : Totals) : Type 0 where
  pub report : List ℕ
  pub are_reported : AreReported (shape_by options chosen) roads answers problems report
  pub appended : Appends first.bytes now.bytes (report ++ totals_text options totals)
  pub counted : options.stats ≡ true → AreTotals (settings_by options) problems totals
  pub balanced : AreBalanced totals
  pub unfailed : now.failed ≡ first.failed
  pub borne : now.interrupted ≤ first.interrupted + (length problems + 1) * MOST_INTERRUPTIONS

-- ---- cut short

-- The reports of all problems were sent, and of their totals only the first bytes: the device gave up there.
pub record AreTotalsCut (options : RunOptions) (chosen : Option (List ℕ)) (roads : Roads) (answers : ℕ → ℕ → ℕ → ℕ → Type 0) (problems : List Asking) (first now : Seen) (written : ℕ) : Type 0 where
  pub asked : options.stats ≡ true
  pub old : Seen
  pub before : ℕ
  pub sent : AreSent (shape_by options chosen) roads answers problems first old before
  pub totals : Totals
  pub counted : AreTotals (settings_by options) problems totals
  pub size : ℕ
  pub is_written : written ≡ before + size
  pub cut : IsCutAt old.bytes now.bytes (stats_text totals) size
  pub gives_up : GivesUp old now

-- What was sent was cut short: the reports of this many problems were sent whole, and the next one's stopped;
-- or the totals did.
pub data IsCutShort (options : RunOptions) (chosen : Option (List ℕ)) (roads : Roads) (answers : ℕ → ℕ → ℕ → ℕ → Type 0) (problems : List Asking) (first now : Seen) (fault : AnswerFault) : Type 0 where
  in_problem : AreCutShort (shape_by options chosen) roads answers problems first now fault → IsCutShort options chosen roads answers problems first now fault
  in_totals : (written : ℕ) → fault ≡ Write written → AreTotalsCut options chosen roads answers problems first now written → IsCutShort options chosen roads answers problems first now fault
