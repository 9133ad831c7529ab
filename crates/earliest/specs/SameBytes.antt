-- The report of a run or of pairs, determined by its texts and options alone.
use Rattle.std.specs.Prelude.{◌≡◌, ℕ, Bool, List, ◌++◌, Option, Some, None, length, option_map}
use Rattle.std.specs.Io.KnownBytes.{Appends}
use Rattle.ea_base.specs.declared.direction.Direction.{Direction}
use Rattle.ea_bytes.specs.Device.{Seen}
use Rattle.ea_bytes.specs.Text.{field_lines}
use Rattle.ea_input.specs.Sources.{DenotesSources}
use Rattle.ea_input.specs.Pairs.{DenotesPairs}
use Rattle.ea_input.specs.Times.{DenotesTimes}
use Rattle.ea_road.specs.Turned.{directed_roads}
use Rattle.ea_load.specs.Files.{Extras}
use Rattle.ea_load.specs.Given.{Given, Denotes, roads_of, times_in}
use Rattle.ea_load.specs.Starts.{Plan, run_problems, pair_problems}
use Rattle.ea_report.specs.Asked.{Shape}
use Rattle.ea_report.specs.declared.stats.Totals.{Totals}
use Rattle.ea_options.specs.declared.options.RunOptions.{RunOptions}
use Rattle.earliest.specs.Fronts.{totals_text}
use Rattle.ea_batch.specs.Reported.{AreReported}
use Rattle.ea_load.specs.Asked.{Files, IsAnswered, tp_had}
use Rattle.earliest.specs.Runs.{run_asks, pair_asks}

-- The texts of a command's files.
pub record Texts : Type 0 where
  pub gr : List ℕ
  pub starts : List ℕ
  pub tp : Option (List ℕ)
  pub times : Option (List ℕ)
  pub nodes : Option (List ℕ)

-- What a report depends on beside its texts. Workers, heaps, turns and the seed don't occur here.
pub record Wanted : Type 0 where
  pub joint : Bool
  pub depart : ℕ
  pub gap : ℕ
  pub direction : Direction
  pub walks : Bool

abbrev pub wanted_by : RunOptions → Wanted
wanted_by options = record { joint = options.joint; depart = options.depart; gap = options.gap; direction = options.direction; walks = options.walks }

abbrev pub plan_wanted : Wanted → Extras → Plan
plan_wanted wanted extras = record { depart = wanted.depart; gap = wanted.gap; times = extras.times; direction = wanted.direction }

abbrev pub shape_wanted : Wanted → Extras → Shape
shape_wanted wanted extras = record { style = record { walks = wanted.walks; direction = wanted.direction }; chosen = extras.nodes }

-- The value of an optional text: there is one exactly if there is a text.
abbrev pub DenotesOptional : {X : Type 0} → (List (List (List ℕ)) → X → Type 0) → Option (List ℕ) → Option X → Type 0
DenotesOptional Denotes None None = Unit {0}
DenotesOptional Denotes (Some text) (Some x) = Denotes (field_lines text) x
DenotesOptional Denotes _ _ = ⊥

-- What the texts of times and of nodes denote, for this many starts and nodes.
pub record DenoteExtras (texts : Texts) (starts size : ℕ) (extras : Extras) : Type 0 where
  pub times : DenotesOptional (DenotesTimes starts) texts.times extras.times
  pub nodes : DenotesOptional (DenotesSources size) texts.nodes extras.nodes

-- The report of a run of these texts.
pub record IsRunReport (texts : Texts) (wanted : Wanted) (report : List ℕ) : Type 0 where
  pub given : Given
  pub sources : List ℕ
  pub extras : Extras
  pub denoted : Denotes texts.gr texts.tp given
  pub starts : DenotesSources given.graph.nodes (field_lines texts.starts) sources
  pub extra : DenoteExtras texts (length sources) given.graph.nodes extras
  pub reported : AreReported (shape_wanted wanted extras) (directed_roads wanted.direction (roads_of given)) (times_in wanted.direction given.table) (run_problems wanted.joint (plan_wanted wanted extras) sources) report

-- The report of the pairs of these texts.
pub record IsPairReport (texts : Texts) (wanted : Wanted) (report : List ℕ) : Type 0 where
  pub given : Given
  pub pairs : List (ℕ × ℕ)
  pub extras : Extras
  pub denoted : Denotes texts.gr texts.tp given
  pub starts : DenotesPairs given.graph.nodes (field_lines texts.starts) pairs
  pub extra : DenoteExtras texts (length pairs) given.graph.nodes extras
  pub reported : AreReported (shape_wanted wanted extras) (directed_roads wanted.direction (roads_of given)) (times_in wanted.direction given.table) (pair_problems (plan_wanted wanted extras) 0 pairs) report

-- Two reports of the same texts that want the same are equal.
abbrev pub RunsHaveOneReport : Type 0
RunsHaveOneReport = (texts : Texts) (wanted : Wanted) (this that : List ℕ) → IsRunReport texts wanted this → IsRunReport texts wanted that → this ≡ that

abbrev pub PairsHaveOneReport : Type 0
PairsHaveOneReport = (texts : Texts) (wanted : Wanted) (this that : List ℕ) → IsPairReport texts wanted this → IsPairReport texts wanted that → this ≡ that

-- ---- two calls

-- A call that returned without a fault: its options, its files, its output before and after, and its totals.
pub record Answering : Type 0 where
  pub options : RunOptions
  pub files : Files
  pub first : Seen
  pub now : Seen
  pub totals : Totals

-- The readers of files had these texts: of the network, of the starts, and of the others if they are there.
pub record HadTexts (texts : Texts) (files : Files) : Type 0 where
  pub of_gr : files.gr.old.bytes ≡ Some texts.gr
  pub of_starts : files.starts.old.bytes ≡ Some texts.starts
  pub of_tp : tp_had files ≡ option_map Some texts.tp
  pub of_times : option_map (λ (seen : Seen). seen.bytes) files.extras.times_old ≡ option_map Some texts.times
  pub of_nodes : option_map (λ (seen : Seen). seen.bytes) files.extras.nodes_old ≡ option_map Some texts.nodes

-- It answered a run of these texts.
pub record AnswersRun (texts : Texts) (call : Answering) : Type 0 where
  pub had : HadTexts texts call.files
  pub answered : IsAnswered (run_asks call.options) call.files call.first call.now call.totals

-- It answered these texts' pairs.
pub record AnswersPairs (texts : Texts) (call : Answering) : Type 0 where
  pub had : HadTexts texts call.files
  pub answered : IsAnswered (pair_asks call.options) call.files call.first call.now call.totals

-- Two calls ask for the same report. Statistics, workers, heaps, turns, seeds and outputs may differ.
abbrev pub AskForOne : RunOptions → RunOptions → Type 0
AskForOne this that = wanted_by this ≡ wanted_by that

-- A call sent this report and, with statistics, its totals.
abbrev pub Sends : Answering → List ℕ → Type 0
Sends call report = Appends call.first.bytes call.now.bytes (report ++ totals_text call.options call.totals)

-- Two calls that answered runs of the same texts and asked for the same sent one report, that of the run.
abbrev pub AnsweredRunsAgree : Type 0
AnsweredRunsAgree = (texts : Texts) (this that : Answering) → AskForOne this.options that.options → AnswersRun texts this → AnswersRun texts that
    → (report : List ℕ) × IsRunReport texts (wanted_by this.options) report × Sends this report × Sends that report

-- The same for pairs.
abbrev pub AnsweredPairsAgree : Type 0
AnsweredPairsAgree = (texts : Texts) (this that : Answering) → AskForOne this.options that.options → AnswersPairs texts this → AnswersPairs texts that
    → (report : List ℕ) × IsPairReport texts (wanted_by this.options) report × Sends this report × Sends that report
