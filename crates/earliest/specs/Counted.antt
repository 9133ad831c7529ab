-- The counts of searches, and their totals.
use Rattle.std.specs.Prelude.{◌≡◌, ℕ, ◌+◌, ◌*◌, ◌^◌, ◌≤◌, List, [], ◌∷◌, All, length, sum_by}
use Rattle.std.specs.List.{FoldsTo}
use Rattle.ea_road.specs.Queries.{Asking}
use Rattle.ea_engine.specs.declared.worker.counters.Counters.{Counters}
use Rattle.ea_engine.specs.declared.settings.Settings.{Settings}
use Rattle.ea_engine.specs.declared.worker.turn.Flow.{Flow}
use Rattle.ea_engine.specs.declared.worker.turn.Flow.TheVariants.{Go}
use Rattle.ea_engine.specs.declared.worker.turn.Turn.{Turn}
use Rattle.ea_engine.specs.Companies.{StaysOn}
use Rattle.ea_engine.specs.Limits.{AreSettings, pace_of}
use Rattle.ea_engine.specs.Tallies.{IsTally, IsLoneTally, pushed_by_all, popped_by_all}
use Rattle.ea_engine.specs.Turns.{Told, IsTurnList, AreCounters}
use Rattle.ea_report.specs.declared.stats.Totals.{Totals}

-- The counts of one problem: entries that were seeded, handed back and drained, nodes that were open when the
-- finishing pass began, and each worker's counters.
pub record Counts : Type 0 where
  pub seeded : ℕ
  pub returned : ℕ
  pub drained : ℕ
  pub finish : ℕ
  pub workers : List Counters

-- A worker alone continues after each turn; one of several leaves as one of a company may.
abbrev pub StaysAmong : ℕ → List Told → Type 0
StaysAmong workers turns = StaysOn 0 turns × (workers ≡ 1 → All (λ t. t.1 ≡ Go) turns)

-- For all turns that a tracer sees, its worker stays.
abbrev pub KeepsOn : {T : Type 0} → (T → Turn → Flow → T → Type 0) → ℕ → T → Type 0
KeepsOn {T} shows workers tracer = (turns : List Told) (last : T) → FoldsTo (λ p t q. shows p t.0 t.1 q) tracer turns last → StaysAmong workers turns

-- Workers with these settings can run: each has a generator, and a copy of a tracer by which it stays.
pub record CanRunCopies {T : Type 0} (shows : T → Turn → Flow → T → Type 0) (settings : Settings) (rngs : ℕ) (tracer : T) : Type 0 where
  pub settings_are : AreSettings settings
  pub workers : rngs ≡ settings.workers
  pub stays : KeepsOn shows settings.workers tracer

-- A worker counted the turns of a lawful list of turns, and stayed.
pub record CountsTurns (settings : Settings) (counters : Counters) : Type 0 where
  pub turns : List Told
  pub lawful : IsTurnList (pace_of settings) turns
  pub counted : AreCounters settings.batch turns counters
  pub stays : StaysAmong settings.workers turns

-- A run of a problem with these settings has these counts.
pub record AreCountsOf (settings : Settings) (query : Asking) (counts : Counts) : Type 0 where
  pub one_each : length counts.workers ≡ settings.workers
  pub turns : All (CountsTurns settings) counts.workers
  pub tally : IsTally (length query.sources) counts.seeded counts.returned counts.drained counts.finish counts.workers
  pub lone : IsLoneTally settings.batch (settings.workers * settings.heaps) counts.drained counts.workers

-- Runs of problems, one after another, have these counts.
abbrev pub AreCountsOfAll : Settings → List Asking → List Counts → Type 0
AreCountsOfAll settings [] [] = Unit {0}
AreCountsOfAll settings (query ∷ queries) (counts ∷ more) = AreCountsOf settings query counts × AreCountsOfAll settings queries more
AreCountsOfAll settings _ _ = ⊥

-- The totals of one problem: the sums over all workers.
abbrev pub totals_by : Counts → Totals
totals_by counts = record {
  seeded = counts.seeded;
  pushed = pushed_by_all counts.workers;
  popped = popped_by_all counts.workers;
  stale = sum_by (λ (c : Counters). c.stale) counts.workers;
  scanned = sum_by (λ (c : Counters). c.scanned) counts.workers;
  returned = counts.returned;
  drained = counts.drained;
  finish = counts.finish;
}

-- The totals of problems: each is the sum over the problems.
abbrev pub totals_of : List Counts → Totals
totals_of all = record {
  seeded = sum_by (λ counts. (totals_by counts).seeded) all;
  pushed = sum_by (λ counts. (totals_by counts).pushed) all;
  popped = sum_by (λ counts. (totals_by counts).popped) all;
  stale = sum_by (λ counts. (totals_by counts).stale) all;
  scanned = sum_by (λ counts. (totals_by counts).scanned) all;
  returned = sum_by (λ counts. (totals_by counts).returned) all;
  drained = sum_by (λ counts. (totals_by counts).drained) all;
  finish = sum_by (λ counts. (totals_by counts).finish) all;
}

-- Totals of some problems and of others.
abbrev pub plus : Totals → Totals → Totals
plus these those = record {
  seeded = these.seeded + those.seeded;
  pushed = these.pushed + those.pushed;
  popped = these.popped + those.popped;
  stale = these.stale + those.stale;
  scanned = these.scanned + those.scanned;
  returned = these.returned + those.returned;
  drained = these.drained + those.drained;
  finish = these.finish + those.finish;
}

-- The totals of a run of a problem.
abbrev pub IsTotal : Settings → Asking → Totals → Type 0
IsTotal settings query totals = (counts : Counts) × AreCountsOf settings query counts × (totals ≡ totals_by counts)

-- The totals of runs of problems: the sums over each one's counts.
pub record AreTotals (settings : Settings) (problems : List Asking) (totals : Totals) : Type 0 where
  pub all : List Counts
  pub counted : AreCountsOfAll settings problems all
  pub sums : totals ≡ totals_of all

-- What was pushed was popped or drained. No more nodes were open when the finishing pass began than entries
-- were drained and handed back.
pub record AreBalanced (totals : Totals) : Type 0 where
  pub balance : totals.seeded + totals.pushed ≡ totals.popped + totals.drained
  pub few_open : totals.finish ≤ totals.drained + totals.returned

-- The totals of this many problems: each problem's are at most 2^80.
pub record AreSmall (problems : ℕ) (totals : Totals) : Type 0 where
  pub seeded : totals.seeded ≤ problems * 2 ^ 80
  pub pushed : totals.pushed ≤ problems * 2 ^ 80
  pub popped : totals.popped ≤ problems * 2 ^ 80
  pub stale : totals.stale ≤ problems * 2 ^ 80
  pub scanned : totals.scanned ≤ problems * 2 ^ 80
  pub returned : totals.returned ≤ problems * 2 ^ 80
  pub drained : totals.drained ≤ problems * 2 ^ 80
  pub finish : totals.finish ≤ problems * 2 ^ 80

-- Totals of no problem.
pub record AreNoTotals (totals : Totals) : Type 0 where
  pub none : totals ≡ totals_of []
  pub balanced : AreBalanced totals
  pub small : AreSmall 0 totals

-- Totals of one problem: they balance and are small.
pub record AreOfOne (totals : Totals) : Type 0 where
  pub balanced : AreBalanced totals
  pub small : AreSmall 1 totals
