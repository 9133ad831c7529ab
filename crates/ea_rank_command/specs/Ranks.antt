-- The lines of rank errors, source by source.
use Rattle.std.specs.Prelude.{◌≡◌, ℕ, ◌+◌, ◌*◌, ◌^◌, ◌≤◌, List, [], ◌∷◌, ◌++◌, false, Option, Ok, codes, decimal, length, option_map, take, None}
use Rattle.std.specs.List.{flat_map}
use Rattle.std.specs.Io.KnownBytes.{Appends}
use Rattle.ea_bytes.specs.Device.{Seen, BearsOn, GivesUp}
use Rattle.ea_input.specs.Formats.{source_format}
use Rattle.ea_input.specs.Sources.{DenotesSources}
use Rattle.ea_road.specs.Roads.{Roads}
use Rattle.ea_road.specs.Queries.{Asking}
use Rattle.ea_road.specs.declared.source.Source.{Source}
use Rattle.ea_load.specs.declared.file_fault.FileWord.TheVariants.{Ss}
use Rattle.ea_base.specs.declared.direction.Direction.TheVariants.{Forward}
use Rattle.ea_load.specs.Files.{ExtraFiles, Reading}
use Rattle.ea_load.specs.Starts.{AreWithin, Plan, run_problems}
use Rattle.ea_rank.specs.declared.event.Event.{Event}
use Rattle.ea_rank.specs.declared.summary.Summary.{Summary}
use Rattle.ea_rank.specs.Courses.{IsRunBy}
use Rattle.ea_rank.specs.Ranks.{popped_keys, queue_after, rank_errors}
use Rattle.ea_rank.specs.Records.{ContainArrivals, HasRanks}
use Rattle.ea_rank.specs.Summaries.{summary_of}
use Rattle.ea_report.specs.Report.{line, source_line}
use Rattle.ea_report.specs.Delivery.{Delivery}
use Rattle.ea_report.specs.Sent.{Adds, Delivers, IsCutAt, IsExact, Stops}
use Rattle.ea_report.specs.declared.report.WriteFaultKind.TheVariants.{WriteFailed}
use Rattle.ea_options.specs.Limits.{counted_workers}
use Rattle.ea_options.specs.declared.options.RunOptions.{RunOptions}
use Rattle.ea_load.specs.Asked.{Asks, Files}
use Rattle.ea_rank_command.specs.Generators.{words_from}
use Rattle.ea_load.specs.declared.answer_fault.AnswerFault.{AnswerFault}
use Rattle.ea_load.specs.declared.answer_fault.AnswerFault.TheVariants.{Write, OutOfMemory}

-- A recorded run has as many heaps as all workers have.
abbrev pub heaps_of : RunOptions → ℕ
heaps_of options = counted_workers options * options.heaps

-- `r POPS MAX SUM`
abbrev pub rank_line : Summary → List ℕ
rank_line summary = line (codes "r") (decimal summary.pops ∷ decimal summary.greatest ∷ decimal summary.sum ∷ [])

-- A query asks all nodes from one source.
pub record HasOneSource (query : Asking) : Type 0 where
  pub one : length query.sources ≡ 1
  pub all : query.target ≡ None

module _ (heaps seed : ℕ) (roads : Roads) (answers : ℕ → ℕ → ℕ → ℕ → Type 0) where
  -- The rank errors are those of a recorded run with this number of heaps and the words of the seed: each
  -- popped key was in the queue, and with two heaps no smaller one was; the queue ends empty; and the least
  -- arrivals are among the popped keys.
  pub record AreRanks (sources : List Source) (ranks : List ℕ) : Type 0 where
    pub events : List Event
    pub course : IsRunBy roads answers heaps (words_from seed) sources events
    pub right : HasRanks heaps events
    pub empty : queue_after [] events ≡ []
    pub least : ContainArrivals roads answers sources (popped_keys events)
    pub found : rank_errors events ≡ Ok ranks

  -- The lines of a problem: its source, and the number, the greatest and the sum of the rank errors.
  pub record IsRankText (query : Asking) (text : List ℕ) : Type 0 where
    pub ranks : List ℕ
    pub are_ranks : AreRanks query.sources ranks
    pub says : text ≡ flat_map source_line query.sources ++ rank_line (summary_of ranks)

  -- The lines of problems, one after another.
  abbrev pub AreRankTexts : List Asking → List ℕ → Type 0
  AreRankTexts [] text = text ≡ []
  AreRankTexts (query ∷ queries) text =
      (first : List ℕ) × (others : List ℕ) × IsRankText query first × AreRankTexts queries others × (text ≡ first ++ others)

  -- The lines of all problems were sent; no call failed, and the interruptions over all of them were
  -- tolerated.
  pub record IsRanking (queries : List Asking) (first now : Seen) : Type 0 where
    pub text : List ℕ
    pub are_texts : AreRankTexts queries text
    pub appended : Appends first.bytes now.bytes text
    pub borne : BearsOn first now

  -- The bytes that were sent are the first of the lines of this many problems.
  pub record IsRankFront (queries : List Asking) (old new : Option (List ℕ)) (written : ℕ) : Type 0 where
    pub count : ℕ
    pub text : List ℕ
    pub are_texts : AreRankTexts (take count queries) text
    pub cut : IsCutAt old new text written

  -- The lines were cut short: the first bytes were sent. If the device is the reason, a call failed, or there
  -- was one interruption too many over all lines; if memory is, neither.
  abbrev pub IsRankingCut : List Asking → Seen → Seen → AnswerFault → Type 0
  IsRankingCut queries first now (Write written) =
      IsRankFront queries first.bytes now.bytes written × GivesUp first now
  IsRankingCut queries first now (OutOfMemory written) = IsRankFront queries first.bytes now.bytes written × BearsOn first now
  IsRankingCut queries first now _ = ⊥

  -- ---- one problem of many, which are sent as one text

  -- Its lines were sent, at most 2^70 bytes.
  abbrev pub AddsRanks : Asking → Seen → Delivery → Seen → Delivery → Type 0
  AddsRanks query old delivery now delivery_now =
      (text : List ℕ) × IsRankText query text × Adds old delivery now delivery_now text × (delivery_now.written ≤ delivery.written + 2 ^ 70)

  -- The device gave up in its lines, after at most 2^70 bytes of them; or memory was refused before them.
  abbrev pub StopsRanks : Asking → Seen → Delivery → Seen → AnswerFault → Type 0
  StopsRanks query old delivery now (Write sent) =
      (text : List ℕ) × IsRankText query text × (sent ≤ delivery.written + 2 ^ 70) × (IsExact sent → Stops old delivery now (record { written = sent; kind = WriteFailed }) text)
  StopsRanks query old delivery now (OutOfMemory sent) = (sent ≡ delivery.written) × (now ≡ old)
  StopsRanks query old delivery now _ = ⊥

  -- The lines of problems are delivered.
  abbrev pub AreDelivered : List Asking → Seen → Seen → Delivery → Type 0
  AreDelivered queries first now delivery = (text : List ℕ) × AreRankTexts queries text × Delivers first now delivery text

-- ---- from files

-- Sources depart one after the other, whatever else the options say.
abbrev pub rank_plan : RunOptions → Plan
rank_plan options = record { depart = options.depart; gap = options.gap; times = None; direction = Forward }

-- Each source is asked alone, for any `joint`; its lines are those of a run with the heaps of all workers and
-- the words of the seed.
abbrev pub rank_asks : RunOptions → Asks (List ℕ) (Unit {0})
rank_asks options = record {
  word = Ss;
  format = source_format;
  DenotesStarts = DenotesSources;
  count = λ sources. length sources;
  direction = Forward;
  problems = λ sources extras. run_problems false (rank_plan options) sources;
  AreWithin = λ sources extras. AreWithin (rank_plan options) (length sources);
  IsWhole = λ nodes roads answers problems first now done. IsRanking (heaps_of options) options.seed roads answers problems first now;
  IsCut = λ nodes roads answers problems first now fault. IsRankingCut (heaps_of options) options.seed roads answers problems first now fault;
}

-- There are no files of times and of nodes.
abbrev pub no_extras : ExtraFiles
no_extras = record { times_old = None; times_new = None; nodes_old = None; nodes_new = None }

-- The files of rank errors before and after they were read.
abbrev pub rank_files : {R : Type 0} → Reading → Reading → (R → Seen) → Option R → Option R → Files
rank_files gr starts seen old new = record { gr = gr; starts = starts; tp_old = option_map seen old; tp_new = option_map seen new; extras = no_extras }
