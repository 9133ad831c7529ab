-- Drafts: reports of problems that are made before their turn.
use Rattle.std.specs.Prelude.{◌≡◌, ◌↔◌, ℕ, ◌+◌, ◌*◌, ◌<◌, ◌≤◌, ◌^◌, true, List, IfSome, Option, Some, Result, Ok, Err, length, take, slice_get, slice_index_or}
use Rattle.ea_bytes.specs.Device.{Seen}
use Rattle.ea_road.specs.Queries.{Asking}
use Rattle.ea_load.specs.declared.road.Road.{Road}
use Rattle.ea_batch.specs.Parts.{AllFrom}
use Rattle.ea_base.specs.declared.limits.TheConstants.{MOST_NODES, MOST_STARTS}
use Rattle.ea_load.specs.declared.answer_fault.AnswerFault.{AnswerFault}
use Rattle.ea_load.specs.Posed.{AreProblems, times_on}
use Rattle.ea_batch.specs.declared.draft.Draft.{Draft}
use Rattle.ea_batch.specs.declared.draft.Draft.TheVariants as draft
use Rattle.ea_batch.specs.declared.draft.Job.{Job}
use Rattle.ea_batch.specs.declared.draft.Made.{Made}
use Rattle.ea_batch.specs.declared.progress.Progress.{Progress}
use Rattle.ea_batch.specs.declared.searching.Searching.{Searching}
use Rattle.ea_batch.specs.Arrays.{IsAided}
use Rattle.ea_batch.specs.Sent.{AreCutShort, AreSent}
use Rattle.ea_batch.specs.Reported.{IsReportOf}
use Rattle.ea_report.specs.Asked.{Shape, shape_of}
use Rattle.ea_batch.specs.Solved.{AnswersAt, AreAidsOn, ArrivesAt, IsShown, Serves, searched}

-- The problems are problems on the road, not too many, the nodes that are shown are its nodes, what searches use is
-- of the road, and threads take several problems at once.
pub record IsJob (job : Job) : Type 0 where
  pub problems : AreProblems job.road.now job.queries.now
  pub few : length job.queries.now ≤ MOST_STARTS
  pub nodes : job.road.now.network.nodes ≤ MOST_NODES
  pub shown : IsShown job.road.now.network (shape_of job.shown)
  pub aids : AreAidsOn job.road.now job.aids
  pub part : 0 < job.plan.part

-- A draft is the text of a problem's report, or has its answer, or is nothing.
abbrev pub IsDraftOf : Shape → Road → Asking → Draft → Type 0
IsDraftOf shape road query draft.Nothing = Unit {0}
IsDraftOf shape road query (draft.Text text) = IsReportOf shape road.network (times_on road) query text.items
IsDraftOf shape road query (draft.Answer search) =
    Serves road.network shape.style.walks search × ArrivesAt shape.chosen road query (searched search).answer × (shape.style.walks ≡ true → AnswersAt shape.chosen road query (searched search).answer)

-- A draft of the problem with this number, from 0, if there is one.
abbrev pub IsDraftAt : Shape → Road → List Asking → ℕ → Draft → Type 0
IsDraftAt shape road queries number draft = (query : Asking) → slice_get queries number ≡ Some query → IsDraftOf shape road query draft

-- These are drafts of the problems from this one on.
abbrev pub AreDraftsAt : Shape → Road → List Asking → ℕ → List Draft → Type 0
AreDraftsAt shape road queries = AllFrom (IsDraftAt shape road queries)

-- The same for the elements of a list from place k on.
abbrev pub AreUnsent : Shape → Road → List Asking → ℕ → ℕ → List Draft → Type 0
AreUnsent shape road queries from k drafts =
    (j : ℕ) (d : Draft) → k ≤ j → j < length drafts → IsDraftAt shape road queries (from + j) (slice_index_or drafts j d)

-- These are named drafts of the problems from the first on.
abbrev pub IsFit : (ℕ → Draft → Type 0) → Made → Type 0
IsFit fits made = AllFrom fits made.from made.drafts.items

-- What is named a draft of a problem is one of the job's.
pub record IsFor (fits : ℕ → Draft → Type 0) (job : Job) : Type 0 where
  pub same : (number : ℕ) (draft : Draft) → fits number draft ↔ IsDraftAt (shape_of job.shown) job.road.now job.queries.now number draft

-- Drafts of a job can be made, on these arrays if there are any.
pub record MayMake (job : Job) (last : Option Searching) : Type 0 where
  pub is_job : IsJob job
  pub search : IfSome last (Serves job.road.now.network job.shown.style.walks)

-- The reports of the problems from one up to another were sent, if those before them were.
pub record SendsUpTo (job : Job) (from to : ℕ) (before : Seen) (written : ℕ) (now : Seen) (after : ℕ) : Type 0 where
  pub sent : (first : Seen) → first.interrupted < 2 ^ 64
      → AreSent (shape_of job.shown) job.road.now.network (times_on job.road.now) (take from job.queries.now) first before written
      → AreSent (shape_of job.shown) job.road.now.network (times_on job.road.now) (take to job.queries.now) first now after

-- Each of these is a list of drafts of the job's problems from its first on.
abbrev pub ArePiled : Job → List Made → Type 0
ArePiled job pile = (k : ℕ) (d : Made) → k < length pile
    → AreDraftsAt (shape_of job.shown) job.road.now job.queries.now (slice_index_or pile k d).from (slice_index_or pile k d).drafts.items

-- What is named a draft is one of the job's, and so is each on the pile.
pub record IsDeskFor (fits : ℕ → Draft → Type 0) (job : Job) (pile : List Made) : Type 0 where
  pub named : IsFor fits job
  pub piled : ArePiled job pile

-- The reports of the problems before this one were sent: no more bytes than they have, and what searches use is
-- of the road.
pub record StandsAt (job : Job) (from : ℕ) (progress : Progress) : Type 0 where
  pub is_job : IsJob job
  pub room : progress.written ≤ from * 2 ^ 90
  pub aided : IsAided job.road.now job.shown.style.walks progress.search progress.aids

-- The reports of the problems from one on can be sent, and the pile has drafts of them.
pub record CanSend (job : Job) (from : ℕ) (progress : Progress) (pile : List Made) : Type 0 where
  pub stands : StandsAt job from progress
  pub inside : from ≤ length job.queries.now
  pub piled : ArePiled job pile

-- The reports of the problems from one up to another were sent, and those from there on can be.
pub record HaveGone (job : Job) (from to : ℕ) (old : Seen) (before : Progress) (now : Seen) (after : Progress) (pile : List Made) : Type 0 where
  pub went : SendsUpTo job from to old before.written now after.written
  pub onward : from ≤ to
  pub can : CanSend job to after pile

-- A fault that stops the sending of the problems from this one on: if those before were sent, the reports are
-- cut short.
pub record StopsAfter (job : Job) (from : ℕ) (before : Seen) (written : ℕ) (now : Seen) (fault : AnswerFault) : Type 0 where
  pub cut : (first : Seen) → first.interrupted < 2 ^ 64
      → AreSent (shape_of job.shown) job.road.now.network (times_on job.road.now) (take from job.queries.now) first before written
      → AreCutShort (shape_of job.shown) job.road.now.network (times_on job.road.now) job.queries.now first now fault

-- The reports of the problems from one up to another were sent.
pub record IsPartSent (job : Job) (from to : ℕ) (old : Seen) (before : Progress) (now : Seen) (after : Progress) : Type 0 where
  pub went : SendsUpTo job from to old before.written now after.written
  pub stands : StandsAt job to after

-- They were sent, or a fault stopped them.
abbrev pub SendsPart : Job → ℕ → ℕ → Seen → Progress → Seen → Progress → Result (Unit {0}) AnswerFault → Type 0
SendsPart job from to old before now after (Ok done) = IsPartSent job from to old before now after
SendsPart job from to old before now after (Err fault) = StopsAfter job from old before.written now fault

-- The reports of some problems from one on were sent, or a fault stopped them; a result has the first that wasn't sent.
abbrev pub SendsSome : Job → ℕ → Seen → Progress → Seen → Progress → List Made → Result ℕ AnswerFault → Type 0
SendsSome job from old before now after pile (Ok to) = HaveGone job from to old before now after pile
SendsSome job from old before now after pile (Err fault) = StopsAfter job from old before.written now fault
