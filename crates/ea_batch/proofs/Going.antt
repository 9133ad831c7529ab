-- Sending problem after problem.
use Rattle.std.proofs.Common.{◌<◌, ℕ, List, [], ◌∷◌, length, refl, inl, arith}
use Rattle.ea_bytes.specs.Device.{Seen}
use Rattle.ea_road.specs.Roads.{Roads}
use Rattle.ea_road.specs.Queries.{Asking}
use Rattle.ea_load.specs.declared.answer_fault.AnswerFault.{AnswerFault}
use Rattle.ea_load.specs.declared.answer_fault.AnswerFault.TheVariants.{OutOfMemory}
use Rattle.ea_report.specs.Asked.{Shape}
use Rattle.ea_batch.specs.declared.draft.Job.{Job}
use Rattle.ea_batch.specs.Drafts.{SendsUpTo, StopsAfter}
use Rattle.ea_batch.specs.Sent.{AreCutShort}
use Rattle.ea_batch.proofs.Sent.{sent_none, stops}

-- Nothing was sent.
pub goes_nowhere : (job : Job) (from : ℕ) (now : Seen) (written : ℕ) → SendsUpTo job from from now written now written
goes_nowhere job from now written = record { sent = λ first fits before. before }

module _ (job : Job) (from mid : ℕ) (old between now : Seen) (before written : ℕ) (went : SendsUpTo job from mid old before between written) where
  -- More was sent.
  pub goes_further : (to after : ℕ) → SendsUpTo job mid to between written now after → SendsUpTo job from to old before now after
  goes_further to after more = record { sent = λ first fits sent. more.sent first fits (went.sent first fits sent) }

  -- Then it stopped.
  pub stops_later : (fault : AnswerFault) → StopsAfter job mid between written now fault → StopsAfter job from old before now fault
  stops_later fault stop = record { cut = λ first fits sent. stop.cut first fits (went.sent first fits sent) }

-- Nothing was sent, since memory was refused.
pub stops_at_once : (shape : Shape) (roads : Roads) (answers : ℕ → ℕ → ℕ → ℕ → Type 0) (all : List Asking) (first : Seen) → 0 < length all → AreCutShort shape roads answers all first first (OutOfMemory 0)
stops_at_once shape roads answers [] first some = absurd (omega (arith, some))
stops_at_once shape roads answers (query ∷ rest) first some =
    stops shape roads answers (query ∷ rest) 0 query some refl first first first 0 (sent_none shape roads answers first) (OutOfMemory 0) (inl (refl, refl))
