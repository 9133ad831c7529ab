-- When a worker leaves its company.
use Rattle.std.specs.Prelude.{◌≡◌, ℕ, ◌+◌, ◌%◌, ◌<◌, ◌≤◌, ◌⊎◌, Bool, false, List, [], ◌∷◌, if◌then◌else◌}
use Rattle.ea_engine.specs.declared.worker.company.Company.{Company}
use Rattle.ea_engine.specs.declared.worker.company.Member.{Member}
use Rattle.ea_engine.specs.declared.worker.company.TheConstants.{NO_LIMIT}
use Rattle.ea_engine.specs.declared.worker.turn.Flow.{Flow}
use Rattle.ea_engine.specs.declared.worker.turn.Flow.TheVariants.{Go, Leave}
use Rattle.ea_engine.specs.declared.worker.turn.TurnKind.{TurnKind}
use Rattle.ea_engine.specs.declared.worker.turn.TurnKind.TheVariants.{Empty, Busy, Stale, Scanned, Refused, Cut}
use Rattle.ea_engine.specs.Turns.{Told, is_idle}

-- A worker looks at the others at every 64th turn, from turn 256 on.
abbrev pub IsLook : ℕ → Type 0
IsLook number = (256 ≤ number) × (number % 64 ≡ 0)

-- At a look, if all others were idle at 255 looks in a row before, or if the company has a limit.
abbrev pub MayLeaveAt : ℕ → Member → Type 0
MayLeaveAt number member = IsLook number × ((255 ≤ member.alone) ⊎ (member.company.now.most_falls < NO_LIMIT))

-- After a turn of each kind: if no worker was active in 384 consecutive idle turns, at such a look, or after
-- a refused push.
abbrev pub MayLeaveAs : TurnKind → ℕ → Member → Type 0
MayLeaveAs Empty number member = 384 ≤ member.quiet
MayLeaveAs Busy number member = 384 ≤ member.quiet
MayLeaveAs Stale number member = MayLeaveAt number member
MayLeaveAs Scanned number member = MayLeaveAt number member
MayLeaveAs Refused number member = Unit {0}
MayLeaveAs Cut number member = MayLeaveAt number member

-- A worker leaves after a refused push, and otherwise only if it may.
abbrev pub LeavesAs : TurnKind → ℕ → Member → Flow → Type 0
LeavesAs Empty number member Go = Unit {0}
LeavesAs Busy number member Go = Unit {0}
LeavesAs Stale number member Go = Unit {0}
LeavesAs Scanned number member Go = Unit {0}
LeavesAs Refused number member Go = ⊥
LeavesAs Cut number member Go = Unit {0}
LeavesAs kind number member Leave = MayLeaveAs kind number member

-- A turn that found nothing: the worker leaves only after 384 such turns in which no worker was active.
pub record FindsNothing (old new : Member) (flow : Flow) : Type 0 where
  pub leaves : flow ≡ Leave → 384 ≤ old.quiet
  pub idle : new.idle ≤ old.idle + 1
  pub quiet : (new.quiet ≡ 0) ⊎ (new.quiet ≡ old.quiet) ⊎ ((new.quiet ≤ old.quiet + 1) × (127 ≤ old.idle))
  pub alone : new.alone ≡ old.alone

-- A member's counts are at most the consecutive turns without an entry; none of the first 128 counts as
-- quiet.
pub record IsIdleFor (member : Member) (turns : ℕ) : Type 0 where
  pub idle : member.idle ≤ turns
  pub quiet : (member.quiet ≡ 0) ⊎ (member.quiet + 127 ≤ turns)

-- A worker of this company that has not begun.
pub record HasNotBegun (company : Company) (member : Member) : Type 0 where
  pub idle : IsIdleFor member 0
  pub alone : member.alone ≡ 0
  pub limit : member.company.now.most_falls ≡ company.most_falls

-- The number of consecutive turns without an entry, after one more turn.
abbrev pub idle_with : ℕ → TurnKind → ℕ
idle_with idle kind = if is_idle kind then idle + 1 else 0

-- A worker leaves after 512 consecutive turns without an entry, at a look, or after a refused push.
abbrev pub LeavesAfter : TurnKind → ℕ → ℕ → Type 0
LeavesAfter Empty number idle = 512 ≤ idle
LeavesAfter Busy number idle = 512 ≤ idle
LeavesAfter Stale number idle = IsLook number
LeavesAfter Scanned number idle = IsLook number
LeavesAfter Refused number idle = Unit {0}
LeavesAfter Cut number idle = IsLook number

-- It continues, or leaves after these.
abbrev pub StaysAs : TurnKind → ℕ → ℕ → Flow → Type 0
StaysAs kind number idle Go = Unit {0}
StaysAs kind number idle Leave = LeavesAfter kind number idle

-- Turn after turn it leaves only so, given the consecutive idle turns before the first.
abbrev pub StaysOn : ℕ → List Told → Type 0
StaysOn idle [] = Unit {0}
StaysOn idle (t ∷ ts) = StaysAs t.0.kind t.0.number (idle_with idle t.0.kind) t.1 × StaysOn (idle_with idle t.0.kind) ts

-- The counts of consecutive turns, and the company's limit, are unchanged.
pub record KeepsCounts (old new : Member) : Type 0 where
  pub limit : new.company.now.most_falls ≡ old.company.now.most_falls
  pub idle : new.idle ≡ old.idle
  pub quiet : new.quiet ≡ old.quiet
  pub alone : new.alone ≡ old.alone

-- Whether several workers still gain time; if not, the company has a limit.
pub record TellsGain (old new : Member) (gains : Bool) : Type 0 where
  pub limit : gains ≡ false → old.company.now.most_falls < NO_LIMIT
  pub rest : KeepsCounts old new

-- Only at a look may a member once more find all others idle.
abbrev pub LooksOnce : ℕ → Member → Member → Type 0
LooksOnce number old new = (new.alone ≤ old.alone) ⊎ (IsLook number × (new.alone ≤ old.alone + 1))

-- A look at the others, at which the worker leaves only if it may.
pub record LooksRound (old new : Member) (flow : Flow) : Type 0 where
  pub leaves : flow ≡ Leave → (255 ≤ old.alone) ⊎ (old.company.now.most_falls < NO_LIMIT)
  pub idle : new.idle ≡ old.idle
  pub quiet : new.quiet ≡ old.quiet
  pub alone : new.alone ≤ old.alone + 1

-- A turn that visited an entry ends the consecutive turns without one.
pub record FindsEntry (number : ℕ) (old new : Member) (flow : Flow) : Type 0 where
  pub leaves : flow ≡ Leave → MayLeaveAt number old
  pub idle : new.idle ≡ 0
  pub quiet : new.quiet ≡ 0
  pub alone : LooksOnce number old new
