-- Turns whose tracer stays.
use Rattle.std.proofs.Common.{◌≡◌, ℕ, ◌+◌, ◌≤◌, List, [], ◌∷◌, arith, inl, inr, subst, sym}
use Rattle.std.proofs.lemmas.List.Elements.{All-nil, All-cons}
use Rattle.std.specs.Prelude.{All}
use Rattle.std.specs.List.{FoldsTo}
use Rattle.ea_engine.specs.declared.worker.company.Member.{Member}
use Rattle.ea_engine.specs.declared.worker.turn.Flow.{Flow}
use Rattle.ea_engine.specs.declared.worker.turn.Flow.TheVariants.{Go, Leave}
use Rattle.ea_engine.specs.declared.worker.turn.Turn.{Turn}
use Rattle.ea_engine.specs.declared.worker.turn.TurnKind.{TurnKind}
use Rattle.ea_engine.specs.declared.worker.turn.TurnKind.TheVariants.{Empty, Busy, Stale, Scanned, Refused, Cut}
use Rattle.ea_engine.specs.Companies.{idle_with, IsIdleFor, LeavesAs, StaysAs, StaysOn}
use Rattle.ea_engine.specs.Turns.{Told}

late : (member : Member) (idle : ℕ) → IsIdleFor member idle → 384 ≤ member.quiet → 512 ≤ idle + 1
late member idle is quiet = elim is.quiet [
  | inl none ↦ omega (arith, none, quiet)
  | inr few ↦ omega (arith, few, quiet)
]

-- A member that leaves as it may has had enough consecutive idle turns, or looked.
pub member_stays : (member : Member) (idle : ℕ) (kind : TurnKind) (number : ℕ) (flow : Flow) → IsIdleFor member idle → LeavesAs kind number member flow → StaysAs kind number (idle_with idle kind) flow
member_stays member idle Empty number Go is leaves = tt
member_stays member idle Busy number Go is leaves = tt
member_stays member idle Stale number Go is leaves = tt
member_stays member idle Scanned number Go is leaves = tt
member_stays member idle Refused number Go is leaves = tt
member_stays member idle Cut number Go is leaves = tt
member_stays member idle Empty number Leave is leaves = late member idle is leaves
member_stays member idle Busy number Leave is leaves = late member idle is leaves
member_stays member idle Stale number Leave is leaves = leaves.0
member_stays member idle Scanned number Leave is leaves = leaves.0
member_stays member idle Refused number Leave is leaves = tt
member_stays member idle Cut number Leave is leaves = leaves.0

-- A worker that continues stays.
pub go_stays : (kind : TurnKind) (number idle : ℕ) (flow : Flow) → flow ≡ Go → StaysAs kind number idle flow
go_stays kind number idle flow goes = subst (StaysAs kind number idle) (sym goes) tt

module _ {T : Type 0} (shows : T → Turn → Flow → T → Type 0) where
  -- A tracer stays if it stays at each turn, by an invariant over the consecutive idle turns.
  pub stays_on : (keeps : T → ℕ → Type 0) → ((p : T) (idle : ℕ) (t : Turn) (f : Flow) (q : T) → keeps p idle → shows p t f q → StaysAs t.kind t.number (idle_with idle t.kind) f × keeps q (idle_with idle t.kind)) → (idle : ℕ) (p : T) (ts : List Told) (q : T) → keeps p idle → FoldsTo (λ p t q. shows p t.0 t.1 q) p ts q → StaysOn idle ts
  stays_on keeps each idle p [] q kept run = tt
  stays_on keeps each idle p (t ∷ ts) q kept run =
      let one = each p idle t.0 t.1 run.0 kept run.1 in
      (one.0, stays_on keeps each (idle_with idle t.0.kind) run.0 ts q one.1 run.2)

  -- A tracer that continues at each turn never leaves.
  pub goes_on : ((p : T) (t : Turn) (f : Flow) (q : T) → shows p t f q → f ≡ Go) → (p : T) (ts : List Told) (q : T) → FoldsTo (λ p t q. shows p t.0 t.1 q) p ts q → All (λ (t : Told). t.1 ≡ Go) ts
  goes_on each p [] q run = All-nil (λ (t : Told). t.1 ≡ Go)
  goes_on each p (t ∷ ts) q run = All-cons (λ (t : Told). t.1 ≡ Go) t ts (each p t.0 t.1 run.0 run.1) (goes_on each run.0 ts q run.2)
