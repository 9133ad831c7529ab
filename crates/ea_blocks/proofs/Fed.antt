-- A reader that gets texts one after another.
use Rattle.std.proofs.Common.{◌≡◌, ◌⊎◌, ℕ, List, ◌++◌, arith, subst, true, false}
use Rattle.std.specs.Prelude.{Option, Some, None, Result, Ok, Err, is_some}
use Rattle.ea_bytes.specs.Text.{field_lines}
use Rattle.ea_blocks.specs.Reading.{GivesLine, ReadsAll, lines_after, text_after}
use Rattle.ea_blocks.specs.Fault.{Gives, fault_at, out_of_memory}
use Rattle.ea_blocks.specs.Streams.{EndsLine, HasFed}
use Rattle.ea_blocks.proofs.Joined.{back_on, count_on, fault_on}
use Rattle.ea_blocks.proofs.Steps.{Step, ended, ended_badly, stopped}
use Rattle.ea_blocks.specs.declared.fault.FaultKind.{FaultKind}
use Rattle.ea_blocks.specs.declared.fault.InputFault.{InputFault}

-- A fault stays the first.
pub fault_stays : {S : Type 0} (step : Step S) (start : S) (before text : List ℕ) (state : S) (lines : ℕ) (fault : Option InputFault) → is_some fault ≡ true → EndsLine before
    → HasFed step start before state lines fault → HasFed step start (before ++ text) state lines fault
fault_stays step start before text state lines None is ends fed = cc
fault_stays step start before text state lines (Some fault) is ends fed = fault_on step 0 start (before ++ text) before text fault (ends text) fed

-- Lines are read after those before them.
pub lines_come : {S T : Type 0} (step : Step S) (view : T → S) (start : S) (before text : List ℕ) (old new : T) (lines count : ℕ) (fault : Option InputFault) → is_some fault ≡ false → EndsLine before
    → HasFed step start before (view old) lines fault → ReadsAll step view lines old new text (Ok count) → HasFed step start (before ++ text) (view new) count fault
lines_come step view start before text old new lines count None is ends fed read = (
  back_on step (λ (x : ℕ). view new) 0 lines start (view old) (before ++ text) before text (Ok count) (ends text) fed.0 (omega (arith, fed.1)) read.0,
  omega (arith, read.1.0, fed.1, count_on (before ++ text) before text (ends text)),
)
lines_come step view start before text old new lines count (Some fault) is ends fed read = cc

-- The first fault of lines after those before them.
pub fault_comes : {S T : Type 0} (step : Step S) (view : T → S) (start : S) (before text : List ℕ) (old new : T) (lines : ℕ) (known : Option InputFault) (fault : InputFault) → is_some known ≡ false → EndsLine before
    → HasFed step start before (view old) lines known → ReadsAll step view lines old new text (Err fault)
    → (fault ≡ out_of_memory) ⊎ (lines_after step 0 start (field_lines (before ++ text)) ≡ Err fault)
fault_comes step view start before text old new lines None fault is ends fed read =
    back_on step (λ (x : ℕ). view new) 0 lines start (view old) (before ++ text) before text (Err fault) (ends text) fed.0 (omega (arith, fed.1)) read.0
fault_comes step view start before text old new lines (Some known) fault is ends fed read = cc

-- ---- at the end of all texts

pub fails : {S X Y : Type 0} (step : Step S) (end : S → Result Y FaultKind) (view : X → Y) (start : S) (text : List ℕ) (state : S) (lines : ℕ) (known : Option InputFault) (fault : InputFault) → known ≡ Some fault
    → HasFed step start text state lines known → Gives view (Err fault) (text_after step end start (field_lines text))
fails step end view start text state lines known fault is fed = stopped step end view start (field_lines text) fault (subst (λ o. HasFed step start text state lines o) is fed)

pub finishes : {S X Y : Type 0} (step : Step S) (end : S → Result Y FaultKind) (view : X → Y) (start : S) (text : List ℕ) (state : S) (lines : ℕ) (known : Option InputFault) (x : X) → known ≡ None
    → HasFed step start text state lines known → GivesLine view (Ok x) (end state) → Gives view (Ok x) (text_after step end start (field_lines text))
finishes step end view start text state lines known x is fed last =
    let read = subst (λ o. HasFed step start text state lines o) is fed in
    ended step end view start state (field_lines text) x read.0 last

pub ends_badly : {S X Y : Type 0} (step : Step S) (end : S → Result Y FaultKind) (view : X → Y) (start : S) (text : List ℕ) (state : S) (lines : ℕ) (known : Option InputFault) (kind : FaultKind) → known ≡ None
    → HasFed step start text state lines known → GivesLine view (Err kind) (end state) → Gives view (Err (fault_at 0 kind)) (text_after step end start (field_lines text))
ends_badly step end view start text state lines known kind is fed last =
    let read = subst (λ o. HasFed step start text state lines o) is fed in
    ended_badly step end view start state (field_lines text) kind read.0 last
