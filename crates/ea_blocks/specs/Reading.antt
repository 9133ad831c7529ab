-- Texts, read line by line.
use Rattle.std.specs.Prelude.{◌≡◌, ◌⊎◌, ℕ, ◌+◌, ◌<◌, ◌≤◌, List, [], ◌∷◌, length, IfOk, Result, Ok, Err}
use Rattle.std.specs.Borrow.{Bor}
use Rattle.std.specs.Str.Lines.{strip_carriage_return}
use Rattle.ea_bytes.specs.Text.{lines_of, fields_of, field_lines}
use Rattle.ea_blocks.specs.Fault.{◌>>=◌, in_line, Gives}
use Rattle.ea_blocks.specs.declared.fault.FaultKind.{FaultKind}
use Rattle.ea_blocks.specs.declared.fault.FaultKind.TheVariants.{OutOfMemory}
use Rattle.ea_blocks.specs.declared.fault.InputFault.{InputFault}

-- The state after lines, each read after the one before it, or the fault of the first line with one. This
-- many lines came before.
unfoldable pub lines_after : {S : Type 0} → (S → List (List ℕ) → Result S FaultKind) → ℕ → S → List (List (List ℕ)) → Result S InputFault
lines_after step before state [] = Ok state
lines_after step before state (line ∷ lines) = in_line (before + 1) (step state line) >>= λ next. lines_after step (before + 1) next lines

-- What a text denotes by the checks in order: its lines, then its end.
unfoldable pub text_after : {S X : Type 0} → (S → List (List ℕ) → Result S FaultKind) → (S → Result X FaultKind) → S → List (List (List ℕ)) → Result X InputFault
text_after step end start lines = lines_after step 0 start lines >>= λ state. in_line 0 (end state)

-- The result of a line, seen by a view, is what the checks say, unless memory was refused.
abbrev pub GivesLine : {X Y : Type 0} → (X → Y) → Result X FaultKind → Result Y FaultKind → Type 0
GivesLine view (Ok x) said = said ≡ Ok (view x)
GivesLine view (Err kind) said = (kind ≡ OutOfMemory) ⊎ (said ≡ Err kind)

-- The first line of a text was read, with this result.
abbrev pub ReadsFront : {S : Type 0} → (S → List (List ℕ) → Result S FaultKind) → List ℕ → S → S → Result (Bor (List ℕ)) FaultKind → Type 0
ReadsFront step text before after (Ok rest) =
    (line : List ℕ) × (lines_of text ≡ line ∷ lines_of rest.now) × (length rest.now < length text) × (step before (fields_of (strip_carriage_return line)) ≡ Ok after)
ReadsFront step text before after (Err kind) =
    (line : List ℕ) × (rest : List ℕ) × (lines_of text ≡ line ∷ lines_of rest) × ((kind ≡ OutOfMemory) ⊎ (step before (fields_of (strip_carriage_return line)) ≡ Err kind))

-- All lines of a text were read, after this many before it. The result is the number of lines before what
-- follows.
abbrev pub ReadsAll : {S T : Type 0} → (S → List (List ℕ) → Result S FaultKind) → (T → S) → ℕ → T → T → List ℕ → Result ℕ InputFault → Type 0
ReadsAll step state before old new text read =
    Gives (λ _. state new) read (lines_after step before (state old) (field_lines text))
    × IfOk read (λ line. (line ≡ before + length (field_lines text)) × (line ≤ before + length text))
