-- Lines read one after another.
use Rattle.std.proofs.Common.{◌≡◌, ◌⊎◌, ℕ, ◌+◌, List, [], ◌∷◌, length, map, refl, ap, sym, ◌∙◌, inl, inr, arith}
use Rattle.std.specs.Prelude.{Result, Ok, Err}
use Rattle.std.specs.Str.Lines.{strip_carriage_return}
use Rattle.ea_bytes.specs.Text.{lines_of, fields_of, field_lines}
use Rattle.ea_blocks.specs.Fault.{◌>>=◌, in_line, out_of_memory, fault_at, Gives}
use Rattle.ea_blocks.specs.Reading.{lines_after, text_after, GivesLine}
use Rattle.ea_blocks.specs.declared.fault.FaultKind.{FaultKind}
use Rattle.ea_blocks.specs.declared.fault.FaultKind.TheVariants.{NoProblemLine, SecondProblemLine, UnknownLine, FieldCount, BadNumber, OutOfRange, TooManyLines, TooFewLines, BadKind, OutOfMemory}
use Rattle.ea_blocks.specs.declared.fault.InputFault.{InputFault}

abbrev pub Step : Type 0 → Type 0
Step S = S → List (List ℕ) → Result S FaultKind

-- After a line comes the rest of the text.
pub after_line : {S : Type 0} (step : Step S) (n : ℕ) (s next : S) (text line after : List ℕ) → lines_of text ≡ line ∷ lines_of after → step s (fields_of (strip_carriage_return line)) ≡ Ok next → lines_after step n s (field_lines text) ≡ lines_after step (n + 1) next (field_lines after)
unfolding lines_after
after_line step n s next text line after cut e = ap (λ lines. lines_after step n s (map (λ l. fields_of (strip_carriage_return l)) lines)) cut ∙ ap (λ r. in_line (n + 1) r >>= λ t. lines_after step (n + 1) t (field_lines after)) e

-- A line's fault is the text's.
after_fault : {S : Type 0} (step : Step S) (n : ℕ) (s : S) (kind : FaultKind) (text line after : List ℕ) → lines_of text ≡ line ∷ lines_of after → step s (fields_of (strip_carriage_return line)) ≡ Err kind → lines_after step n s (field_lines text) ≡ Err (record { line = n + 1; kind = kind })
unfolding lines_after
after_fault step n s kind text line after cut e = ap (λ lines. lines_after step n s (map (λ l. fields_of (strip_carriage_return l)) lines)) cut ∙ ap (λ r. in_line (n + 1) r >>= λ t. lines_after step (n + 1) t (field_lines after)) e

-- At the end of the text no line is left.
pub after_end : {S : Type 0} (step : Step S) (n : ℕ) (s : S) (text : List ℕ) → length text ≡ 0 → lines_after step n s (field_lines text) ≡ Ok s
unfolding lines_after
after_end step n s [] e = refl
after_end step n s (b ∷ bs) e = absurd (omega arith)

fault_at_is : (line : ℕ) (kind : FaultKind) → (fault_at line kind ≡ out_of_memory) ⊎ (fault_at line kind ≡ record { line = line; kind = kind })
fault_at_is line NoProblemLine = inr refl
fault_at_is line SecondProblemLine = inr refl
fault_at_is line UnknownLine = inr refl
fault_at_is line FieldCount = inr refl
fault_at_is line BadNumber = inr refl
fault_at_is line OutOfRange = inr refl
fault_at_is line TooManyLines = inr refl
fault_at_is line TooFewLines = inr refl
fault_at_is line BadKind = inr refl
fault_at_is line OutOfMemory = inl refl

-- What the fault of a line says of a text read so far.
pub fault_gives : {S : Type 0} (step : Step S) (whole : Result S InputFault) (n : ℕ) (s : S) (kind : FaultKind) (text line after : List ℕ) → lines_of text ≡ line ∷ lines_of after
    → (kind ≡ OutOfMemory) ⊎ (step s (fields_of (strip_carriage_return line)) ≡ Err kind) → lines_after step n s (field_lines text) ≡ whole
    → (fault_at (n + 1) kind ≡ out_of_memory) ⊎ (whole ≡ Err (fault_at (n + 1) kind))
fault_gives step whole n s kind text line after cut (inl refused) same = inl (ap (fault_at (n + 1)) refused)
fault_gives step whole n s kind text line after cut (inr e) same = elim (fault_at_is (n + 1) kind) [
  | inl p ↦ inl p
  | inr p ↦ inr (sym same ∙ after_fault step n s kind text line after cut e ∙ ap (λ f. Err f) (sym p))
]

-- Reading a text: its lines, then its end.
pub ended : {S X Y : Type 0} (step : Step S) (end : S → Result Y FaultKind) (view : X → Y) (start last : S) (lines : List (List (List ℕ))) (x : X) → lines_after step 0 start lines ≡ Ok last → GivesLine view (Ok x) (end last) → Gives view (Ok x) (text_after step end start lines)
unfolding text_after
ended step end view start last lines x read h = ap (λ r. r >>= λ s. in_line 0 (end s)) read ∙ ap (in_line 0) h

pub ended_badly : {S X Y : Type 0} (step : Step S) (end : S → Result Y FaultKind) (view : X → Y) (start last : S) (lines : List (List (List ℕ))) (kind : FaultKind) → lines_after step 0 start lines ≡ Ok last → GivesLine view (Err kind) (end last) → Gives view (Err (fault_at 0 kind)) (text_after step end start lines)
unfolding text_after
ended_badly step end view start last lines kind read (inl refused) = inl (ap (fault_at 0) refused)
ended_badly step end view start last lines kind read (inr h) = elim (fault_at_is 0 kind) [
  | inl p ↦ inl p
  | inr p ↦ inr (ap (λ r. r >>= λ s. in_line 0 (end s)) read ∙ ap (in_line 0) h ∙ ap (λ f. Err f) (sym p))
]

pub stopped : {S X Y : Type 0} (step : Step S) (end : S → Result Y FaultKind) (view : X → Y) (start : S) (lines : List (List (List ℕ))) (fault : InputFault) → (fault ≡ out_of_memory) ⊎ (lines_after step 0 start lines ≡ Err fault) → Gives view (Err fault) (text_after step end start lines)
unfolding text_after
stopped step end view start lines fault (inl refused) = inl refused
stopped step end view start lines fault (inr read) = inr (ap (λ r. r >>= λ s. in_line 0 (end s)) read)
