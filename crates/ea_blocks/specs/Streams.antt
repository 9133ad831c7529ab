-- Texts of devices, read line by line as their bytes come.
use Rattle.std.specs.Prelude.{◌≡◌, ◌⊎◌, ◌≤◌, ◌<◌, ℕ, List, ◌++◌, length, ◌+◌, Bool, false, true, Option, Some, None, IfSome, IfOk, IfErr, OnOk, Result, Ok, Err}
use Rattle.std.specs.Io.KnownBytes.{IsAtEnd}
use Rattle.ea_bytes.specs.Device.{Seen, BearsOn}
use Rattle.ea_blocks.specs.Outcome.{FaultCounts}
use Rattle.ea_bytes.specs.Text.{lines_of, field_lines}
use Rattle.ea_blocks.specs.Taking.{GoesOnTaking, HasRoom, IsTakenBy, StopsTaking}
use Rattle.ea_blocks.specs.declared.blocks.Blocks.{Blocks}
use Rattle.ea_blocks.specs.declared.blocks.ReadFault.{ReadFault}
use Rattle.ea_blocks.specs.declared.blocks.ReadFault.TheVariants.{TooLarge}
use Rattle.ea_blocks.specs.Fault.{Gives, out_of_memory}
use Rattle.ea_blocks.specs.Reading.{lines_after, text_after}
use Rattle.ea_blocks.specs.declared.fault.FaultKind.{FaultKind}
use Rattle.ea_blocks.specs.declared.fault.InputFault.{InputFault}
use Rattle.ea_blocks.specs.declared.stream.StreamFault.{StreamFault}
use Rattle.ea_blocks.specs.declared.stream.StreamFault.TheVariants.{Read, Input}

-- WHAT A DEVICE'S TEXT IS READ TO

-- A text is all bytes that a device had, no more than a limit, and the device did not give up.
pub record IsWhole (limit : ℕ) (old new : Seen) (text : List ℕ) : Type 0 where
  pub all : IfSome old.bytes (λ had. text ≡ had)
  pub few : length text ≤ limit
  pub borne : BearsOn old new

-- A device's text denotes this.
abbrev pub DenotesWhole : {X : Type 0} → (List (List (List ℕ)) → X → Type 0) → ℕ → Seen → Seen → X → Type 0
DenotesWhole Denotes limit old new x = (text : List ℕ) × IsWhole limit old new text × Denotes (field_lines text) x

-- HOW A READER GOES, BLOCK BY BLOCK

-- What follows a text begins with a new line.
abbrev pub EndsLine : List ℕ → Type 0
EndsLine text = (more : List ℕ) → lines_of (text ++ more) ≡ lines_of text ++ lines_of more

-- A text was read up to this state, over this many lines, or to this fault.
abbrev pub HasFed : {S : Type 0} → (S → List (List ℕ) → Result S FaultKind) → S → List ℕ → S → ℕ → Option InputFault → Type 0
HasFed step start text state lines None = (lines_after step 0 start (field_lines text) ≡ Ok state) × (lines ≡ length (field_lines text))
HasFed step start text state lines (Some fault) = (fault ≡ out_of_memory) ⊎ (lines_after step 0 start (field_lines text) ≡ Err fault)

-- What a reader was given: the lines of a text after those before it.
pub record FeedsOn {S : Type 0} (step : S → List (List ℕ) → Result S FaultKind) (old : S) (old_lines : ℕ) (old_fault : Option InputFault)
    (new : S) (new_lines : ℕ) (new_fault : Option InputFault) (text : List ℕ) : Type 0 where
  pub fed : (start : S) (before : List ℕ) → EndsLine before → HasFed step start before old old_lines old_fault → HasFed step start (before ++ text) new new_lines new_fault
  pub lines : new_lines ≤ old_lines + length text

-- A block was filled up to at least this many bytes, or to the end of the device.
pub record IsFilled (size : ℕ) (old : Seen) (blocks : Blocks) (new : Seen) (after : Blocks) (block grown : List ℕ) (result : Result Bool ReadFault) : Type 0 where
  pub room : HasRoom after
  pub more : IfOk result (λ _. GoesOnTaking old blocks new after block grown)
  pub left : OnOk result (length grown + after.left ≡ length block + blocks.left)
  pub full : IfOk result (λ ended. ended ≡ false → size ≤ length grown)
  pub end : IfOk result (λ ended. ended ≡ true → IsAtEnd new.bytes)
  pub fault : IfErr result (StopsTaking old blocks new)

-- A device is read up to here: a reader was given the lines of these bytes, and what follows them is at hand.
abbrev pub IsReadUpTo : {S : Type 0} → (S → List (List ℕ) → Result S FaultKind) → S → ℕ → Seen → Seen → S → ℕ → Option InputFault → Blocks → List ℕ → Type 0
IsReadUpTo step start limit first now state lines fault blocks block =
    (before : List ℕ) × EndsLine before × HasFed step start before state lines fault × (lines ≤ length before) × IsTakenBy blocks limit first now (before ++ block)

-- The result if the lines so far are all.
abbrev pub Finishes : {S X Y : Type 0} → (S → List (List ℕ) → Result S FaultKind) → (S → Result Y FaultKind) → (X → Y) → S → ℕ → Option InputFault → Result X InputFault → Type 0
Finishes {S} step end view state lines fault result =
    (start : S) (text : List ℕ) → HasFed step start text state lines fault → Gives view result (text_after step end start (field_lines text))

-- The result of reading a device's text, by the checks in order.
abbrev pub GivesWhole : {X Y : Type 0} → (X → Y) → (List (List (List ℕ)) → Result Y InputFault) → ℕ → Seen → Seen → Result X StreamFault → Type 0
GivesWhole view read limit old new (Ok x) = (text : List ℕ) × IsWhole limit old new text × (read (field_lines text) ≡ Ok (view x))
GivesWhole view read limit old new (Err (Read fault)) = FaultCounts fault old new × (fault ≡ TooLarge → IfSome old.bytes (λ had. limit < length had))
GivesWhole view read limit old new (Err (Input fault)) = (text : List ℕ) × IsWhole limit old new text × ((fault ≡ out_of_memory) ⊎ (read (field_lines text) ≡ Err fault))
