-- The checks of a line, and faults.
use Rattle.std.specs.Prelude.{◌≡◌, ◌⊎◌, ℕ, ◌^◌, ◌&&◌, List, nat_le, min, if◌then◌else◌, Result, Ok, Err}
use Rattle.std.specs.Option.{ok_or, option_map}
use Rattle.ea_bytes.specs.Text.{number_of}
use Rattle.ea_blocks.specs.declared.fault.FaultKind.{FaultKind}
use Rattle.ea_blocks.specs.declared.fault.FaultKind.TheVariants.{BadNumber, OutOfRange, OutOfMemory}
use Rattle.ea_blocks.specs.declared.fault.InputFault.{InputFault}

-- A check, then the next one; the result is the first fault.
infixl 10 ◌>>=◌
abbrev pub ◌>>=◌ : {A B E : Type 0} → Result A E → (A → Result B E) → Result B E
(Ok x) >>= f = f x
(Err e) >>= f = Err e

-- The number in a field, if it is one. From 2 ^ 64 on, which is beyond every limit, it may be taken as 2 ^
-- 64.
unfoldable pub numeral : List ℕ → Result ℕ FaultKind
numeral field = ok_or (option_map (λ n. min n (2 ^ 64)) (number_of field)) BadNumber

-- A number, if it is in its range.
unfoldable pub within : ℕ → ℕ → ℕ → Result ℕ FaultKind
within low high n = if nat_le low n && nat_le n high then Ok n else Err OutOfRange

-- A fault of a line, as a fault of the text.
abbrev pub in_line : {X : Type 0} → ℕ → Result X FaultKind → Result X InputFault
in_line line (Ok x) = Ok x
in_line line (Err kind) = Err (record { line = line; kind = kind })

-- Memory was refused; the text may be right or wrong.
abbrev pub out_of_memory : InputFault
out_of_memory = record { line = 0; kind = OutOfMemory }

-- What a reader returned, seen by a view, is what the grammar says, unless memory was refused.
abbrev pub Gives : {X Y : Type 0} → (X → Y) → Result X InputFault → Result Y InputFault → Type 0
Gives view (Ok x) said = said ≡ Ok (view x)
Gives view (Err fault) said = (fault ≡ out_of_memory) ⊎ (said ≡ Err fault)

-- A fault of this kind in a line; refused memory has no line.
abbrev pub fault_at : ℕ → FaultKind → InputFault
fault_at line OutOfMemory = out_of_memory
fault_at line kind = record { line = line; kind = kind }
