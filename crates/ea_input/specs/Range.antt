-- Numbers in their ranges.
use Rattle.std.specs.Prelude.{◌≡◌, ℕ, ◌≤◌, List, Some}
use Rattle.ea_bytes.specs.Text.{number_of}

-- A field is this number, and the number is in its range.
abbrev pub IsNumberIn : ℕ → ℕ → List ℕ → ℕ → Type 0
IsNumberIn low high field n = (number_of field ≡ Some n) × (low ≤ n) × (n ≤ high)
