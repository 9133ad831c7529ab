-- Least travel times and their sums, in 32 bits.
use Rattle.std.specs.Prelude.{ℕ, ◌+◌, min, nat_lt, if◌then◌else◌}
use Rattle.ea_hierarchy.specs.declared.numbers.TheConstants.{MOST, NONE}

-- The sum of two numbers, at most MOST; none if one of them is none.
unfoldable pub plus : ℕ → ℕ → ℕ
plus first second = if nat_lt first NONE then (if nat_lt second NONE then min (first + second) MOST else NONE) else NONE
