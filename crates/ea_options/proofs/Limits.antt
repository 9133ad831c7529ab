-- Numbers that are capped above every limit.
use Rattle.std.proofs.Common.{◌≡◌, ℕ, ◌<◌, ◌^◌, min, refl, arith}
use Rattle.std.specs.Prelude.{Option, Some, None, option_and_then, option_map}
use Rattle.std.proofs.lemmas.Bool.Decides.{nat_tests}
use Rattle.ea_options.specs.Values.{within_limits}

within_cut : (low high n : ℕ) → high < 2 ^ 64 → within_limits low high (min n (2 ^ 64)) ≡ within_limits low high n
within_cut low high n h = grind (arith, nat_tests)

pub capped : (o : Option ℕ) (low high : ℕ) → high < 2 ^ 64 → option_and_then (within_limits low high) (option_map (λ n. min n (2 ^ 64)) o) ≡ option_and_then (within_limits low high) o
capped None low high h = refl
capped (Some n) low high h = within_cut low high n h
