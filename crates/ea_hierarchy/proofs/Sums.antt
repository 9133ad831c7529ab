-- Sums of numbers that may be none.
use Rattle.std.proofs.Common.{ℕ, ◌+◌, ◌<◌, ◌≤◌, arith, min}
use Rattle.std.proofs.lemmas.Bool.Decides.{nat_tests}
use Rattle.ea_hierarchy.specs.Numbers.{plus}
use Rattle.ea_hierarchy.specs.declared.numbers.TheConstants.{MOST, NONE}

pub plus_to_none : (a b : ℕ) → plus a b ≤ NONE
unfolding plus
plus_to_none a b = grind (arith, nat_tests)

pub plus_grows : (a b c d : ℕ) → a ≤ c → b ≤ d → plus a b ≤ plus c d
unfolding plus
plus_grows a b c d left right = grind (arith, nat_tests)

-- a sum is no less than what its first number is no less than
pub plus_first : (least a b : ℕ) → least ≤ NONE → least ≤ a → least ≤ plus a b
unfolding plus
plus_first least a b few to = grind (arith, nat_tests, few, to)

pub plus_through : (p g q d u : ℕ) → p ≤ plus g q → g ≤ plus d u → p ≤ plus d (plus u q)
unfolding plus
plus_through p g q d u whole part = grind (arith, nat_tests)

pub plus_there_and_back : (p d u : ℕ) → p ≤ NONE → p ≤ plus d (plus u p)
unfolding plus
plus_there_and_back p d u to = grind (arith, nat_tests)

pub plus_over : (u j p q r : ℕ) → plus u j ≤ p → q ≤ plus j r → plus u q ≤ plus p r
unfolding plus
plus_over u j p q r whole part = grind (arith, nat_tests)

pub plus_under : (u j p x q r : ℕ) → plus u j ≤ p → q ≤ plus j x → x ≤ plus u r → q ≤ plus p r
unfolding plus
plus_under u j p x q r whole part first = grind (arith, nat_tests)

-- a sum with a number of a walk
pub plus_finite : (low q : ℕ) → q < NONE → (plus (min low MOST) q < NONE) × (plus (min low MOST) q ≤ low + q)
unfolding plus
plus_finite low q some = (grind (arith, nat_tests), grind (arith, nat_tests))
