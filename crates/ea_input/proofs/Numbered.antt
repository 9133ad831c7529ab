-- Numbers in their ranges, as the grammar has them and as the checks find them.
use Rattle.std.proofs.Common.{◌≡◌, ℕ, ◌<◌, ◌≤◌, ◌^◌, ◌&&◌, min, Bool, true, false, cond, refl, ap, ◌∙◌, arith, List, leb}
use Rattle.std.specs.Prelude.{Option, Some, None, Result, Ok, Err}
use Rattle.std.specs.Option.{ok_or, option_map}
use Rattle.std.proofs.lemmas.Bool.{leb-true, le-leb}
use Rattle.ea_bytes.specs.Text.{number_of}
use Rattle.ea_blocks.specs.Fault.{◌>>=◌, numeral, within}
use Rattle.ea_input.specs.Range.{IsNumberIn}
use Rattle.ea_blocks.specs.declared.fault.FaultKind.TheVariants.{BadNumber, OutOfRange}

-- A step that gave something, and what it was.
pub bind_ok : {A B E : Type 0} (r : Result A E) (f : A → Result B E) (y : B) → (r >>= f) ≡ Ok y → (x : A) × (r ≡ Ok x) × (f x ≡ Ok y)
bind_ok (Ok x) f y e = (x, refl, e)
bind_ok (Err k) f y e = cc

-- A test that passed.
pub guard_ok : {A E : Type 0} (b : Bool) (x y : A) (k : E) → cond b (Ok x) (Err k) ≡ Ok y → (b ≡ true) × (x ≡ y)
guard_ok true x y k e = (refl, cc)
guard_ok false x y k e = cc

pub and_ok : (a b : Bool) → (a && b) ≡ true → (a ≡ true) × (b ≡ true)
and_ok true b e = (refl, e)
and_ok false b e = cc

pub and_both : (a b : Bool) → a ≡ true → b ≡ true → (a && b) ≡ true
and_both true b p q = q
and_both false b p q = cc

capped_ok : (o : Option ℕ) (n : ℕ) → ok_or (option_map (λ m. min m (2 ^ 64)) o) BadNumber ≡ Ok n → (m : ℕ) × (o ≡ Some m) × (n ≡ min m (2 ^ 64))
capped_ok None n e = cc
capped_ok (Some m) n e = (m, refl, cc)

numeral_ok : (field : List ℕ) (n : ℕ) → numeral field ≡ Ok n → (m : ℕ) × (number_of field ≡ Some m) × (n ≡ min m (2 ^ 64))
unfolding numeral
numeral_ok field n e = capped_ok (number_of field) n e

within_ok : (low high n r : ℕ) → within low high n ≡ Ok r → (n ≡ r) × (low ≤ n) × (n ≤ high)
unfolding within
within_ok low high n r e =
    let passed = guard_ok (leb low n && leb n high) n r OutOfRange e in
    let tests = and_ok (leb low n) (leb n high) passed.0 in
    (passed.1, leb-true low n tests.0, leb-true n high tests.1)

-- What the checks take is a number in its range.
pub number_found : (low high : ℕ) (field : List ℕ) (n r : ℕ) → high < 2 ^ 64 → numeral field ≡ Ok n → within low high n ≡ Ok r → IsNumberIn low high field r
number_found low high field n r small is fits =
    let m = numeral_ok field n is in
    let w = within_ok low high n r fits in
    let same : m.0 ≡ r = omega (arith, m.2, w.0, w.2) in
    (m.1 ∙ ap (λ k. Some k) same, omega (arith, w.0, w.1), omega (arith, w.0, w.2))

-- A number in its range is what the checks take.
pub numeral_of : (low high : ℕ) (field : List ℕ) (n : ℕ) → high < 2 ^ 64 → IsNumberIn low high field n → numeral field ≡ Ok n
unfolding numeral
numeral_of low high field n small is =
    let cut : min n (2 ^ 64) ≡ n = omega (arith, is.2) in
    ap (λ o. ok_or (option_map (λ m. min m (2 ^ 64)) o) BadNumber) is.0 ∙ ap (λ k. Ok k) cut

pub within_of : (low high n : ℕ) → low ≤ n → n ≤ high → within low high n ≡ Ok n
unfolding within
within_of low high n p q = ap (λ b. cond b (Ok n) (Err OutOfRange)) (and_both (leb low n) (leb n high) (le-leb low n p) (le-leb n high q))
