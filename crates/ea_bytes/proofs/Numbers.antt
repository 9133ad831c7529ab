-- Numbers, digit by digit.
use Rattle.std.proofs.Common.{◌≡◌, ℕ, suc, zero, ◌+◌, ◌<◌, ◌≤◌, ◌*◌, ◌-◌, min, Bool, true, false, cond, List, [], ◌∷◌, length, get_or, take, refl, ap, arith, tests, ◌&&◌}
use Rattle.std.specs.Str.{all_ascii_digits}
use Rattle.std.specs.Char.{is_ascii_digit, digit_value}
use Rattle.std.specs.Str.Parse.{digits_value}
use Rattle.std.specs.Prelude.{Some, None, nat_lt}
use Rattle.std.specs.Option.{option_map}
use Rattle.std.proofs.lemmas.Int.Digits.{digits_value_more}
use Rattle.ea_bytes.specs.Text.{number_of}

and_true : (a b : Bool) → a ≡ true → b ≡ true → (a && b) ≡ true
and_true true b p q = q
and_true false b p q = cc

and_false : (a b : Bool) → b ≡ false → (a && b) ≡ false
and_false true b q = q
and_false false b q = refl

pub and_left : (a b : Bool) → (a && b) ≡ true → a ≡ true
and_left true b p = refl
and_left false b p = p

pub and_right : (a b : Bool) → (a && b) ≡ true → b ≡ true
and_right true b p = p
and_right false b p = cc

pub digits_so_far : (bs : List ℕ) (i : ℕ) → i < length bs → all_ascii_digits (take i bs) ≡ true → is_ascii_digit (get_or bs i 0) ≡ true → all_ascii_digits (take (suc i) bs) ≡ true
digits_so_far [] i h p q = absurd (omega arith)
digits_so_far (b ∷ bs) zero h p q = and_true (is_ascii_digit b) true q refl
digits_so_far (b ∷ bs) (suc i) h p q =
    and_true (is_ascii_digit b) _ (and_left _ _ p) (digits_so_far bs i (omega arith) (and_right (is_ascii_digit b) _ p) q)

pub not_all_digits : (bs : List ℕ) (i : ℕ) → i < length bs → is_ascii_digit (get_or bs i 0) ≡ false → all_ascii_digits bs ≡ false
not_all_digits [] i h e = absurd (omega arith)
not_all_digits (b ∷ bs) zero h e = ap (λ t. t && all_ascii_digits bs) e
not_all_digits (b ∷ bs) (suc i) h e = and_false (is_ascii_digit b) _ (not_all_digits bs i (omega arith) e)

digit_is : (b : ℕ) → 48 ≤ b → b ≤ 57 → digit_value b ≡ b - 48
digit_is b low high = grind (arith, tests)

cut_off : (v old digit limit : ℕ) → v ≡ min old limit → min (v * 10 + digit) limit ≡ min (old * 10 + digit) limit
cut_off v old digit limit e = rw e (omega arith)

-- One more digit of a number that is capped at a limit.
pub value_more : (bs : List ℕ) (i v d limit : ℕ) → i < length bs → 48 ≤ get_or bs i 0 → get_or bs i 0 ≤ 57 → d ≡ get_or bs i 0 - 48 → v ≡ min (digits_value 10 (take i bs)) limit → min (v * 10 + d) limit ≡ min (digits_value 10 (take (i + 1) bs)) limit
value_more bs i v d limit h low high e inv =
    let more = digits_value_more 10 bs i h in
    let digit = digit_is (get_or bs i 0) low high in
    rw (more, digit, ← e) (cut_off v (digits_value 10 (take i bs)) d limit inv)

-- A field with another byte is no number.
pub no_number : (field : List ℕ) (limit : ℕ) → all_ascii_digits field ≡ false → option_map (λ n. min n limit) (number_of field) ≡ None
no_number field limit e = ap (λ t. option_map (λ n. min n limit) (cond t (Some (digits_value 10 field)) None)) (and_false (nat_lt 0 (length field)) _ e)

-- One more digit of a number.
pub value_more_exactly : (bs : List ℕ) (i v d : ℕ) → i < length bs → 48 ≤ get_or bs i 0 → get_or bs i 0 ≤ 57 → d ≡ get_or bs i 0 - 48 → v ≡ digits_value 10 (take i bs) → v * 10 + d ≡ digits_value 10 (take (i + 1) bs)
value_more_exactly bs i v d h low high e inv =
    let more = digits_value_more 10 bs i h in
    let digit = digit_is (get_or bs i 0) low high in
    rw (more, digit, ← e, inv) refl
