-- Digits at the front of a text.
use Rattle.std.proofs.Common.{◌≡◌, ℕ, ◌+◌, ◌-◌, ◌*◌, ◌%◌, ◌<◌, ◌≤◌, ◌^◌, Bool, true, false, cond, List, [], ◌∷◌, ◌++◌, length, get_or, take, drop, arith, refl, ap, sym, ◌∙◌, subst, add-one, length-drop, length-take, take_all}
use Rattle.std.specs.Prelude.{slice_range, Some}
use Rattle.std.specs.Char.{is_ascii_digit}
use Rattle.std.specs.Float.Numeral.{digits_len}
use Rattle.std.specs.Str.{all_ascii_digits}
use Rattle.std.specs.Str.Parse.{digits_value}
use Rattle.std.proofs.Math.Nat.{pow-le-pow_right}
use Rattle.std.proofs.Math.Numerals.{one-add}
use Rattle.std.proofs.Math.Seq.{drop-cons}
use Rattle.std.proofs.lemmas.Bool.{lt-ltb}
use Rattle.std.proofs.lemmas.List.{length-take-le, take-append-drop, take-take as take-take-le}
use Rattle.std.proofs.lemmas.Str.Parse.{digits_value_short, numerals_by_value, tells_all_ascii_digits}
use Rattle.ea_bytes.specs.Text.{number_of}
use Rattle.ea_input.specs.Ahead.{AreLeading, NumberThen}
use Rattle.core.proofs.dec2flt.DigitsLemmas.{digits_len_short}

front_digits : (bs : List ℕ) → all_ascii_digits (take (digits_len bs) bs) ≡ true
front_digits [] = refl
front_digits (b ∷ bs) = by_test (is_ascii_digit b) refl (front_digits bs)
  where
    by_test : (is : Bool) → is_ascii_digit b ≡ is → all_ascii_digits (take (digits_len bs) bs) ≡ true → all_ascii_digits (take (cond is (1 + digits_len bs) 0) (b ∷ bs)) ≡ true
    by_test true e rest = rw one-add (rw e rest)
    by_test false e rest = refl

-- A number of few digits is small.
few_digits : (field : List ℕ) (count : ℕ) → all_ascii_digits field ≡ true → length field ≤ count → count < 19 → digits_value 10 field < 1000000000000000001
few_digits field count digits few below =
    let small = digits_value_short (numerals_by_value (λ ds. all_ascii_digits ds ≡ true) tells_all_ascii_digits) field count digits few in
    let fits : count ≤ 18 = omega (arith, below) in
    let some : 0 < 10 = omega arith in
    let most : 10 ^ count ≤ 10 ^ 18 = pow-le-pow_right some fits in
    omega (arith, small, most)

a_number : (field : List ℕ) → all_ascii_digits field ≡ true → 0 < length field → number_of field ≡ Some (digits_value 10 field)
a_number field digits some = rw (lt-ltb 0 (length field) some, digits) refl

-- What is read from the front of a text on.
pub leading : (text : List ℕ) (end value : ℕ) → end ≡ 0 + digits_len (drop 0 text) → end ≤ length text → value ≡ (0 * 10 ^ (end - 0) + digits_value 10 (slice_range text 0 end)) % 2 ^ 64
    → AreLeading text end value
leading text end value ends within is =
    let none : end - 0 ≡ end = omega arith in
    let range : digits_value 10 (slice_range text 0 end) ≡ digits_value 10 (take end text) = ap (λ n. digits_value 10 (take n text)) none in
    record { ends = omega (arith, ends); within = within; value_is = omega (arith, is, range) }

-- Digits that end within the first bytes of a text end there in the whole text.
pub leading_short : (text : List ℕ) (count end value : ℕ) → AreLeading (take count text) end value → end < count → AreLeading text end value
leading_short text count end value read few =
    let shorter : digits_len (take count text) < count = omega (arith, read.ends, few) in
    let same = digits_len_short text count shorter in
    let front : take end (take count text) ≡ take end text = take-take-le end count text (omega arith) in
    record {
      ends = omega (arith, read.ends, same);
      within = omega (arith, read.within, length-take count text);
      value_is = read.value_is ∙ ap (λ field. digits_value 10 field % 2 ^ 64) front;
    }

-- The digits at the front of a text, which end in a byte, are a number.
pub number_read : (text : List ℕ) (stop end value : ℕ) → AreLeading text end value → 0 < end → end < 19 → end < length text → get_or text end 0 ≡ stop → NumberThen text stop value (take (length text - (end + 1)) (drop (end + 1) text))
number_read text stop end value read some few inside stops =
    let same : digits_len text ≡ end = omega (arith, read.ends) in
    let field = take end text in
    let digits : all_ascii_digits field ≡ true = subst (λ n. all_ascii_digits (take n text) ≡ true) same (front_digits text) in
    let long : length field ≡ end = length-take-le end text (omega arith) in
    let small = few_digits field end digits (omega (arith, long)) few in
    let value_is : digits_value 10 field ≡ value = omega (arith, read.value_is, small) in
    let rest : take (length text - (end + 1)) (drop (end + 1) text) ≡ drop (end + 1) text = take_all _ _ (omega (arith, length-drop (end + 1) text)) in
    let back : drop end text ≡ stop ∷ drop (end + 1) text = drop-cons text end 0 inside ∙ rw (add-one, stops) refl in
    (field, sym (take-append-drop end text) ∙ ap (λ back. field ++ back) (rw rest back), digits, a_number field digits (omega (arith, long, some)) ∙ ap (λ n. Some n) value_is, omega (arith, small, value_is))
