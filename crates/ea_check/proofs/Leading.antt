-- A number at the front of a line.
use Rattle.std.proofs.Common.{◌≡◌, ℕ, suc, zero, ◌+◌, ◌-◌, ◌<◌, ◌≤◌, ◌^◌, true, false, cond, List, [], ◌∷◌, ◌++◌, append_assoc, length, get_or, take, drop, refl, ap, sym, ◌∙◌, subst, arith, tests}
use Rattle.std.specs.Char.{is_ascii_digit}
use Rattle.std.specs.Str.{all_ascii_digits}
use Rattle.std.specs.Str.Parse.{digits_value}
use Rattle.std.proofs.Math.ListN.{length-take}
use Rattle.std.proofs.Math.Numerals.{add-one}
use Rattle.std.proofs.Math.Seq.{take-length}
use Rattle.std.proofs.lemmas.Bool.{lt-ltb}
use Rattle.std.proofs.lemmas.List.{append-nil}
use Rattle.std.proofs.lemmas.Grind.{common_steps}
use Rattle.std.specs.Prelude.{Some}
use Rattle.ea_bytes.specs.Text.{fields_of, is_blank, number_of}
use Rattle.ea_bytes.proofs.Cutting.{field_at, field_end}
use Rattle.ea_bytes.proofs.Numbers.{and_left, and_right}
use Rattle.ea_check.specs.Form.{arc_number, arc_of, arcs_of}
use Rattle.ea_check.specs.Reads.{BeginsWithNumber}
use Rattle.ea_check.proofs.Counting.{digits_are_number}

digit_is_no_blank : (b : ℕ) → is_ascii_digit b ≡ true → is_blank b ≡ false
digit_is_no_blank b e = grind (arith, tests)

-- Among digits there is no blank.
no_blank_so_far : (bs : List ℕ) (i : ℕ) → i ≤ length bs → all_ascii_digits (take i bs) ≡ true → (k : ℕ) → k < i → is_blank (get_or bs k 0) ≡ false
no_blank_so_far [] i h e k below = refl
no_blank_so_far (b ∷ bs) zero h e k below = absurd (omega arith)
no_blank_so_far (b ∷ bs) (suc i) h e zero below = digit_is_no_blank b (and_left (is_ascii_digit b) (all_ascii_digits (take i bs)) e)
no_blank_so_far (b ∷ bs) (suc i) h e (suc k) below = no_blank_so_far bs i (omega arith) (and_right (is_ascii_digit b) (all_ascii_digits (take i bs)) e) k (omega arith)

small_is_itself : (n : ℕ) → n < 2 ^ 32 → arc_number n ≡ n
small_is_itself n small = ap (λ t. cond t n 0) (lt-ltb n (2 ^ 32) small)

pub rest_of : (text : List ℕ) (i : ℕ) → i < length text → take (length text - (i + 1)) (drop (i + 1) text) ≡ drop (suc i) text
rest_of text i inside = rw add-one (grind (arith, common_steps))

-- Digits to the first blank are the number that a line begins with.
pub begins_with_number : (text : List ℕ) (i value : ℕ) → 0 < i → i < length text → is_blank (get_or text i 0) ≡ true → all_ascii_digits (take i text) ≡ true → value ≡ digits_value 10 (take i text) → BeginsWithNumber text value (take (length text - (i + 1)) (drop (i + 1) text))
begins_with_number text i value some inside blank digits is =
    let cut = field_at text i some inside blank (no_blank_so_far text i (omega arith) digits) in
    let number = digits_are_number (take i text) (rw length-take (omega arith)) digits in
    subst (λ (rest : List ℕ). BeginsWithNumber text value rest) (sym (rest_of text i inside))
    (take i text, cut, number ∙ ap Some (sym is))

-- A line of digits alone is one number.
pub digits_alone : (text : List ℕ) (end value : ℕ) → 0 < length text → end ≡ length text → all_ascii_digits (take end text) ≡ true → value ≡ digits_value 10 (take end text) → (fields_of text ≡ text ∷ []) × (number_of text ≡ Some value)
digits_alone text end value some whole digits is =
    let all : take end text ≡ text = ap (λ n. take n text) whole ∙ take-length text in
    let each = subst (λ (t : List ℕ). all_ascii_digits t ≡ true) all digits in
    (field_end text some (λ k below. no_blank_so_far text end (omega arith) digits k (omega arith)), digits_are_number text some each ∙ ap Some (ap (digits_value 10) (sym all) ∙ sym is))

-- One more arc.
pub arcs_more : (fields after : List (List ℕ)) (field arcs pushed whole : List ℕ) (arc : ℕ) → fields ≡ field ∷ after → arc ≡ arc_of field → pushed ≡ arcs ++ arc ∷ [] → arcs ++ arcs_of fields ≡ whole → pushed ++ arcs_of after ≡ whole
arcs_more fields after field arcs pushed whole arc cut is pushes was =
    ap (λ (xs : List ℕ). xs ++ arcs_of after) pushes ∙ append_assoc arcs (arc ∷ []) (arcs_of after) ∙ ap (λ n. arcs ++ n ∷ arcs_of after) is ∙ ap (λ (fs : List (List ℕ)). arcs ++ arcs_of fs) (sym cut) ∙ was

-- No field is left.
pub arcs_end : (fields : List (List ℕ)) (arcs whole : List ℕ) → fields ≡ [] → arcs ++ arcs_of fields ≡ whole → arcs ≡ whole
arcs_end fields arcs whole none was =
    sym (append-nil arcs) ∙ ap (λ (fs : List (List ℕ)). arcs ++ arcs_of fs) (sym none) ∙ was
