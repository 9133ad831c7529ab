-- Fields that are written and read again.
use Rattle.std.proofs.Common.{◌≡◌, ◌≢◌, ◌∙◌, refl, ℕ, ◌-◌, ◌^◌, ◌<◌, ◌≤◌, true, false, cond, List, [], ◌∷◌, ◌++◌, length, map, drop, arith, ap, sym, tests}
use Rattle.std.proofs.lemmas.Bool.{lt-ltb}
use Rattle.std.proofs.lemmas.List.{append-nil}
use Rattle.std.proofs.lemmas.List.Splits.{slice_split-cons_yes, slice_split-cons_no}
use Rattle.std.specs.Prelude.{filter, nat_lt, decimal}
use Rattle.std.proofs.lemmas.Fmt.{decimal_is_IsNumeral}
use Rattle.std.proofs.lemmas.Str.Parse.{numerals_by_value, tells_all_ascii_digits}
use Rattle.std.specs.List.{slice_split, onto_first, flat_map}
use Rattle.std.specs.Str.{all_ascii_digits}
use Rattle.std.specs.Char.{is_ascii_digit}
use Rattle.ea_bytes.specs.Text.{is_blank, fields_of}
use Rattle.ea_bytes.proofs.Numbers.{and_left, and_right}
use Rattle.ea_road.specs.declared.source.Source.{Source}
use Rattle.ea_road.specs.Levels.{IsCanonical, at_source, by_arc}
use Rattle.ea_road.specs.Roads.{Roads, IsNetwork}
use Rattle.ea_road.proofs.Arcs.{arc_inside}
use Rattle.ea_report.specs.Report.{spaced}
use Rattle.ea_report.specs.Walks.{arcs_text}
use Rattle.ea_check.specs.Form.{arc_found, arc_number, arc_of, arcs_of, AreArcNumbers, AreShort}
use Rattle.ea_check.proofs.BadLines.{number_written}

-- bytes that are neither a line feed nor a carriage return nor a blank
abbrev pub Clear : List ℕ → Type 0
Clear [] = Unit {0}
Clear (b ∷ bs) = (b ≢ 10) × (b ≢ 13) × (is_blank b ≡ false) × Clear bs

pub record IsField (field : List ℕ) : Type 0 where
  pub clear : Clear field
  pub some : 0 < length field

abbrev pub AreFields : List (List ℕ) → Type 0
AreFields [] = Unit {0}
AreFields (field ∷ fields) = IsField field × AreFields fields

split_word : (word rest : List ℕ) → Clear word → slice_split is_blank (word ++ 32 ∷ rest) ≡ word ∷ slice_split is_blank rest
split_word [] rest clear = slice_split-cons_yes is_blank 32 rest refl
split_word (b ∷ word) rest clear = slice_split-cons_no is_blank b (word ++ 32 ∷ rest) clear.2 ∙ ap (onto_first b) (split_word word rest clear.3)

split_last : (word : List ℕ) → Clear word → slice_split is_blank word ≡ word ∷ []
split_last [] clear = refl
split_last (b ∷ word) clear = slice_split-cons_no is_blank b word clear.2 ∙ ap (onto_first b) (split_last word clear.3)

split_all : (word : List ℕ) (fields : List (List ℕ)) → Clear word → AreFields fields → slice_split is_blank (word ++ flat_map spaced fields) ≡ word ∷ fields
split_all word [] clear are = ap (slice_split is_blank) (append-nil word) ∙ split_last word clear
split_all word (field ∷ fields) clear are =
    split_word word (field ++ flat_map spaced fields) clear ∙ ap (λ (fs : List (List ℕ)). word ∷ fs) (split_all field fields are.0.clear are.1)

all_some : (fields : List (List ℕ)) → AreFields fields → filter (λ part. nat_lt 0 (length part)) fields ≡ fields
all_some [] are = refl
all_some (field ∷ fields) are =
    ap (λ t. cond t (field ∷ filter (λ part. nat_lt 0 (length part)) fields) (filter (λ part. nat_lt 0 (length part)) fields)) (lt-ltb 0 (length field) are.0.some) ∙ ap (λ (fs : List (List ℕ)). field ∷ fs) (all_some fields are.1)

pub fields_line : (word : List ℕ) (fields : List (List ℕ)) → IsField word → AreFields fields → fields_of (word ++ flat_map spaced fields) ≡ word ∷ fields
fields_line word fields is are = ap (filter (λ part. nat_lt 0 (length part))) (split_all word fields is.clear are) ∙ all_some (word ∷ fields) (is, are)

-- digits are clear
pub digits_clear : (ds : List ℕ) → all_ascii_digits ds ≡ true → Clear ds
digits_clear [] digits = tt
digits_clear (d ∷ ds) digits = digit_clear d (digits_clear ds (and_right (is_ascii_digit d) (all_ascii_digits ds) digits)) (and_left (is_ascii_digit d) (all_ascii_digits ds) digits)
  where
    digit_clear : (d : ℕ) → Clear ds → is_ascii_digit d ≡ true → Clear (d ∷ ds)
    digit_clear d rest digit =
        let low : 48 ≤ d = grind (arith, tests) in
        let blank : is_blank d ≡ false = grind (arith, tests) in
        ((λ same. omega arith), (λ same. omega arith), blank, rest)

pub number_field : (n : ℕ) → n < 2 ^ 64 → IsField (decimal n)
number_field n small =
    let numeral = decimal_is_IsNumeral n small in
    record {
      clear = digits_clear (decimal n) ((numerals_by_value (λ ds. all_ascii_digits ds ≡ true) tells_all_ascii_digits).from (decimal n) numeral.0.1);
      some = numeral.0.0;
    }

pub arc_fields : (arcs : List ℕ) → AreShort arcs → AreFields (map decimal arcs)
arc_fields [] short = tt
arc_fields (arc ∷ arcs) short = (number_field arc (let few = short.0 in omega arith), arc_fields arcs short.1)

arc_same : (arc : ℕ) → arc < 2 ^ 32 → arc ≡ arc_number arc
arc_same arc few = ap (λ t. cond t arc 0) (sym (lt-ltb arc (2 ^ 32) few))

pub arcs_written : (arcs : List ℕ) → AreShort arcs → AreArcNumbers (map decimal arcs) arcs
arcs_written [] short = tt
arcs_written (arc ∷ arcs) short = ((arc, number_written arc (let few = short.0 in omega arith), arc_same arc short.0), arcs_written arcs short.1)

arcs_are : (fields : List (List ℕ)) (arcs : List ℕ) → AreArcNumbers fields arcs → arcs_of fields ≡ arcs
arcs_are [] [] are = refl
arcs_are [] (arc ∷ arcs) are = absurd are
arcs_are (field ∷ fields) [] are = absurd are
arcs_are (field ∷ fields) (arc ∷ arcs) are =
    ap (λ (xs : List ℕ). arc_of field ∷ xs) (arcs_are fields arcs are.1) ∙ ap (λ n. n ∷ arcs) (ap arc_found are.0.1 ∙ sym are.0.2)

-- Arcs that are written, each after a space, are read from the text again, also without the first space.
pub spaced_arcs : (arcs text : List ℕ) → AreShort arcs → text ≡ drop 1 (arcs_text arcs) → arcs_of (fields_of text) ≡ arcs
spaced_arcs [] text short same = ap (λ (t : List ℕ). arcs_of (fields_of t)) same
spaced_arcs (arc ∷ arcs) text short same =
    let fields = fields_line (decimal arc) (map decimal arcs) (arc_fields (arc ∷ arcs) short).0 (arc_fields arcs short.1) in
    ap (λ (t : List ℕ). arcs_of (fields_of t)) same ∙ ap arcs_of fields ∙ arcs_are (map decimal (arc ∷ arcs)) (arc ∷ arcs) (arcs_written (arc ∷ arcs) short)

short_more : (front : List ℕ) (number : ℕ) → AreShort front → number < 2 ^ 32 → AreShort (front ++ number ∷ [])
short_more [] number short few = (few, tt)
short_more (arc ∷ front) number short few = (short.0, short_more front number short.1 few)

-- the numbers of a canonical walk's arcs can be written
pub short_canonical : (roads : Roads) (answers : ℕ → ℕ → ℕ → ℕ → Type 0) (sources : List Source) (times : ℕ → ℕ → Type 0) {node : ℕ} {walk : List ℕ} → IsNetwork roads → IsCanonical roads answers sources times node walk → AreShort walk
short_canonical roads answers sources times network (at_source level) = tt
short_canonical roads answers sources times network (by_arc {number} {walk} front lower upper tight lowest) =
    let inside = arc_inside roads.arcs (number - 1) tight.arc tight.is_arc.found in
    let few = network.arcs_limit in
    short_more walk number (short_canonical roads answers sources times network front) (omega arith)
