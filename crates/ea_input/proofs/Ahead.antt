-- A line of numbers at the front of a text.
use Rattle.std.proofs.Common.{◌≡◌, ℕ, suc, zero, ◌-◌, ◌<◌, true, false, cond, List, [], ◌∷◌, ◌++◌, length, get_or, take, drop, refl, ap, sym, ◌∙◌, arith, tests, subst, append_assoc, length-append}
use Rattle.std.specs.Prelude.{Option, Some, None, IfSome, codes, filter, ◌==◌, nat_lt}
use Rattle.std.specs.Borrow.{Bor}
use Rattle.std.specs.Char.{is_ascii_digit}
use Rattle.std.specs.List.{slice_split, onto_first}
use Rattle.std.specs.Str.{all_ascii_digits, bytes_eq}
use Rattle.ea_input.proofs.Said.{same_word}
use Rattle.std.specs.Str.Lines.{strip_carriage_return}
use Rattle.std.proofs.lemmas.List.Splits.{slice_split-cons_yes, slice_split-cons_no}
use Rattle.std.proofs.lemmas.Bool.{lt-ltb}
use Rattle.ea_bytes.specs.Text.{lines_of, fields_of, is_blank, number_of}
use Rattle.ea_input.specs.Ahead.{ArcThen, NumberThen, PairThen, TwoThen}
use Rattle.ea_bytes.proofs.Numbers.{and_left, and_right}

digit_no_blank : (b : ℕ) → is_ascii_digit b ≡ true → is_blank b ≡ false
digit_no_blank b e = grind (arith, tests)

digit_no_feed : (b : ℕ) → is_ascii_digit b ≡ true → (b == 10) ≡ false
digit_no_feed b e = grind (arith, tests)

digit_no_return : (b : ℕ) → is_ascii_digit b ≡ true → (b == 13) ≡ false
digit_no_return b e = grind (arith, tests)

-- Bytes without a line feed or a carriage return.
abbrev Plain : List ℕ → Type 0
Plain [] = Unit {0}
Plain (b ∷ bs) = ((b == 10) ≡ false) × ((b == 13) ≡ false) × Plain bs

plain_digits : (bs : List ℕ) → all_ascii_digits bs ≡ true → Plain bs
plain_digits [] e = tt
plain_digits (b ∷ bs) e =
    let here = and_left (is_ascii_digit b) (all_ascii_digits bs) e in
    (digit_no_feed b here, digit_no_return b here, plain_digits bs (and_right (is_ascii_digit b) (all_ascii_digits bs) e))

plain_append : (a b : List ℕ) → Plain a → Plain b → Plain (a ++ b)
plain_append [] b p q = q
plain_append (x ∷ a) b p q = (p.0, p.1, plain_append a b p.2 q)

line_cut : (line rest : List ℕ) → Plain line → lines_of (line ++ 10 ∷ rest) ≡ line ∷ lines_of rest
line_cut [] rest p = refl
line_cut (b ∷ bs) rest p = ap (λ t. cond t ([] ∷ lines_of (bs ++ 10 ∷ rest)) (onto_first b (lines_of (bs ++ 10 ∷ rest)))) p.0 ∙ ap (onto_first b) (line_cut bs rest p.2)

no_return_at : (bs : List ℕ) (i : ℕ) → Plain bs → i < length bs → (get_or bs i 0 == 13) ≡ false
no_return_at [] i p h = absurd (omega arith)
no_return_at (b ∷ bs) zero p h = p.1
no_return_at (b ∷ bs) (suc i) p h = no_return_at bs i p.2 (omega arith)

nothing_stripped : (bs : List ℕ) → Plain bs → 0 < length bs → strip_carriage_return bs ≡ bs
nothing_stripped bs p some = ap (λ t. cond t (take (length bs - 1) bs) bs) (no_return_at bs (length bs - 1) p (omega arith))

field_cut : (field rest : List ℕ) → all_ascii_digits field ≡ true → slice_split is_blank (field ++ 32 ∷ rest) ≡ field ∷ slice_split is_blank rest
field_cut [] rest e = slice_split-cons_yes is_blank 32 rest refl
field_cut (b ∷ bs) rest e =
    slice_split-cons_no is_blank b (bs ++ 32 ∷ rest) (digit_no_blank b (and_left (is_ascii_digit b) (all_ascii_digits bs) e))
    ∙ ap (onto_first b) (field_cut bs rest (and_right (is_ascii_digit b) (all_ascii_digits bs) e))

last_field : (field : List ℕ) → all_ascii_digits field ≡ true → slice_split is_blank field ≡ field ∷ []
last_field [] e = refl
last_field (b ∷ bs) e =
    slice_split-cons_no is_blank b bs (digit_no_blank b (and_left (is_ascii_digit b) (all_ascii_digits bs) e))
    ∙ ap (onto_first b) (last_field bs (and_right (is_ascii_digit b) (all_ascii_digits bs) e))

some_field : (field : List ℕ) (n : ℕ) → number_of field ≡ Some n → nat_lt 0 (length field) ≡ true
some_field [] n e = cc
some_field (b ∷ bs) n e = lt-ltb 0 (length (b ∷ bs)) (omega arith)

kept : (field : List ℕ) (others : List (List ℕ)) (n : ℕ) → number_of field ≡ Some n → filter (λ part. nat_lt 0 (length part)) (field ∷ others) ≡ field ∷ filter (λ part. nat_lt 0 (length part)) others
kept field others n e = ap (λ t. cond t (field ∷ filter (λ part. nat_lt 0 (length part)) others) (filter (λ part. nat_lt 0 (length part)) others)) (some_field field n e)

arc_fields : (u v w : List ℕ) (tail head weight : ℕ) → all_ascii_digits u ≡ true → all_ascii_digits v ≡ true → all_ascii_digits w ≡ true → number_of u ≡ Some tail → number_of v ≡ Some head → number_of w ≡ Some weight
    → fields_of (97 ∷ 32 ∷ (u ++ 32 ∷ (v ++ 32 ∷ w))) ≡ codes "a" ∷ u ∷ v ∷ w ∷ []
arc_fields u v w tail head weight p q r x y z =
    let cut : slice_split is_blank (u ++ 32 ∷ (v ++ 32 ∷ w)) ≡ u ∷ v ∷ w ∷ [] = field_cut u (v ++ 32 ∷ w) p ∙ ap (λ ls. u ∷ ls) (field_cut v w q ∙ ap (λ ls. v ∷ ls) (last_field w r)) in
    let all : slice_split is_blank (97 ∷ 32 ∷ (u ++ 32 ∷ (v ++ 32 ∷ w))) ≡ (97 ∷ []) ∷ u ∷ v ∷ w ∷ [] = ap (λ ls. (97 ∷ []) ∷ ls) cut in
    ap (filter (λ part. nat_lt 0 (length part))) all
    ∙ ap (λ ls. (97 ∷ []) ∷ ls) (kept u (v ∷ w ∷ []) tail x ∙ ap (λ ls. u ∷ ls) (kept v (w ∷ []) head y ∙ ap (λ ls. v ∷ ls) (kept w [] weight z)))

-- An `a`, a blank, and three numbers to a line feed are a line of an arc.
pub arc_then : (text rest0 rest1 rest2 rest : List ℕ) (tail head weight : ℕ) → text ≡ 97 ∷ 32 ∷ rest0 → NumberThen rest0 32 tail rest1 → NumberThen rest1 32 head rest2 → NumberThen rest2 10 weight rest → ArcThen text tail head weight rest
arc_then text rest0 rest1 rest2 rest tail head weight start first second third =
    let u = first.0 in
    let v = second.0 in
    let w = third.0 in
    let line : List ℕ = 97 ∷ 32 ∷ (u ++ 32 ∷ (v ++ 32 ∷ w)) in
    let tails : rest1 ≡ (v ++ 32 ∷ w) ++ 10 ∷ rest = second.1 ∙ ap (λ r. v ++ 32 ∷ r) third.1 ∙ sym (append_assoc v (32 ∷ w) (10 ∷ rest)) in
    let all : rest0 ≡ (u ++ 32 ∷ (v ++ 32 ∷ w)) ++ 10 ∷ rest = first.1 ∙ ap (λ r. u ++ 32 ∷ r) tails ∙ sym (append_assoc u (32 ∷ (v ++ 32 ∷ w)) (10 ∷ rest)) in
    let whole : text ≡ line ++ 10 ∷ rest = start ∙ ap (λ r. 97 ∷ 32 ∷ r) all in
    let others : Plain (u ++ 32 ∷ (v ++ 32 ∷ w)) = plain_append u (32 ∷ (v ++ 32 ∷ w)) (plain_digits u first.2) (refl, refl, plain_append v (32 ∷ w) (plain_digits v second.2) (refl, refl, plain_digits w third.2)) in
    let plain : Plain line = (refl, refl, (refl, refl, others)) in
    record {
      line = line;
      tail_field = u;
      head_field = v;
      weight_field = w;
      cut = ap lines_of whole ∙ line_cut line rest plain;
      shorter = omega (arith, ap length whole, length-append line (10 ∷ rest));
      fields = ap fields_of (nothing_stripped line plain (omega arith)) ∙ arc_fields u v w tail head weight first.2 second.2 third.2 first.3 second.3 third.3;
      tail_is = (first.3, first.4);
      head_is = (second.3, second.4);
      weight_is = (third.3, third.4);
    }

pair_fields : (byte : ℕ) (u v : List ℕ) (first second : ℕ) → is_blank byte ≡ false → all_ascii_digits u ≡ true → all_ascii_digits v ≡ true → number_of u ≡ Some first → number_of v ≡ Some second → fields_of (byte ∷ 32 ∷ (u ++ 32 ∷ v)) ≡ (byte ∷ []) ∷ u ∷ v ∷ []
pair_fields byte u v first second letter p q x y =
    let cut : slice_split is_blank (u ++ 32 ∷ v) ≡ u ∷ v ∷ [] = field_cut u v p ∙ ap (λ ls. u ∷ ls) (last_field v q) in
    let behind : slice_split is_blank (32 ∷ (u ++ 32 ∷ v)) ≡ [] ∷ slice_split is_blank (u ++ 32 ∷ v) = slice_split-cons_yes is_blank 32 (u ++ 32 ∷ v) refl in
    let all : slice_split is_blank (byte ∷ 32 ∷ (u ++ 32 ∷ v)) ≡ (byte ∷ []) ∷ u ∷ v ∷ [] =
    slice_split-cons_no is_blank byte (32 ∷ (u ++ 32 ∷ v)) letter ∙ ap (onto_first byte) (behind ∙ ap (λ ls. [] ∷ ls) cut) in
    ap (filter (λ part. nat_lt 0 (length part))) all ∙ ap (λ ls. (byte ∷ []) ∷ ls) (kept u (v ∷ []) first x ∙ ap (λ ls. u ∷ ls) (kept v [] second y))

-- A byte, a blank, and two numbers to a line feed are a line of a word and two numbers.
pub pair_then : (byte : ℕ) (text behind rest : List ℕ) (one two : ℕ) → is_blank byte ≡ false → (byte == 10) ≡ false → (byte == 13) ≡ false → text ≡ byte ∷ 32 ∷ behind → TwoThen behind one two rest → PairThen (byte ∷ []) text one two rest
pair_then byte text behind rest one two letter no_feed no_return start both =
    let first = both.1 in
    let second = both.2 in
    let u = first.0 in
    let v = second.0 in
    let line : List ℕ = byte ∷ 32 ∷ (u ++ 32 ∷ v) in
    let all : behind ≡ (u ++ 32 ∷ v) ++ 10 ∷ rest = first.1 ∙ ap (λ r. u ++ 32 ∷ r) second.1 ∙ sym (append_assoc u (32 ∷ v) (10 ∷ rest)) in
    let whole : text ≡ line ++ 10 ∷ rest = start ∙ ap (λ r. byte ∷ 32 ∷ r) all in
    let others : Plain (u ++ 32 ∷ v) = plain_append u (32 ∷ v) (plain_digits u first.2) (refl, refl, plain_digits v second.2) in
    let plain : Plain line = (no_feed, no_return, (refl, refl, others)) in
    record {
      line = line;
      first_field = u;
      second_field = v;
      cut = ap lines_of whole ∙ line_cut line rest plain;
      shorter = omega (arith, ap length whole, length-append line (10 ∷ rest));
      fields = ap fields_of (nothing_stripped line plain (omega arith)) ∙ pair_fields byte u v one two letter first.2 second.2 first.3 second.3;
      first_is = (first.3, first.4);
      second_is = (second.3, second.4);
    }

-- The same of what may have been found.
pub pairs_then : (byte : ℕ) (text behind : List ℕ) (found : Option ((ℕ × ℕ) × Bor (List ℕ))) → is_blank byte ≡ false → (byte == 10) ≡ false → (byte == 13) ≡ false → text ≡ byte ∷ 32 ∷ behind
    → IfSome found (λ x. TwoThen behind x.0.0 x.0.1 x.1.now) → IfSome found (λ x. PairThen (byte ∷ []) text x.0.0 x.0.1 x.1.now)
pairs_then byte text behind None letter no_feed no_return start both = tt
pairs_then byte text behind (Some x) letter no_feed no_return start both = pair_then byte text behind x.1.now x.0.0 x.0.1 letter no_feed no_return start both

starts : (byte : ℕ) (text rest : List ℕ) → bytes_eq (take 2 text) (byte ∷ 32 ∷ []) ≡ true → rest ≡ drop 2 text → text ≡ byte ∷ 32 ∷ rest
starts byte [] rest e r = let front = same_word [] (byte ∷ 32 ∷ []) e in cc
starts byte (a ∷ []) rest e r = let front = same_word (a ∷ []) (byte ∷ 32 ∷ []) e in cc
starts byte (a ∷ b ∷ xs) rest e r = let front = same_word (a ∷ b ∷ []) (byte ∷ 32 ∷ []) e in cc (front, r)

-- A text that begins with a letter and a blank.
pub starts_by : (byte : ℕ) (text rest prefix : List ℕ) → prefix ≡ byte ∷ 32 ∷ [] → bytes_eq (take (length prefix) text) prefix ≡ true → rest ≡ drop (length prefix) text → text ≡ byte ∷ 32 ∷ rest
starts_by byte text rest prefix is e r =
    starts byte text rest (subst (λ (p : List ℕ). bytes_eq (take (length p) text) p ≡ true) is e) (subst (λ (p : List ℕ). rest ≡ drop (length p) text) is r)
