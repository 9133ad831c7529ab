-- Counting fields by their first bytes, and fields that are numbers.
use Rattle.std.proofs.Common.{◌≡◌, ◌∙◌, refl, ℕ, ◌+◌, ◌<◌, ◌≤◌, Bool, true, false, not, cond, ◌||◌, ◌&&◌, List, [], ◌∷◌, ◌++◌, length, drop, get_or, add-one, arith, ap, sym, subst, ◌==◌, eqb-true}
use Rattle.std.proofs.Math.Seq.{drop-cons}
use mir.Val.{bool_byte}
use Rattle.std.proofs.Math.Bool.{or_assoc}
use Rattle.std.proofs.lemmas.Bool.{false≢true, lt-ltb}
use Rattle.std.proofs.lemmas.List.Splits.{slice_split-cons_yes, slice_split-cons_no}
use Rattle.std.specs.Prelude.{Some, None, filter, nat_lt}
use Rattle.std.specs.List.{slice_split, onto_first}
use Rattle.std.specs.Char.{is_ascii_digit}
use Rattle.std.specs.Str.{all_ascii_digits}
use Rattle.std.specs.Str.Parse.{digits_value}
use Rattle.ea_bytes.specs.Text.{is_blank, fields_of, number_of}
use Rattle.ea_bytes.proofs.Numbers.{and_left, and_right}
use Rattle.ea_check.specs.Counted.{ends_blank, has_other, starts}
use Rattle.ea_check.specs.Form.{arc_found, arcs_of, AreArcNumbers}

-- a piece and what is behind it
starts_split : (blank : Bool) (xs ys : List ℕ) → starts blank (xs ++ ys) ≡ starts blank xs + starts (ends_blank blank xs) ys
starts_split blank [] ys = omega arith
starts_split blank (x ∷ xs) ys = omega (arith, starts_split (is_blank x) xs ys)

other_split : (xs ys : List ℕ) → has_other (xs ++ ys) ≡ (has_other xs || has_other ys)
other_split [] ys = refl
other_split (x ∷ xs) ys =
    ap (λ t. not (is_ascii_digit x || is_blank x) || t) (other_split xs ys) ∙ sym (or_assoc (not (is_ascii_digit x || is_blank x)) (has_other xs) (has_other ys))

pub starts_few : (blank : Bool) (bs : List ℕ) → starts blank bs ≤ length bs
starts_few blank [] = omega arith
starts_few blank (b ∷ bs) = at_most (blank && not (is_blank b)) (starts_few (is_blank b) bs)
  where
    at_most : (t : Bool) → starts (is_blank b) bs ≤ length bs → cond t 1 0 + starts (is_blank b) bs ≤ length (b ∷ bs)
    at_most true few = omega arith
    at_most false few = omega arith

module _ (rest piece after : List ℕ) (cut : rest ≡ piece ++ after) where
  pub more_starts : (count found whole : ℕ) (blank last : Bool) → found ≡ starts blank piece → last ≡ ends_blank blank piece → count + starts blank rest ≡ whole → count + found + starts last after ≡ whole
  more_starts count found whole blank last here ends was =
      let parts = ap (starts blank) cut ∙ starts_split blank piece after in
      let behind : starts last after ≡ starts (ends_blank blank piece) after = ap (λ t. starts t after) ends in
      omega arith

  pub more_other : (other found whole : Bool) → found ≡ has_other piece → (other || has_other rest) ≡ whole → (other || found || has_other after) ≡ whole
  more_other other found whole here was =
      or_assoc other found (has_other after) ∙ ap (λ t. other || (t || has_other after)) here ∙ ap (λ t. other || t) (sym (ap has_other cut ∙ other_split piece after)) ∙ was

-- one byte of a piece
begins_by : (t : Bool) → bool_byte t ≡ cond t 1 0 + 0
begins_by true = omega arith
begins_by false = omega arith

pub or_none : (t : Bool) → t ≡ (t || false)
or_none true = refl
or_none false = refl

pub next_byte : (piece : List ℕ) (place : ℕ) → place < length piece → drop place piece ≡ get_or piece place 0 ∷ drop (place + 1) piece
next_byte piece place inside = rw (add-one, drop-cons piece place 0 inside) refl

pub begins_here : (blank gap : Bool) (b found : ℕ) → gap ≡ is_blank b → found ≡ bool_byte (blank && not gap) → found ≡ starts blank (b ∷ [])
begins_here blank gap b found same is =
    is ∙ begins_by (blank && not gap) ∙ ap (λ t. cond (blank && not t) 1 0 + 0) same

pub other_here : (digit gap : Bool) (b : ℕ) → digit ≡ is_ascii_digit b → gap ≡ is_blank b → not (digit || gap) ≡ has_other (b ∷ [])
other_here digit gap b is same =
    ap (λ t. not (t || gap)) is ∙ ap (λ t. not (is_ascii_digit b || t)) same ∙ or_none (not (is_ascii_digit b || is_blank b))

-- the parts between blanks that have a byte
some_of : List (List ℕ) → List (List ℕ)
some_of parts = filter (λ part. nat_lt 0 (length part)) parts

parts_behind : List (List ℕ) → List (List ℕ)
parts_behind [] = []
parts_behind (part ∷ parts) = parts

starts_at : (blank here : Bool) (b : ℕ) (bs : List ℕ) → is_blank b ≡ here → starts blank (b ∷ bs) ≡ cond (blank && not here) 1 0 + starts here bs
starts_at blank here b bs same = ap (λ t. cond (blank && not t) 1 0 + starts t bs) same

begun : (b : ℕ) (parts : List (List ℕ)) → length (some_of (onto_first b parts)) ≡ 1 + length (some_of (parts_behind parts))
unfolding some_of parts_behind
begun b [] = refl
begun b (part ∷ parts) =
    ap (λ t. length (cond t ((b ∷ part) ∷ some_of parts) (some_of parts))) (lt-ltb 0 (length (b ∷ part)) (omega arith)) ∙ omega arith

behind_same : (b : ℕ) (parts : List (List ℕ)) → parts_behind (onto_first b parts) ≡ parts_behind parts
unfolding parts_behind
behind_same b [] = refl
behind_same b (part ∷ parts) = refl

-- the parts, and those behind the first
record AreCounted (bs : List ℕ) : Type 0 where
  whole : length (some_of (slice_split is_blank bs)) ≡ starts true bs
  behind : length (some_of (parts_behind (slice_split is_blank bs))) ≡ starts false bs

are_counted : (bs : List ℕ) → AreCounted bs
unfolding some_of parts_behind
are_counted [] = record { whole = refl; behind = refl }
are_counted (b ∷ bs) = by_blank (is_blank b) refl (are_counted bs)
  where
    by_blank : (here : Bool) → is_blank b ≡ here → AreCounted bs → AreCounted (b ∷ bs)
    by_blank true same rest =
        let cut = slice_split-cons_yes is_blank b bs same in
        let left = rest.whole in
        record {
          whole = ap (λ (ps : List (List ℕ)). length (some_of ps)) cut ∙ left ∙ sym (starts_at true true b bs same ∙ omega arith);
          behind = ap (λ (ps : List (List ℕ)). length (some_of (parts_behind ps))) cut ∙ left ∙ sym (starts_at false true b bs same ∙ omega arith);
        }
    by_blank false same rest =
        let parts = slice_split is_blank bs in
        let cut = slice_split-cons_no is_blank b bs same in
        let left = rest.behind in
        record {
          whole = ap (λ (ps : List (List ℕ)). length (some_of ps)) cut ∙ begun b parts ∙ ap (λ n. 1 + n) left ∙ sym (starts_at true false b bs same);
          behind = ap (λ (ps : List (List ℕ)). length (some_of (parts_behind ps))) cut ∙ ap (λ (ps : List (List ℕ)). length (some_of ps)) (behind_same b parts) ∙ left ∙ sym (starts_at false false b bs same ∙ omega arith);
        }

pub fields_begin : (text : List ℕ) → length (fields_of text) ≡ starts true text
unfolding some_of
fields_begin text = (are_counted text).whole

abbrev AreDigits : List (List ℕ) → Type 0
AreDigits [] = Unit {0}
AreDigits (part ∷ parts) = (all_ascii_digits part ≡ true) × AreDigits parts

both : (this that : Bool) → this ≡ true → that ≡ true → (this && that) ≡ true
both true that p q = q
both false that p q = cc

none_of : (this that : Bool) → (this || that) ≡ false → (this ≡ false) × (that ≡ false)
none_of true that p = absurd (false≢true (sym p))
none_of false that p = (refl, p)

digit_here : (digit blank : Bool) → not (digit || blank) ≡ false → blank ≡ false → digit ≡ true
digit_here true blank p q = refl
digit_here false true p q = absurd (false≢true (sym q))
digit_here false false p q = absurd (false≢true (sym p))

onto_digits : (b : ℕ) (parts : List (List ℕ)) → is_ascii_digit b ≡ true → AreDigits parts → AreDigits (onto_first b parts)
onto_digits b [] digit are = (both (is_ascii_digit b) true digit refl, tt)
onto_digits b (part ∷ parts) digit are = (both (is_ascii_digit b) (all_ascii_digits part) digit are.0, are.1)

digits_of : (bs : List ℕ) → has_other bs ≡ false → AreDigits (slice_split is_blank bs)
digits_of [] none = (refl, tt)
digits_of (b ∷ bs) none =
    let parts = none_of (not (is_ascii_digit b || is_blank b)) (has_other bs) none in
    by_blank (is_blank b) refl parts.0 (digits_of bs parts.1)
  where
    by_blank : (here : Bool) → is_blank b ≡ here → not (is_ascii_digit b || is_blank b) ≡ false → AreDigits (slice_split is_blank bs) → AreDigits (slice_split is_blank (b ∷ bs))
    by_blank true same plain rest = subst AreDigits (sym (slice_split-cons_yes is_blank b bs same)) (refl, rest)
    by_blank false same plain rest =
        let digit = digit_here (is_ascii_digit b) (is_blank b) plain same in
        subst AreDigits (sym (slice_split-cons_no is_blank b bs same)) (onto_digits b (slice_split is_blank bs) digit rest)

onto_first_digit : (b : ℕ) (parts : List (List ℕ)) → AreDigits (onto_first b parts) → (is_ascii_digit b ≡ true) × AreDigits parts
onto_first_digit b [] are = (and_left (is_ascii_digit b) true are.0, tt)
onto_first_digit b (part ∷ parts) are =
    (and_left (is_ascii_digit b) (all_ascii_digits part) are.0, (and_right (is_ascii_digit b) (all_ascii_digits part) are.0, are.1))

either : (this that : Bool) → that ≡ true → (this || that) ≡ true
either true that p = refl
either false that p = p

no_other : (bs : List ℕ) → AreDigits (slice_split is_blank bs) → has_other bs ≡ false
no_other [] are = refl
no_other (b ∷ bs) are = by_blank (is_blank b) refl (no_other bs)
  where
    plain : (is_ascii_digit b || is_blank b) ≡ true → has_other bs ≡ false → has_other (b ∷ bs) ≡ false
    plain here rest = ap (λ t. not t || has_other bs) here ∙ rest

    by_blank : (here : Bool) → is_blank b ≡ here → (AreDigits (slice_split is_blank bs) → has_other bs ≡ false) → has_other (b ∷ bs) ≡ false
    by_blank true same later =
        plain (either (is_ascii_digit b) (is_blank b) same) (later (subst AreDigits (slice_split-cons_yes is_blank b bs same) are).1)
    by_blank false same later =
        let parts = onto_first_digit b (slice_split is_blank bs) (subst AreDigits (slice_split-cons_no is_blank b bs same) are) in
        plain (ap (λ t. t || is_blank b) parts.0) (later parts.1)

-- Digits are a number.
pub digits_are_number : (field : List ℕ) → 0 < length field → all_ascii_digits field ≡ true → number_of field ≡ Some (digits_value 10 field)
digits_are_number field some digits =
    ap (λ t. cond t (Some (digits_value 10 field)) None) (both (nat_lt 0 (length field)) (all_ascii_digits field) (lt-ltb 0 (length field) some) digits)

number_digits : (field : List ℕ) (n : ℕ) → number_of field ≡ Some n → all_ascii_digits field ≡ true
number_digits field n is = by_test (nat_lt 0 (length field) && all_ascii_digits field) refl
  where
    by_test : (t : Bool) → (nat_lt 0 (length field) && all_ascii_digits field) ≡ t → all_ascii_digits field ≡ true
    by_test true same = and_right (nat_lt 0 (length field)) (all_ascii_digits field) same
    by_test false same =
        let none : number_of field ≡ None = ap (λ t. cond t (Some (digits_value 10 field)) None) same in
        cc

some_more : (b : ℕ) (bs : List ℕ) (parts : List (List ℕ)) → some_of ((b ∷ bs) ∷ parts) ≡ (b ∷ bs) ∷ some_of parts
unfolding some_of
some_more b bs parts = ap (λ t. cond t ((b ∷ bs) ∷ some_of parts) (some_of parts)) (lt-ltb 0 (length (b ∷ bs)) (omega arith))

abbrev AreWritten : List (List ℕ) → Type 0
AreWritten fields = AreArcNumbers fields (arcs_of fields)

are_written : (parts : List (List ℕ)) → AreDigits parts → AreWritten (some_of parts)
unfolding some_of
are_written [] are = tt
are_written ([] ∷ parts) are = are_written parts are.1
are_written ((b ∷ bs) ∷ parts) are =
    let field : List ℕ = b ∷ bs in
    let number = digits_are_number field (omega arith) are.0 in
    subst AreWritten (sym (some_more b bs parts)) ((digits_value 10 field, number, ap arc_found number), are_written parts are.1)

digits_written : (parts : List (List ℕ)) (arcs : List ℕ) → AreArcNumbers (some_of parts) arcs → AreDigits parts
unfolding some_of
digits_written [] arcs are = tt
digits_written ([] ∷ parts) arcs are = (refl, digits_written parts arcs are)
digits_written ((b ∷ bs) ∷ parts) arcs are = by_arcs arcs (digits_written parts) (subst (λ (fs : List (List ℕ)). AreArcNumbers fs arcs) (some_more b bs parts) are)
  where
    by_arcs : (arcs : List ℕ) → ((later : List ℕ) → AreArcNumbers (some_of parts) later → AreDigits parts) → AreArcNumbers ((b ∷ bs) ∷ some_of parts) arcs → AreDigits ((b ∷ bs) ∷ parts)
    by_arcs [] rest here = absurd here
    by_arcs (arc ∷ later) rest here = (number_digits (b ∷ bs) here.0.0 here.0.1, rest later here.1)

-- A text writes numbers if it has only digits and blanks, and otherwise not.
pub numbers_written : (text : List ℕ) → has_other text ≡ false → AreArcNumbers (fields_of text) (arcs_of (fields_of text))
unfolding some_of
numbers_written text none = are_written (slice_split is_blank text) (digits_of text none)

pub no_numbers : (text : List ℕ) → has_other text ≡ true → (arcs : List ℕ) → AreArcNumbers (fields_of text) arcs → ⊥
unfolding some_of
no_numbers text other arcs are = false≢true (sym (no_other text (digits_written (slice_split is_blank text) arcs are)) ∙ other)

-- nothing is left
pub ended : (rest : List ℕ) (count : ℕ) (blank other : Bool) (whole : ℕ) (all : Bool) → (length rest == 0) ≡ true → count + starts blank rest ≡ whole → (other || has_other rest) ≡ all → other ≡ false → (count ≡ whole) × (all ≡ false)
ended [] count blank other whole all none counted found same = (omega arith, sym found ∙ ap (λ t. t || false) same)
ended (b ∷ bs) count blank other whole all none counted found same = absurd (some (eqb-true (length (b ∷ bs)) 0 none))
  where
    some : length (b ∷ bs) ≡ 0 → ⊥
    some size = omega arith
