-- The ends of lines and fields.
use Rattle.std.proofs.Common.{◌≡◌, ◌≢◌, ℕ, suc, zero, ◌<◌, true, false, cond, List, [], ◌∷◌, ◌++◌, length, get_or, take, drop, refl, ap, sym, ◌∙◌, arith, tests}
use Rattle.std.specs.List.{slice_split, onto_first}
use Rattle.std.specs.Prelude.{nat_lt, filter}
use Rattle.std.proofs.Math.ListN.{length-take}
use Rattle.std.proofs.Math.Seq.{take-append_seam}
use Rattle.std.proofs.lemmas.Bool.{lt-ltb, false≢true}
use Rattle.std.proofs.lemmas.List.Splits.{slice_split-cons_yes, slice_split-cons_no}
use Rattle.memchr.specs.Find.{Passes, is_byte}
use Rattle.ea_bytes.specs.Text.{lines_of, fields_of, is_blank}

-- A byte is a line feed if the search says so.
pub feed_at : (text : List ℕ) (i : ℕ) → Passes (is_byte 10) text i → get_or text i 0 ≡ 10
feed_at text i found = grind (arith, tests)

pub no_feed : (text : List ℕ) (i : ℕ) → ¬ Passes (is_byte 10) text i → get_or text i 0 ≢ 10
no_feed text i none = λ is. none (grind (arith, tests))

-- What holds at each place but the first holds at each place of the tail.
tail_places : (b : ℕ) (bs : List ℕ) (i : ℕ) → ((k : ℕ) → k < suc i → get_or (b ∷ bs) k 0 ≢ 10) → (k : ℕ) → k < i → get_or bs k 0 ≢ 10
tail_places b bs i none k h = none (suc k) (omega arith)

pub lines_at : (text : List ℕ) (i : ℕ) → i < length text → get_or text i 0 ≡ 10 → ((k : ℕ) → k < i → get_or text k 0 ≢ 10) → lines_of text ≡ take i text ∷ lines_of (drop (suc i) text)
lines_at [] i h e none = absurd (omega arith)
lines_at (b ∷ bs) zero h e none = rw e refl
lines_at (b ∷ bs) (suc i) h e none =
    let here : b ≢ 10 = none 0 (omega arith) in
    let rest = lines_at bs i (omega arith) e (tail_places b bs i none) in
    grind (arith, tests, rest)

pub lines_end : (text : List ℕ) → 0 < length text → ((k : ℕ) → k < length text → get_or text k 0 ≢ 10) → lines_of text ≡ text ∷ []
lines_end [] h none = absurd (omega arith)
lines_end (b ∷ []) h none =
    let here : b ≢ 10 = none 0 (omega arith) in
    grind (arith, tests)
lines_end (b ∷ c ∷ bs) h none =
    let here : b ≢ 10 = none 0 (omega arith) in
    let rest = lines_end (c ∷ bs) (omega arith) (tail_places b (c ∷ bs) _ none) in
    grind (arith, tests, rest)

-- A blank at the front doesn't matter.
pub fields_blank : (line : List ℕ) (i : ℕ) → i < length line → is_blank (get_or line i 0) ≡ true → fields_of (drop (suc i) line) ≡ fields_of (drop i line)
fields_blank [] i h e = absurd (omega arith)
fields_blank (b ∷ bs) zero h e = sym (ap (λ t. filter (λ part. nat_lt 0 (length part)) (cond t ([] ∷ slice_split is_blank bs) (onto_first b (slice_split is_blank bs)))) e)
fields_blank (b ∷ bs) (suc i) h e = fields_blank bs i (omega arith) e

split_at : (line : List ℕ) (i : ℕ) → i < length line → is_blank (get_or line i 0) ≡ true → ((k : ℕ) → k < i → is_blank (get_or line k 0) ≡ false) → slice_split is_blank line ≡ take i line ∷ slice_split is_blank (drop (suc i) line)
split_at [] i h e none = absurd (omega arith)
split_at (b ∷ bs) zero h e none = slice_split-cons_yes is_blank b bs e
split_at (b ∷ bs) (suc i) h e none =
    slice_split-cons_no is_blank b bs (none 0 (omega arith)) ∙ ap (onto_first b) (split_at bs i (omega arith) e (λ k below. none (suc k) (omega arith)))

-- The first field ends at the first blank.
pub field_at : (line : List ℕ) (i : ℕ) → 0 < i → i < length line → is_blank (get_or line i 0) ≡ true → ((k : ℕ) → k < i → is_blank (get_or line k 0) ≡ false) → fields_of line ≡ take i line ∷ fields_of (drop (suc i) line)
field_at line i some h e none =
    let front : nat_lt 0 (length (take i line)) ≡ true = lt-ltb 0 _ (rw length-take (omega arith)) in
    ap (filter (λ part. nat_lt 0 (length part))) (split_at line i h e none)
    ∙ ap (λ t. cond t (take i line ∷ fields_of (drop (suc i) line)) (fields_of (drop (suc i) line))) front

split_none : (line : List ℕ) → ((k : ℕ) → k < length line → is_blank (get_or line k 0) ≡ false) → slice_split is_blank line ≡ line ∷ []
split_none [] none = refl
split_none (b ∷ bs) none =
    slice_split-cons_no is_blank b bs (none 0 (omega arith)) ∙ ap (onto_first b) (split_none bs (λ k below. none (suc k) (omega arith)))

-- Without a blank, the line is one field.
pub field_end : (line : List ℕ) → 0 < length line → ((k : ℕ) → k < length line → is_blank (get_or line k 0) ≡ false) → fields_of line ≡ line ∷ []
field_end [] some none = absurd (omega arith)
field_end (b ∷ bs) some none =
    let front : nat_lt 0 (length (b ∷ bs)) ≡ true = lt-ltb 0 _ (omega arith) in
    ap (filter (λ part. nat_lt 0 (length part))) (split_none (b ∷ bs) none) ∙ ap (λ t. cond t ((b ∷ bs) ∷ []) []) front

-- A place with a blank isn't the first of a line that begins with none.
pub not_at_start : (line : List ℕ) (i : ℕ) → is_blank (get_or line 0 0) ≡ false → is_blank (get_or line i 0) ≡ true → 0 < i
not_at_start line zero plain blank = absurd (false≢true (sym plain ∙ blank))
not_at_start line (suc i) plain blank = omega arith

-- The first elements of a list, by their number.
pub front_of : (front rest whole : List (List ℕ)) (n : ℕ) → length front ≡ n → front ++ rest ≡ whole → front ≡ take n whole
front_of front rest whole n size e = rw (← e, ← size) (sym (take-append_seam front rest))
