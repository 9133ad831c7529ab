-- Texts that are read one after another.
use Rattle.std.proofs.Common.{◌≡◌, ◌⊎◌, ℕ, ◌+◌, ◌≤◌, List, [], ◌∷◌, ◌++◌, length, map, refl, ap, sym, ◌∙◌, subst, inl, inr, arith, length-append}
use Rattle.std.specs.Prelude.{IfOk, Result, Ok, Err}
use Rattle.std.specs.Str.Lines.{strip_carriage_return}
use Rattle.std.proofs.lemmas.List.{map-append}
use Rattle.ea_bytes.specs.Text.{lines_of, fields_of, field_lines}
use Rattle.ea_blocks.specs.Fault.{◌>>=◌, in_line, out_of_memory, Gives}
use Rattle.ea_blocks.specs.Reading.{lines_after}
use Rattle.ea_blocks.proofs.Steps.{Step}
use Rattle.ea_blocks.specs.declared.fault.InputFault.{InputFault}

-- ---- how many lines there are

pub one_line_more : (text line after : List ℕ) → lines_of text ≡ line ∷ lines_of after → length (field_lines text) ≡ length (field_lines after) + 1
one_line_more text line after cut =
    let same : length (field_lines text) ≡ length (map (λ l. fields_of (strip_carriage_return l)) (line ∷ lines_of after)) = ap (λ lines. length (map (λ l. fields_of (strip_carriage_return l)) lines)) cut in
    omega (arith, same)

pub no_line_left : (text : List ℕ) → length text ≡ 0 → length (field_lines text) ≡ 0
no_line_left [] e = refl
no_line_left (b ∷ bs) e = absurd (omega (arith, e))

-- ---- lines after lines

bind_on : {S : Type 0} (r : Result S InputFault) (f g k : S → Result S InputFault) → ((t : S) → f t ≡ (g t >>= k)) → (r >>= f) ≡ ((r >>= g) >>= k)
bind_on (Ok t) f g k h = h t
bind_on (Err e) f g k h = refl

lines_on : {S : Type 0} (step : Step S) (n : ℕ) (s : S) (xs ys : List (List (List ℕ))) → lines_after step n s (xs ++ ys) ≡ (lines_after step n s xs >>= λ t. lines_after step (n + length xs) t ys)
unfolding lines_after
lines_on step n s [] ys = ap (λ m. lines_after step m s ys) (omega arith)
lines_on step n s (x ∷ xs) ys =
    bind_on (in_line (n + 1) (step s x)) (λ t. lines_after step (n + 1) t (xs ++ ys)) (λ t. lines_after step (n + 1) t xs) (λ t. lines_after step (n + length (x ∷ xs)) t ys)
    (λ t. lines_on step (n + 1) t xs ys ∙ ap (λ m. lines_after step (n + 1) t xs >>= λ u. lines_after step m u ys) (omega arith))

pub fields_on : (text front back : List ℕ) → lines_of text ≡ lines_of front ++ lines_of back → field_lines text ≡ field_lines front ++ field_lines back
fields_on text front back cut = ap (map (λ l. fields_of (strip_carriage_return l))) cut ∙ map-append (λ l. fields_of (strip_carriage_return l)) (lines_of front) (lines_of back)

-- Reading a text is reading its front and then its back.
pub text_on : {S : Type 0} (step : Step S) (n : ℕ) (s : S) (text front back : List ℕ) → lines_of text ≡ lines_of front ++ lines_of back
    → lines_after step n s (field_lines text) ≡ (lines_after step n s (field_lines front) >>= λ t. lines_after step (n + length (field_lines front)) t (field_lines back))
text_on step n s text front back cut = ap (lines_after step n s) (fields_on text front back cut) ∙ lines_on step n s (field_lines front) (field_lines back)

pub count_on : (text front back : List ℕ) → lines_of text ≡ lines_of front ++ lines_of back → length (field_lines text) ≡ length (field_lines front) + length (field_lines back)
count_on text front back cut = ap length (fields_on text front back cut) ∙ length-append (field_lines front) (field_lines back)

-- A fault of the front is the text's.
pub fault_on : {S : Type 0} (step : Step S) (n : ℕ) (s : S) (text front back : List ℕ) (fault : InputFault) → lines_of text ≡ lines_of front ++ lines_of back
    → (fault ≡ out_of_memory) ⊎ (lines_after step n s (field_lines front) ≡ Err fault) → (fault ≡ out_of_memory) ⊎ (lines_after step n s (field_lines text) ≡ Err fault)
fault_on step n s text front back fault cut (inl refused) = inl refused
fault_on step n s text front back fault cut (inr e) = inr (text_on step n s text front back cut ∙ ap (λ r. r >>= λ t. lines_after step (n + length (field_lines front)) t (field_lines back)) e)

-- Reading the back after the front gives what reading the text gives.
pub back_on : {S X : Type 0} (step : Step S) (view : X → S) (n m : ℕ) (s mid : S) (text front back : List ℕ) (read : Result X InputFault) → lines_of text ≡ lines_of front ++ lines_of back
    → lines_after step n s (field_lines front) ≡ Ok mid → m ≡ n + length (field_lines front) → Gives view read (lines_after step m mid (field_lines back))
    → Gives view read (lines_after step n s (field_lines text))
back_on step view n m s mid text front back read cut first e given =
    let whole : lines_after step n s (field_lines text) ≡ lines_after step m mid (field_lines back) =
    text_on step n s text front back cut ∙ ap (λ r. r >>= λ t. lines_after step (n + length (field_lines front)) t (field_lines back)) first ∙ ap (λ k. lines_after step k mid (field_lines back)) (sym e) in
    subst (λ r. Gives view read r) (sym whole) given

-- ---- with how many lines there are

-- The result of reading lines: a state, and the number of lines before what follows.
abbrev pub Came : {S : Type 0} → (ℕ → S) → ℕ → List ℕ → Result S InputFault → Result ℕ InputFault → Type 0
Came view n text said read = Gives view read said × IfOk read (λ line. (line ≡ n + length (field_lines text)) × (line ≤ n + length text))

pub front_fails : {S : Type 0} (step : Step S) (view other : ℕ → S) (n : ℕ) (s : S) (text front back : List ℕ) (read : Result ℕ InputFault) (fault : InputFault) → lines_of text ≡ lines_of front ++ lines_of back
    → read ≡ Err fault → Came view n front (lines_after step n s (field_lines front)) read → Came other n text (lines_after step n s (field_lines text)) (Err fault)
front_fails step view other n s text front back read fault cut e came =
    let got = subst (λ r. Came view n front (lines_after step n s (field_lines front)) r) e came in
    (fault_on step n s text front back fault cut got.0, tt)

back_counts : (n line : ℕ) (text front back : List ℕ) (result : Result ℕ InputFault) → lines_of text ≡ lines_of front ++ lines_of back → text ≡ front ++ back → line ≡ n + length (field_lines front) → line ≤ n + length front
    → IfOk result (λ l. (l ≡ line + length (field_lines back)) × (l ≤ line + length back)) → IfOk result (λ l. (l ≡ n + length (field_lines text)) × (l ≤ n + length text))
back_counts n line text front back (Ok l) cut whole count few back_is = (omega (arith, count, back_is.0, count_on text front back cut), omega (arith, few, back_is.1, ap length whole, length-append front back))
back_counts n line text front back (Err fault) cut whole count few back_is = tt

pub back_read : {S : Type 0} (step : Step S) (view last : ℕ → S) (n line : ℕ) (s mid now : S) (text front back : List ℕ) (read result : Result ℕ InputFault) → lines_of text ≡ lines_of front ++ lines_of back → text ≡ front ++ back
    → read ≡ Ok line → Came view n front (lines_after step n s (field_lines front)) read → view line ≡ mid → now ≡ mid
    → Came last line back (lines_after step line now (field_lines back)) result → Came last n text (lines_after step n s (field_lines text)) result
back_read step view last n line s mid now text front back read result cut whole e came is same later =
    let got = subst (λ r. Came view n front (lines_after step n s (field_lines front)) r) e came in
    let first : lines_after step n s (field_lines front) ≡ Ok now = got.0 ∙ ap (λ t. Ok t) (is ∙ sym same) in
    (back_on step last n line s now text front back result cut first got.1.0 later.0, back_counts n line text front back result cut whole got.1.0 got.1.1 later.1)

-- The same if a separate thread read the back, which was appended to the front.
pub both_read : {S : Type 0} (step : Step S) (n line count : ℕ) (s mid last : S) (text front back : List ℕ) (read : Result ℕ InputFault) → lines_of text ≡ lines_of front ++ lines_of back → text ≡ front ++ back
    → read ≡ Ok line → Came (λ _. mid) n front (lines_after step n s (field_lines front)) read → lines_after step line mid (field_lines back) ≡ Ok last → (count ≡ length (field_lines back)) × (count ≤ length back)
    → Came (λ _. last) n text (lines_after step n s (field_lines text)) (Ok (line + count))
both_read step n line count s mid last text front back read cut whole e came later counted =
    let got = subst (λ r. Came (λ _. mid) n front (lines_after step n s (field_lines front)) r) e came in (
      back_on step (λ _. last) n line s mid text front back (Ok count) cut got.0 got.1.0 later,
      (omega (arith, got.1.0, counted.0, count_on text front back cut), omega (arith, got.1.1, counted.1, ap length whole, length-append front back)),
    )

-- A text that a separate thread read.
pub read_aside : {S : Type 0} (step : Step S) (s last : S) (back : List ℕ) (read : Result ℕ InputFault) (count : ℕ) → read ≡ Ok count → Came (λ _. last) 0 back (lines_after step 0 s (field_lines back)) read
    → (lines_after step 0 s (field_lines back) ≡ Ok last) × (count ≡ length (field_lines back)) × (count ≤ length back)
read_aside step s last back read count e came =
    let got = subst (λ r. Came (λ _. last) 0 back (lines_after step 0 s (field_lines back)) r) e came in
    (got.0, omega (arith, got.1.0), omega (arith, got.1.1))
