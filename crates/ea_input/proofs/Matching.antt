-- The checks of a line in their order, matched by what reading it gives.
use Rattle.std.proofs.Common.{◌≡◌, inl, inr, ℕ, ◌+◌, ◌&&◌, ◌||◌, Bool, true, false, cond, refl, ap, sym, ◌∙◌, subst, List, [], ◌∷◌, ◌++◌, leb, ltb, add-zero, arith, tests}
use Rattle.std.specs.Prelude.{Option, Some, None, Result, Ok, Err, not, find, count_by, unwrap_or}
use Rattle.std.proofs.lemmas.List.Sums.{sum_by-append}
use Rattle.ea_blocks.specs.Fault.{◌>>=◌}
use Rattle.std.specs.Option.{option_map}
use Rattle.std.specs.Str.{bytes_eq}
use Rattle.std.proofs.lemmas.Bool.{false≢true}
use Rattle.ea_bytes.specs.Text.{is_comment, is_silent}
use Rattle.ea_input.specs.Range.{IsNumberIn}
use Rattle.ea_input.specs.Checks.{Line, begins_with, value_of, first_failing}
use Rattle.ea_input.proofs.Faults.{Matches}
use Rattle.ea_input.proofs.Forms.{tested}
use Rattle.ea_input.proofs.Said.{choice_ok, same_word}
use Rattle.ea_blocks.proofs.Cuts.{two_ways}
use Rattle.ea_blocks.specs.declared.fault.FaultKind.{FaultKind}
use Rattle.ea_blocks.specs.declared.fault.FaultKind.TheVariants.{FieldCount, BadNumber, OutOfRange, TooManyLines, TooFewLines, BadKind}

-- What is made of what was read.
pub bind_matches : {X Y : Type 0} (f : Option FaultKind) (r : Result X FaultKind) (x : X) (g : X → Y) → Matches f r x → Matches f (r >>= λ y. Ok (g y)) (g x)
bind_matches None r x g h = ap (λ q. q >>= λ y. Ok (g y)) h
bind_matches (Some kind) r x g h = ap (λ q. q >>= λ y. Ok (g y)) h

-- A kind word.
pub kind_matches : {X Y : Type 0} (fits : Bool) (rest : Option FaultKind) (r : Result X FaultKind) (g : X → Result Y FaultKind) (y : Y) → Matches rest (r >>= g) y → Matches (cond (not (fits && true)) (Some BadKind) rest) (cond fits r (Err BadKind) >>= g) y
kind_matches true rest r g y h = h
kind_matches false rest r g y h = refl

-- A number of fields that is wrong.
pub count_matches : {X : Type 0} (right : Bool) (rest : Option FaultKind) (x : X) → right ≡ false → Matches (cond (not right) (Some FieldCount) rest) (Err FieldCount) x
count_matches true rest x e = cc
count_matches false rest x e = refl

-- The numbers of a problem line.
pub numbers_match : {X Y : Type 0} (numbers ranges : Bool) (r : Result X FaultKind) (x : X) (g : X → Y) → r ≡ tested numbers ranges x → Matches (first_failing ((not numbers, BadNumber) ∷ (not ranges, OutOfRange) ∷ [])) (r >>= λ y. Ok (g y)) (g x)
numbers_match true true r x g e = ap (λ q. q >>= λ y. Ok (g y)) e
numbers_match true false r x g e = ap (λ q. q >>= λ y. Ok (g y)) e
numbers_match false ranges r x g e = ap (λ q. q >>= λ y. Ok (g y)) e

-- No room is left exactly if the count is at least the limit.
pub full : (count size : ℕ) → leb size count ≡ not (ltb count size)
full count size = grind (arith, tests)

room_matches : {X : Type 0} (full room : Bool) (x : X) → full ≡ not room → Matches (first_failing ((full, TooManyLines) ∷ [])) (cond room (Ok x) (Err TooManyLines)) x
room_matches true true x e = cc
room_matches true false x e = refl
room_matches false true x e = refl
room_matches false false x e = cc

tested_matches : {X Y : Type 0} (numbers ranges : Bool) (size count : ℕ) (x : X) (g : X → Y) → Matches (first_failing ((not numbers, BadNumber) ∷ (not ranges, OutOfRange) ∷ (leb size count, TooManyLines) ∷ [])) (tested numbers ranges x >>= λ y. cond (ltb count size) (Ok (g y)) (Err TooManyLines)) (g x)
tested_matches true true size count x g = room_matches (leb size count) (ltb count size) (g x) (full count size)
tested_matches true false size count x g = refl
tested_matches false ranges size count x g = refl

-- The numbers of a line of a sort, by how many came before and how many were announced.
pub item_matches : {X Y : Type 0} (numbers ranges : Bool) (size count : ℕ) (r : Result X FaultKind) (x : X) (g : X → Y) → r ≡ tested numbers ranges x
    → Matches (first_failing ((not numbers, BadNumber) ∷ (not ranges, OutOfRange) ∷ (leb size count, TooManyLines) ∷ [])) (r >>= λ y. cond (ltb count size) (Ok (g y)) (Err TooManyLines)) (g x)
item_matches numbers ranges size count r x g e =
    subst (λ q. Matches (first_failing ((not numbers, BadNumber) ∷ (not ranges, OutOfRange) ∷ (leb size count, TooManyLines) ∷ [])) (q >>= λ y. cond (ltb count size) (Ok (g y)) (Err TooManyLines)) (g x)) (sym e) (tested_matches numbers ranges size count x g)

-- Enough lines of the one sort.
pub few_matches : {X : Type 0} (few : Bool) (x : X) → Matches (cond (few || false) (Some TooFewLines) None) (cond few (Err TooFewLines) (Ok x)) x
few_matches true x = refl
few_matches false x = refl

-- ---- what came before

pub found_before : (p : Line → Bool) (lines : List Line) (line : Line) → p line ≡ false → find p (lines ++ line ∷ []) ≡ find p lines
found_before p [] line e = ap (λ b. cond b (Some line) None) e
found_before p (first ∷ lines) line e = ap (λ o. cond (p first) (Some first) o) (found_before p lines line e)

nothing : (line : Line) → ◌≡◌ {A = Option Line} (Some line) None → ⊥
nothing line e = cc

pub found_now : (p : Line → Bool) (lines : List Line) (line : Line) → find p lines ≡ None → p line ≡ true → find p (lines ++ line ∷ []) ≡ Some line
found_now p [] line none e = ap (λ b. cond b (Some line) None) e
found_now p (first ∷ lines) line none e = elim (choice_ok (p first) (Some first) (find p lines) None none) [
  | inl found ↦ absurd (nothing first found.1)
  | inr later ↦ ap (λ b. cond b (Some first) (find p (lines ++ line ∷ []))) later.0 ∙ found_now p lines line later.1 e
]

pub counted_before : (p : Line → Bool) (lines : List Line) (line : Line) → p line ≡ false → count_by p (lines ++ line ∷ []) ≡ count_by p lines
counted_before p lines line e = sum_by-append (λ x. cond (p x) 1 0) lines (line ∷ []) ∙ ap (λ b. count_by p lines + (0 + cond b 1 0)) e ∙ add-zero (count_by p lines)

pub counted_now : (p : Line → Bool) (lines : List Line) (line : Line) → p line ≡ true → count_by p (lines ++ line ∷ []) ≡ count_by p lines + 1
counted_now p lines line e = sum_by-append (λ x. cond (p x) 1 0) lines (line ∷ []) ∙ ap (λ b. count_by p lines + (0 + cond b 1 0)) e

-- A line that says nothing begins with no word of a file.
pub silent_word : (word : List ℕ) (line : Line) → is_comment word ≡ false → is_silent line ≡ true → begins_with word line ≡ false
silent_word word [] plain silent = refl
silent_word word (first ∷ fields) plain silent = elim (two_ways (bytes_eq first word)) [
  | inl same ↦ absurd (false≢true (sym plain ∙ ap is_comment (sym (same_word first word same)) ∙ silent))
  | inr other ↦ other
]

pub some_is : {A : Type 0} (x y : A) → Some x ≡ Some y → x ≡ y
some_is x y e = cc

pub none_mapped : {A B : Type 0} (f : A → B) (o : Option A) → None ≡ option_map f o → o ≡ None
none_mapped f None e = refl
none_mapped f (Some x) e = cc

pub some_mapped : {A B : Type 0} (f : A → B) (o : Option A) (y : B) → Some y ≡ option_map f o → (x : A) × (o ≡ Some x) × (f x ≡ y)
some_mapped f None y e = cc
some_mapped f (Some x) y e = (x, refl, sym (some_is y (f x) e))

pub number_is : (low high : ℕ) (field : List ℕ) (n : ℕ) → IsNumberIn low high field n → value_of field ≡ n
number_is low high field n is = ap (λ o. unwrap_or o 0) is.0
