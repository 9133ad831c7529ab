-- Lines, fields and numbers of a text.
use Rattle.std.specs.Prelude.{ℕ, Bool, true, false, not, ◌||◌, ◌&&◌, List, [], ◌∷◌, map, filter, length, nat_lt, ◌==◌, if◌then◌else◌, Option, Some, None}
use Rattle.std.specs.List.{slice_split, onto_first}
use Rattle.std.specs.Str.{all_ascii_digits}
use Rattle.std.specs.Str.Lines.{strip_carriage_return}
use Rattle.std.specs.Str.Parse.{digits_value}

-- The lines of a text: each line feed ends one, and the bytes after the last line feed are one if there are
-- any.
abbrev pub lines_of : List ℕ → List (List ℕ)
lines_of [] = []
lines_of (b ∷ bs) = if b == 10 then [] ∷ lines_of bs else onto_first b (lines_of bs)

-- A space or a tab.
abbrev pub is_blank : ℕ → Bool
is_blank b = (b == 32) || (b == 9)

-- The fields of a line: the parts between blanks that aren't empty.
abbrev pub fields_of : List ℕ → List (List ℕ)
fields_of line = filter (λ part. nat_lt 0 (length part)) (slice_split is_blank line)

-- The lines of a text, each as its fields, without one carriage return at the end of a line.
abbrev pub field_lines : List ℕ → List (List (List ℕ))
field_lines text = map (λ line. fields_of (strip_carriage_return line)) (lines_of text)

-- The number in a field, of any length: one or more digits.
abbrev pub number_of : List ℕ → Option ℕ
number_of field = if nat_lt 0 (length field) && all_ascii_digits field then Some (digits_value 10 field) else None

-- The first field of a comment begins with `c`.
abbrev pub is_comment : List ℕ → Bool
is_comment [] = false
is_comment (b ∷ bs) = b == 99

-- A line says nothing if it has no field or is a comment.
abbrev pub is_silent : List (List ℕ) → Bool
is_silent [] = true
is_silent (word ∷ others) = is_comment word

-- The lines that say something.
abbrev pub speaking : List (List (List ℕ)) → List (List (List ℕ))
speaking lines = filter (λ line. not (is_silent line)) lines
