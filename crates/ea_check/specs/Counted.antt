-- Counting the fields of a text, byte by byte.
use Rattle.std.specs.Prelude.{ℕ, ◌+◌, Bool, false, not, ◌||◌, ◌&&◌, List, [], ◌∷◌, if◌then◌else◌}
use Rattle.std.specs.Char.{is_ascii_digit}
use Rattle.ea_bytes.specs.Text.{is_blank}

-- How many fields begin, given whether a blank precedes: each begins at a byte behind a blank.
abbrev pub starts : Bool → List ℕ → ℕ
starts blank [] = 0
starts blank (b ∷ bs) =
    (if blank && not (is_blank b) then 1 else 0) + starts (is_blank b) bs

-- Whether the last byte is a blank.
abbrev pub ends_blank : Bool → List ℕ → Bool
ends_blank blank [] = blank
ends_blank blank (b ∷ bs) = ends_blank (is_blank b) bs

-- Whether there is a byte other than digits and blanks.
abbrev pub has_other : List ℕ → Bool
has_other [] = false
has_other (b ∷ bs) = not (is_ascii_digit b || is_blank b) || has_other bs
