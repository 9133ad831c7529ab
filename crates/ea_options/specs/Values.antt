-- The values of a command's options in clap's matches.
use Rattle.std.specs.Prelude.{ℕ, Bool, true, false, ◌&&◌, List, codes, nat_le, if◌then◌else◌, Option, Some, None, option_and_then, option_map}
use Rattle.std.specs.Str.{bytes_eq}
use Rattle.clap.specs.Words.{Row, Text, first_of}
use Rattle.ea_bytes.specs.Text.{number_of}

-- A number within its limits, both included.
abbrev pub within_limits : ℕ → ℕ → ℕ → Option ℕ
within_limits low high n = if nat_le low n && nat_le n high then Some n else None

-- The number of an option: the default if it isn't used, none if its text is no number or outside its limits.
abbrev pub number_in : ℕ → ℕ → ℕ → Option Text → Option ℕ
number_in default low high None = Some default
number_in default low high (Some text) = option_and_then (within_limits low high) (number_of text)

abbrev pub option_of : Text → ℕ → ℕ → ℕ → List Row → Option ℕ
option_of name default low high rows = number_in default low high (first_of name rows)

-- The number of an optional option.
abbrev pub number_if_given : ℕ → ℕ → Option Text → Option (Option ℕ)
number_if_given low high None = Some None
number_if_given low high (Some text) = option_map Some (option_and_then (within_limits low high) (number_of text))

abbrev pub chosen_of : Text → ℕ → ℕ → List Row → Option (Option ℕ)
chosen_of name low high rows = number_if_given low high (first_of name rows)

-- The meaning of the words yes and no, none of any other word.
abbrev pub yes_or_no_of : Text → Option Bool
yes_or_no_of text = if bytes_eq text (codes "yes") then Some true else (if bytes_eq text (codes "no") then Some false else None)

-- Yes or no of an optional option.
abbrev pub yes_or_no_if_given : Option Text → Option (Option Bool)
yes_or_no_if_given None = Some None
yes_or_no_if_given (Some text) = option_map Some (yes_or_no_of text)

abbrev pub chosen_yes_or_no_of : Text → List Row → Option (Option Bool)
chosen_yes_or_no_of name rows = yes_or_no_if_given (first_of name rows)

-- 1 if a text is given, else 0.
abbrev pub given : Option Text → ℕ
given None = 0
given (Some text) = 1

-- The first of two texts, if one is given.
abbrev pub either_of : Option Text → Option Text → Option Text
either_of (Some first) second = Some first
either_of None second = second

-- Whether a flag is set: clap gives it the text `true` then.
abbrev pub is_true : Option Text → Bool
is_true None = false
is_true (Some text) = bytes_eq text (codes "true")

abbrev pub is_given : Text → List Row → Bool
is_given name rows = is_true (first_of name rows)
