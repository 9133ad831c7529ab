-- An option whose value is none of those that it may have.
use Rattle.std.specs.Prelude.{◌≡◌, None, option_and_then}
use Rattle.clap.specs.Words.{Text}
use Rattle.ea_bytes.specs.Text.{number_of}
use Rattle.ea_options.specs.Values.{within_limits, yes_or_no_of}
use Rattle.ea_options.specs.declared.bad_value.BadValue.{BadValue}
use Rattle.ea_options.specs.declared.bad_value.Allowed.{Allowed}
use Rattle.ea_options.specs.declared.bad_value.Allowed.TheVariants.{Number, YesOrNo}

abbrev pub IsOutside : Allowed → Text → Type 0
IsOutside (Number least most) text = option_and_then (within_limits least most) (number_of text) ≡ None
IsOutside YesOrNo text = yes_or_no_of text ≡ None

abbrev pub IsBad : BadValue → Type 0
IsBad bad = IsOutside bad.allowed bad.value.now
