use Rattle.std.proofs.Common.{◌≡◌, drop}
use Rattle.ea_bytes.specs.Text.{fields_of}
use Rattle.ea_bytes.proofs.field.skip_blanks.Given as goal

abbrev pub invariant-loop-i : goal.invariant-loop-i
invariant-loop-i l = fields_of (drop l.i l.line) ≡ fields_of l.line
