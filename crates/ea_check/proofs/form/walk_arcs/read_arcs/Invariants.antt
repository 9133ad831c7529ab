use Rattle.std.proofs.Common.{◌≡◌, ◌++◌, length}
use Rattle.ea_bytes.specs.Text.{fields_of}
use Rattle.ea_check.specs.Form.{arcs_of}
use Rattle.ea_check.proofs.form.walk_arcs.read_arcs.Given as goal

-- The arcs so far and those of the rest are those of the text.
abbrev pub invariant-loop-arc : goal.invariant-loop-arc
invariant-loop-arc l = l.arcs.items ++ arcs_of (fields_of l.rest) ≡ arcs_of (fields_of l.text)

abbrev pub decreases-loop-arc : goal.decreases-loop-arc
decreases-loop-arc l = length l.rest
