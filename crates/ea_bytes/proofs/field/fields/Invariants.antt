use Rattle.std.proofs.Common.{◌≡◌, ◌≤◌, ◌++◌, map, length}
use Rattle.ea_bytes.specs.Text.{fields_of}
use Rattle.ea_bytes.proofs.field.fields.Given as goal

abbrev pub invariant-loop-rest : goal.invariant-loop-rest
invariant-loop-rest l = record {
  found : map (λ field. field.now) l.fields.items ++ fields_of l.rest ≡ fields_of l.line;
  few : length l.fields.items ≤ 7;
  inline : l.fields.capacity ≡ 8;
}

abbrev pub decreases-loop-rest : goal.decreases-loop-rest
decreases-loop-rest l = length l.rest
