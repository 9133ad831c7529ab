use Rattle.std.proofs.Common.{◌≡◌, List, ℕ, refl, subst}
use Rattle.std.specs.List.{flat_map}
use Rattle.ea_messages.specs.Said.{IsSaid, check_line}
use Rattle.ea_messages.proofs.outcome_lines.put_verdict.Goals as goal

pub returns : goal.returns
returns g c =
    let first = g.W.Device.seen c.args.out.now in
    let now = g.W.Device.seen c.put.new.out in
    let text : flat_map (λ piece. piece.now) c.as_slice-5.result.now ≡ check_line c.args.number c.args.name.now c.args.line = rw (c.as_slice-5.ensures, c.as_slice.ensures, c.as_bytes.ensures.value, c.format.ensures.text, c.as_slice-2.ensures, c.as_bytes-2.ensures.value, c.as_slice-3.ensures, c.as_bytes-3.ensures.value, c.format-2.ensures.text, c.as_slice-4.ensures) refl in
    subst (λ (t : List ℕ). IsSaid t first now) text c.put.ensures
