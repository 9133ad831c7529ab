use Rattle.std.proofs.Common.{arith, ◌≡◌, map, length}
use Rattle.std.proofs.lemmas.Grind.{common_steps}
use Rattle.ea_bytes.proofs.Cutting.{front_of}
use Rattle.ea_bytes.proofs.field.fields.Goals as goal

pub returns-after-loop-rest : goal.returns-after-loop-rest
returns-after-loop-rest c =
    let n : length c.loop-rest.fields.items ≡ 7 = omega arith in
    front_of (map (λ field. field.now) c.loop-rest.fields.items) _ _ 7 (grind (arith, common_steps)) c.loop-rest.invariant.found
