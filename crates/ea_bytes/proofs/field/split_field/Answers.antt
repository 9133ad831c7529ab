use Rattle.std.proofs.Common.{arith, ◌<◌}
use Rattle.std.proofs.lemmas.Grind.{common_steps}
use Rattle.std.proofs.Math.Numerals.{add-one}
use Rattle.ea_bytes.proofs.Cutting.{field_at, field_end, not_at_start}
use Rattle.ea_bytes.proofs.field.split_field.Goals as goal

pub returns-then-is_blank-clause-cut : goal.returns-then-is_blank-clause-cut
returns-then-is_blank-clause-cut c =
    let some : 0 < c.loop-i.i = not_at_start c.args.line.now c.loop-i.i c.requires.start (cc) in
    let e = field_at c.args.line.now c.loop-i.i some (omega arith) (cc) c.loop-i.invariant in
    rw add-one (grind (arith, common_steps))

pub returns-clause-cut : goal.returns-clause-cut
returns-clause-cut c =
    let e = field_end c.args.line.now (omega arith) (λ k h. c.loop-i.invariant k (omega arith)) in
    grind (arith, common_steps)
