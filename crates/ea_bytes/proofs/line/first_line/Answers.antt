use Rattle.std.proofs.Common.{◌<◌, length, arith}
use Rattle.std.proofs.lemmas.Grind.{common_steps}
use Rattle.std.proofs.Math.Numerals.{add-one}
use Rattle.ea_bytes.proofs.Cutting.{feed_at, lines_at, lines_end, no_feed}
use Rattle.ea_bytes.proofs.line.first_line.Goals as goal

pub returns-in-Some-clause-cut : goal.returns-in-Some-clause-cut
returns-in-Some-clause-cut c =
    let inside : c.in-Some.i < length c.args.text.now = c.in-Some.ensures.0.high in
    let e = lines_at c.args.text.now c.in-Some.i inside (feed_at c.args.text.now c.in-Some.i c.in-Some.ensures.1) (λ k h. no_feed c.args.text.now k (c.in-Some.ensures.0.before k (omega arith) h)) in
    rw add-one (grind (arith, common_steps))

pub returns-in-None-clause-cut : goal.returns-in-None-clause-cut
returns-in-None-clause-cut c =
    let e = lines_end c.args.text.now (omega arith) (λ k h. no_feed c.args.text.now k (c.in-None.ensures k (omega arith) (omega arith))) in
    grind (arith, common_steps)
