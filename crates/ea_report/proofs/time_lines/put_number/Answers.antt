use Rattle.std.proofs.Common.{◌≡◌, ◌+◌, ◌-◌, ◌<◌, ◌∷◌, ap, arith, drop, length, ◌∙◌}
use Rattle.std.proofs.lemmas.Fmt.{length-decimal-le}
use Rattle.std.proofs.lemmas.List.{drop-set}
use Rattle.ea_report.proofs.time_lines.put_number.Goals as goal

pub write_digits-start-requires : goal.write_digits-start-requires
write_digits-start-requires c =
    (omega (arith, length-decimal-le 20 c.args.number (omega arith) (omega arith) c.ranges.number.fits, c.requires.0), c.requires.1)

pub overflow_sub-start : goal.overflow_sub-start
overflow_sub-start c = omega (arith, length-decimal-le 20 c.args.number (omega arith) (omega arith) c.ranges.number.fits, c.requires.0, c.write_digits-start.ensures.start)

pub returns-clause-start : goal.returns-clause-start
returns-clause-start c = omega (arith, length-decimal-le 20 c.args.number (omega arith) (omega arith) c.ranges.number.fits, c.requires.0, c.write_digits-start.ensures.start)

pub returns-clause-low : goal.returns-clause-low
returns-clause-low c = omega (arith, length-decimal-le 20 c.args.number (omega arith) (omega arith) c.ranges.number.fits, c.write_digits-start.ensures.start)

pub returns-clause-written : goal.returns-clause-written
returns-clause-written c =
    let text = c.write_digits-start.new.buf in
    let start = c.write_digits-start.result in
    let digits = length-decimal-le 20 c.args.number (omega arith) (omega arith) c.ranges.number.fits in
    let inside : start - 1 < length text = omega (arith, digits, c.requires.0, c.requires.1, c.write_digits-start.ensures.start, c.write_digits-start.auto.buf) in
    let next : start - 1 + 1 ≡ start = omega (arith, digits, c.requires.0, c.write_digits-start.ensures.start) in
    drop-set text (start - 1) 32 inside ∙ ap (λ n. 32 ∷ drop n text) next ∙ ap (λ rest. 32 ∷ rest) c.write_digits-start.ensures.written
