use Rattle.std.proofs.Common.{◌≡◌, ◌-◌, suc, arith, subst, take, tests}
use Rattle.std.proofs.lemmas.Grind.{common_steps}
use Rattle.ea_blocks.specs.Streams.{EndsLine}
use Rattle.ea_blocks.proofs.Cuts.{ends_line}
use Rattle.ea_blocks.proofs.pieces.end_of_lines.Goals as goal

pub returns-then-text-end-eq10-clause-ends : goal.returns-then-text-end-eq10-clause-ends
returns-then-text-end-eq10-clause-ends c =
    let back : suc (c.loop-end.end - 1) ≡ c.loop-end.end = omega (arith, c.loop-end-test.true) in
    subst (λ n. EndsLine (take n c.args.text.now)) back (ends_line c.args.text.now (c.loop-end.end - 1) (grind (arith, common_steps)) (grind (arith, tests, common_steps)))
