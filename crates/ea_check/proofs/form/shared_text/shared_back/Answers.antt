use Rattle.std.proofs.Common.{arith}
use Rattle.std.proofs.lemmas.Bool.Decides.{Decides-eqb}
use Rattle.std.proofs.lemmas.Slice.Eq.{slice_eq-Decides}
use Rattle.ea_check.proofs.SharedTexts.{back_longer}
use Rattle.ea_check.proofs.form.shared_text.shared_back.Goals as goal

pub pieces-preserved : goal.pieces-preserved
pieces-preserved c =
    let here = (slice_eq-Decides Decides-eqb _ _ c.eq.result c.eq.ensures).0 c.if-eq.true in
    let was = c.pieces.invariant in
    record {
      least = was.least;
      also = was.also;
      inside = omega (arith, c.pieces-test.true);
      same = back_longer c.args.text.now c.args.other.now c.pieces.len 32 (omega (arith, c.pieces-test.true, was.least, was.inside)) (omega (arith, c.pieces-test.true, was.also, was.inside)) was.same here;
    }
