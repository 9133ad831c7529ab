use Rattle.std.proofs.Common.{arith}
use Rattle.std.proofs.lemmas.Bool.Decides.{Decides-eqb}
use Rattle.std.proofs.lemmas.Slice.Eq.{slice_eq-Decides}
use Rattle.ea_check.proofs.SharedTexts.{front_more}
use Rattle.ea_check.proofs.form.shared_text.shared_front.Goals as goal

pub pieces-preserved : goal.pieces-preserved
pieces-preserved c =
    let here = (slice_eq-Decides Decides-eqb _ _ c.eq.result c.eq.ensures).0 c.if-eq.true in
    record {
      least = c.pieces.invariant.least;
      also = c.pieces.invariant.also;
      inside = omega (arith, c.pieces-test.true);
      same = front_more c.args.text.now c.args.other.now c.pieces.len 32 c.pieces.invariant.same here;
    }
