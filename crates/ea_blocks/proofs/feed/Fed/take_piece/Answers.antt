use Rattle.std.proofs.Common.{◌≡◌, ◌-◌, suc, arith, subst, take}
use Rattle.ea_blocks.specs.Streams.{EndsLine}
use Rattle.ea_blocks.proofs.Cuts.{ends_line}
use Rattle.ea_blocks.proofs.feed.Fed.take_piece.Goals as goal

pub returns : goal.returns
returns g c =
    let text = c.args.text.now in
    let to = c.args.piece.to in
    let read = c.requires.read in
    let back : suc (to - 1) ≡ to = omega (arith, read.some) in
    record {
      onward = omega (arith, read.some, c.if-from-at.false);
      inside = read.inside;
      given = c.take_up.ensures;
      ends = λ _. subst (λ n. EndsLine (take n text)) back (ends_line text (to - 1) (omega (arith, read.some, read.inside)) c.if-text-to-ne10.false);
    }
