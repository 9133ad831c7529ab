use Rattle.std.proofs.Common.{◌<◌, arith, length, refl, ◌∙◌}
use Rattle.std.proofs.lemmas.List.{length-set}
use Rattle.ea_blocks.specs.Pieces.{IsIdle, IsLaneOn}
use Rattle.ea_blocks.proofs.Rows.{set_back, set_front}
use Rattle.ea_blocks.proofs.pieces.gather_all.Goals as goal

pub loop-place-init : goal.loop-place-init
loop-place-init g c = record { idle = λ at d lt. absurd (omega (arith, lt)); left = λ at d from lt. c.requires.lanes at d lt; same = refl; read = c.requires.read }

pub gather-requires-clause-lane : goal.gather-requires-clause-lane
gather-requires-clause-lane g c κs within =
    c.loop-place.invariant.left c.loop-place.place _ (omega arith) (omega (arith, c.loop-place-test.true, c.loop-place.invariant.same))

pub loop-place-preserved : goal.loop-place-preserved
loop-place-preserved g c =
    let lanes = c.loop-place.lanes in
    let inside : c.loop-place.place < length lanes = omega (arith, c.loop-place-test.true, c.loop-place.invariant.same) in
    record {
      idle = set_front (IsIdle g.R.BlockReader.IsAside) lanes c.loop-place.place c.gather.new.lane c.loop-place.invariant.idle c.gather.ensures.idle inside;
      left = set_back (IsLaneOn g.R.LineReader.step g.R.LineReader.state g.R.BlockReader.IsAside c.args.text.now) lanes c.loop-place.place c.gather.new.lane
          (λ at d from lt. c.loop-place.invariant.left at d from lt);
      same = length-set lanes c.loop-place.place c.gather.new.lane ∙ c.loop-place.invariant.same;
      read = c.gather.ensures.read;
    }
