use Rattle.std.proofs.Common.{◌∙◌}
use Rattle.ea_paths.proofs.level_updates.pass_to_heads.Goals as goal

pub loop-arc-preserved : goal.loop-arc-preserved
loop-arc-preserved c =
    let before = c.loop-arc.invariant in
    let passes = c.pass_to_head.ensures in
    record {
      places = record { places = passes.places.places ∙ before.places.room; room = passes.places.room ∙ before.places.room };
      stay = λ roads sources table notes begun. passes.done c.if-not-pass_to_head.false roads sources table notes (before.stay roads sources table notes begun);
    }
