use Rattle.std.proofs.Common.{◌∙◌}
use Rattle.ea_paths.proofs.level_updates.pass_on_all.Goals as goal

pub passing-preserved : goal.passing-preserved
passing-preserved c =
    let before = c.passing.invariant in
    let passes = c.pass_to_heads.ensures in
    record {
      places = record { places = passes.places.places ∙ before.places.room; room = passes.places.room ∙ before.places.room };
      stay = λ roads sources table notes begun. passes.done c.if-not-pass_to_heads.false roads sources table notes (before.stay roads sources table notes begun);
    }
