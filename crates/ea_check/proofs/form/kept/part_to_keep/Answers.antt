use Rattle.ea_check.proofs.KeptLines.{own_after}
use Rattle.ea_check.proofs.form.kept.part_to_keep.Goals as goal

pub returns : goal.returns
returns c = own_after c.args.walk.way c.args.walk.arcs.now c.args.kept.now c.last_text.result.now _ _ c.last_text.ensures c.own_part.ensures
