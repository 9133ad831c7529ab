use Rattle.std.proofs.lemmas.List.{get_or_default}
use Rattle.std.specs.Prelude.{slice_index_or}
use Rattle.ea_road.specs.declared.target.Target.{Target}
use Rattle.ea_road.proofs.target.turned_targets.Goals as goal

pub turned-requires : goal.turned-requires
turned-requires c =
    let none : Target = record { node = 0; time = 0 } in
    let target = slice_index_or c.args.targets.now c.loop-target.target-index none in
    c.requires.within target (c.loop-target.target-index, (c.loop-target-test.true, get_or_default c.args.targets.now c.loop-target.target-index none target c.loop-target-test.true))
