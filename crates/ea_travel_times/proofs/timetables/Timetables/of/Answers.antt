use Rattle.std.proofs.Common.{◌∙◌, arith}
use Rattle.std.proofs.lemmas.List.{take_all}
use Rattle.ea_travel_times.proofs.Lists.{more_taken}
use Rattle.ea_travel_times.proofs.timetables.Timetables.of.Goals as goal

pub loop-kind-preserved : goal.loop-kind-preserved
loop-kind-preserved c =
    c.in_ok-push.ensures.items ∙ more_taken c.args.kinds.now c.loop-kind.kind-index _ _ c.loop-kind.invariant c.loop-kind-test.true

pub new-requires : goal.new-requires
new-requires c =
    let whole = c.loop-kind.invariant ∙ take_all c.loop-kind.kind-index c.args.kinds.now (omega arith) in
    rw whole c.requires

pub returns : goal.returns
returns c =
    let whole = c.loop-kind.invariant ∙ take_all c.loop-kind.kind-index c.args.kinds.now (omega arith) in
    (c.new.ensures.kinds ∙ whole, c.new.ensures.steps)
