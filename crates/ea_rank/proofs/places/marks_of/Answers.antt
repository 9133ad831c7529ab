use Rattle.std.proofs.Common.{ap, ◌∙◌}
use Rattle.std.proofs.lemmas.List.{take_all}
use Rattle.ea_rank.specs.declared.event.Event.TheVariants.{Push}
use Rattle.ea_rank.proofs.Placing.{marks_from, marks_more, are_marks}
use Rattle.ea_rank.proofs.places.marks_of.Goals as goal

pub loop-index-init : goal.loop-index-init
loop-index-init c = c.in_ok-marks.ensures.items

pub loop-index-preserved : goal.loop-index-preserved
loop-index-preserved c =
    c.in_ok-push.ensures.items ∙ marks_more c.args.events.now c.loop-index.index (Push 0) c.key.result c.loop-index.marks.items c.loop-index-test.true c.key.ensures c.loop-index.invariant

pub returns : goal.returns
returns c =
    are_marks c.args.events.now c.loop-index.marks.items c.sort_unstable.new.self.items
    (c.loop-index.invariant ∙ ap (marks_from 0) (take_all c.loop-index.index c.args.events.now c.loop-index-test.false))
    c.sort_unstable.ensures.permutation c.sort_unstable.ensures.sorted
