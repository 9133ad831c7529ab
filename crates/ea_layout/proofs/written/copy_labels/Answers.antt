use Rattle.std.proofs.Common.{arith}
use Rattle.ea_layout.proofs.Places.{labels_copied, node_at}
use Rattle.ea_layout.proofs.written.copy_labels.Goals as goal

pub overflow_sub-labels : goal.overflow_sub-labels
overflow_sub-labels c =
    let lengths = c.requires.lengths in
    let is = node_at _ c.args.places.now c.loop-slot.slot c.requires.inside (omega (arith, lengths.1)) in
    is.from_one

pub bounds-laid-places : goal.bounds-laid-places
bounds-laid-places c =
    let lengths = c.requires.lengths in
    let is = node_at _ c.args.places.now c.loop-slot.slot c.requires.inside (omega (arith, lengths.1)) in
    let low = is.from_one in
    let high = is.to_last in
    omega (arith, low, high, lengths.0)

pub returns : goal.returns
returns c =
    let lengths = c.requires.lengths in
    labels_copied _ c.args.places.now c.args.laid.now c.loop-slot.labels c.loop-slot.invariant.many (λ at low. c.loop-slot.invariant.each at (omega (arith, low, lengths.1)))
