use Rattle.std.proofs.Common.{◌≡◌, take}
use Rattle.ea_rank.proofs.Placing.{marks_from}
use Rattle.ea_rank.proofs.places.marks_of.Given as goal

-- the events so far have their marks, in order
abbrev pub invariant-loop-index : goal.invariant-loop-index
invariant-loop-index l = l.marks.items ≡ marks_from 0 (take l.index l.events)
