use Rattle.std.proofs.Common.{◌≡◌, ◌+◌, take}
use Rattle.ea_rank.specs.Tallies.{added}
use Rattle.ea_rank.proofs.tally.TallyRow.between.Given as goal

abbrev pub invariant-loop-place : goal.invariant-loop-place
invariant-loop-place l = added (take l.initial.place l.self) + l.sum ≡ added (take l.place l.self)
