use Rattle.std.proofs.Common.{◌≤◌, map}
use Rattle.ea_rank.specs.Ranks.{key_of}
use Rattle.ea_rank.proofs.Placing.{Numbered}
use Rattle.ea_rank.proofs.places.places_of.Given as goal

-- the marks so far have their places
abbrev pub invariant-loop-mark : goal.invariant-loop-mark
invariant-loop-mark l = record {
  numbered : Numbered (map key_of l.events) l.mark-items l.mark-index l.of_events.items l.place l.last;
  few : l.place ≤ l.mark-index;
}
