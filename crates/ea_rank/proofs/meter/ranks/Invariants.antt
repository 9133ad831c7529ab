use Rattle.std.proofs.Common.{◌≡◌, ◌≤◌, ℕ, List, drop, map}
use Rattle.ea_rank.specs.Places.{ArePlaces}
use Rattle.ea_rank.specs.Ranks.{key_of, after_ranks, errors_from, rank_errors}
use Rattle.ea_rank.specs.Tallies.{added}
use Rattle.ea_rank.proofs.Metering.{Tracks}
use Rattle.ea_rank.proofs.meter.ranks.Given as goal

-- the tally counts the keys of the queue, and the ranks so far are the first
abbrev pub invariant-loop-index : goal.invariant-loop-index
invariant-loop-index l = (queue : List ℕ) × (keys : List ℕ) × record {
  places : ArePlaces keys (map key_of l.recorded.events.items) l.places.of_events.items;
  tracks : Tracks keys queue l.tally;
  few : added l.tally ≤ l.index;
  so_far : rank_errors l.recorded.events.items ≡ after_ranks l.ranks.items (errors_from l.index queue (drop l.index l.recorded.events.items));
}
