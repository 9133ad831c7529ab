use Rattle.std.proofs.Common.{◌≡◌, ◌≢◌, ℕ, ◌<◌, ◌≤◌, length}
use Rattle.ea_layout.specs.Renamed.{number_of}
use Rattle.ea_layout.proofs.order.Order.place_rest.Given as goal

abbrev pub invariant-loop-place : goal.invariant-loop-place
invariant-loop-place l = record {
  length : length l.self.places ≡ length l.initial.self.places;
  placed : (node : ℕ) → 0 < node → node ≤ l.place → number_of l.self.places node ≢ 0;
}
