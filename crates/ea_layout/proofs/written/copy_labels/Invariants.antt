use Rattle.std.proofs.Common.{◌≡◌, ℕ, ◌-◌, ◌<◌, get_or, length}
use Rattle.ea_layout.proofs.written.copy_labels.Given as goal

abbrev pub invariant-loop-slot : goal.invariant-loop-slot
invariant-loop-slot l = record {
  many : length l.labels ≡ length l.places;
  each : (at : ℕ) → at < l.slot → get_or l.labels at 0 ≡ get_or l.laid (get_or l.places at 0 - 1) 0;
}
