use Rattle.std.proofs.Common.{◌≡◌, ℕ, ◌+◌, ◌-◌, ◌*◌, ◌%◌, ◌<◌, length, get_or}
use Rattle.std.specs.Prelude.{◌==◌, if◌then◌else◌}
use Rattle.ea_engine.specs.Homes.{IsWordAt}
use Rattle.ea_engine.proofs.worker.home_heaps.Homing.new.Given as goal

abbrev pub invariant-loop-place : goal.invariant-loop-place
invariant-loop-place g l = record {
  len : length l.words ≡ 8;
  own : (k : ℕ) → k < l.place → IsWordAt (l.workers * l.heaps) (if k % l.heaps == 0 then l.workers * l.heaps - l.heaps else 0) (l.worker * l.heaps + k % l.heaps) (get_or l.words k 0);
}
