-- Windows of times, by which queues distinguish earlier from later times.
use Rattle.std.specs.Prelude.{◌≡◌, ℕ, ◌+◌, ◌*◌, ◌^◌, ◌<◌, ◌≤◌}

-- A mask of low bits: the number of its values is a power of two between half of the width and the width; no
-- bit if the width is 0.
pub record AreWindowBits (width bits : ℕ) : Type 0 where
  pub none : width ≡ 0 → bits ≡ 0
  pub some : 0 < width → (k : ℕ) × (bits + 1 ≡ 2 ^ k) × (2 ^ k ≤ width) × (width < 2 * 2 ^ k)
