-- A text on its way to a device.
use Rattle.std.specs.Prelude.{ℕ, List, [], ◌++◌}

-- What is pending, how many bytes were sent, and how many calls were interrupted.
pub record Delivery : Type 0 where
  pub pending : List ℕ
  pub written : ℕ
  pub interruptions : ℕ

-- Nothing is pending.
abbrev pub all_sent : ℕ → ℕ → Delivery
all_sent written interruptions = record { pending = []; written = written; interruptions = interruptions }

-- More is pending.
abbrev pub with_more : Delivery → List ℕ → Delivery
with_more delivery more = record delivery { pending = delivery.pending ++ more }
