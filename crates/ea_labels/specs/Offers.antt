-- The outcome of an offer.
use Rattle.std.specs.Prelude.{◌≡◌, ℕ, ◌<◌, ◌≤◌}
use Rattle.ea_labels.specs.declared.offered.Offered.{Offered}
use Rattle.ea_labels.specs.declared.offered.Offered.TheVariants.{Lowered, Kept}
use Rattle.ea_labels.specs.declared.record.SeatRecord.{SeatRecord}
use Rattle.ea_labels.specs.Core.{IsNoneOrKnown, IsAtMostBounds, seen, lowered}

abbrev pub IfLowered : Offered → Type 0 → Type 0
IfLowered Lowered P = P
IfLowered (Kept time) P = Unit {0}

abbrev pub IfKept : Offered → (ℕ → Type 0) → Type 0
IfKept Lowered P = Unit {0}
IfKept (Kept time) P = P time

-- The seat lowered the word of the node from NONE or a known time, which was above the offered time and at
-- most each bound.
abbrev pub LowersWord : (ℕ → ℕ → Type 0) → SeatRecord → ℕ → ℕ → SeatRecord → Type 0
LowersWord known before node time after = (from : ℕ) × (time < from) × IsNoneOrKnown known node from × IsAtMostBounds before node from × (after ≡ lowered before node from time)

-- The word stayed: a known time, at most the offered time and at most each bound.
abbrev pub Keeps : (ℕ → ℕ → Type 0) → SeatRecord → ℕ → ℕ → ℕ → SeatRecord → Type 0
Keeps known before node time old after = known node old × (old ≤ time) × IsAtMostBounds before node old × (after ≡ seen before node old)
