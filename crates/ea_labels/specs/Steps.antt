-- The label table as an `atomic_table`, and what each step says.
use Rattle.std.specs.Prelude.{◌≡◌, ℕ, ◌<◌, ◌≤◌, ◌⊎◌, ◌∷◌}
use Rattle.atomic_table.specs.Table.{State, Me, Step}
use Rattle.ea_base.specs.declared.limits.TheConstants.{SHARES}
use Rattle.ea_road.specs.declared.TheConstants.{NONE}
use Rattle.ea_labels.specs.declared.record.SeatRecord.{SeatRecord}
use Rattle.ea_labels.specs.Core.{IsNoneOrKnown, HasLowered, IsAtMostBounds, seen, lowered}
use Rattle.ea_labels.specs.Events.{Core, IsReached}

-- The words are the seat word and those of the nodes; a run leads to these and to the records of the seats.
pub record IsLabelState (known : ℕ → ℕ → Type 0) (nodes : ℕ) (s : State (Unit {0}) SeatRecord) : Type 0 where
  pub seat_word : ℕ
  pub core : Core
  pub reached : IsReached known nodes core
  pub words : s.words ≡ seat_word ∷ core.words
  pub seats : s.views ≡ core.seats

abbrev Place : Type 0
Place = Me (Unit {0}) SeatRecord

-- A word is NONE or known, and at most each bound of the seat that finds it. If that seat has all shares, the
-- word is NONE or one of its lowerings.
abbrev pub finds : (ℕ → ℕ → Type 0) → SeatRecord → ℕ → ℕ → Type 0
finds known seat node found =
    IsNoneOrKnown known node found × IsAtMostBounds seat node found × (seat.shares ≡ SHARES → (found ≡ NONE) ⊎ HasLowered seat node found)

-- A load finds a word.
abbrev pub loads : (ℕ → ℕ → Type 0) → Step (Unit {0}) → Place → ℕ → Place → Type 0
loads known st before found after =
    (after ≡ (seen before.0 st.word found, before.1)) × finds known before.0 st.word found

-- A fetch_min lowers the word if it was above the operand.
abbrev pub lowers : (ℕ → ℕ → Type 0) → Step (Unit {0}) → Place → ℕ → Place → Type 0
lowers known st before found after =
    (st.first < found → after ≡ (lowered before.0 st.word found st.first, before.1))
    × (found ≤ st.first → after ≡ (seen before.0 st.word found, before.1))
    × finds known before.0 st.word found

-- No seat has more shares than exist.
abbrev pub counts_shares : Step (Unit {0}) → Place → ℕ → Place → Type 0
counts_shares st before found after = (after ≡ before) × (before.0.shares ≤ SHARES)
