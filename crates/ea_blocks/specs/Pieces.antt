-- Texts that are read in pieces.
use Rattle.std.specs.Prelude.{◌≡◌, ℕ, ◌<◌, ◌≤◌, List, [], Bool, true, false, Result, Ok, length, slice_index_or, slice_range}
use Rattle.ea_blocks.specs.Reading.{ReadsAll, lines_after}
use Rattle.ea_blocks.specs.declared.fault.FaultKind.{FaultKind}
use Rattle.ea_blocks.specs.declared.pieces.Lane.{Lane}
use Rattle.ea_blocks.specs.declared.pieces.ReadPiece.{ReadPiece}

-- What a separate reader read was appended, as if its lines had been read here. Otherwise nothing changed.
abbrev pub IsTakenUp : {S T : Type 0} → (S → List (List ℕ) → Result S FaultKind) → (T → S) → (T → Type 0) → T → T → T → Bool → Type 0
IsTakenUp {S} {T} step state IsAside before aside after true =
    (start : T) (n m : ℕ) (lines : List (List (List ℕ))) → IsAside start → lines_after step n (state start) lines ≡ Ok (state aside)
    → lines_after step m (state before) lines ≡ Ok (state after)
IsTakenUp step state IsAside before aside after false = state after ≡ state before

-- A separate reader read the lines of a piece of a text, from one place of the text to another.
pub record WasRead {S T X : Type 0} (step : S → List (List ℕ) → Result S FaultKind) (state : T → S) (IsAside : T → Type 0) (text : List ℕ) (piece : ReadPiece T X) : Type 0 where
  pub some : piece.from < piece.to
  pub inside : piece.to ≤ length text
  pub start : T
  pub aside : IsAside start
  pub read : ReadsAll step state 0 start piece.reader (slice_range text piece.from piece.to) piece.read

-- The same of each piece.
abbrev pub AreRead : {S T X : Type 0} → (S → List (List ℕ) → Result S FaultKind) → (T → S) → (T → Type 0) → List ℕ → List (ReadPiece T X) → Type 0
AreRead {S} {T} {X} step state IsAside text pieces = (place : ℕ) (d : ReadPiece T X) → place < length pieces → WasRead step state IsAside text (slice_index_or pieces place d)

-- Each reader may begin a later piece.
abbrev pub AreAside : {T : Type 0} → (T → Type 0) → List T → Type 0
AreAside {T} IsAside readers = (place : ℕ) (d : T) → place < length readers → IsAside (slice_index_or readers place d)

-- What a thread reads with may begin later pieces, and what it read are pieces of a text.
pub record IsLaneOn {S T X : Type 0} (step : S → List (List ℕ) → Result S FaultKind) (state : T → S) (IsAside : T → Type 0) (text : List ℕ) (lane : Lane T X) : Type 0 where
  pub fresh : AreAside IsAside lane.fresh.items
  pub read : AreRead step state IsAside text lane.read.items

-- The same of several threads.
abbrev pub AreLanesOn : {S T X : Type 0} → (S → List (List ℕ) → Result S FaultKind) → (T → S) → (T → Type 0) → List ℕ → List (Lane T X) → Type 0
AreLanesOn {S} {T} {X} step state IsAside text lanes = (place : ℕ) (d : Lane T X) → place < length lanes → IsLaneOn step state IsAside text (slice_index_or lanes place d)

-- A thread may read pieces of any text: it has none yet.
pub record IsIdle {T X : Type 0} (IsAside : T → Type 0) (lane : Lane T X) : Type 0 where
  pub fresh : AreAside IsAside lane.fresh.items
  pub none : lane.read.items ≡ []

-- The same of several threads.
abbrev pub AreIdleIn : {T X : Type 0} → (T → Type 0) → List (Lane T X) → Type 0
AreIdleIn {T} {X} IsAside lanes = (place : ℕ) (d : Lane T X) → place < length lanes → IsIdle IsAside (slice_index_or lanes place d)
