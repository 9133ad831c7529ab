-- Readers that get a text block by block, and lines that wait for them.
use Rattle.std.specs.Prelude.{◌≡◌, ◌≤◌, ◌<◌, ◌+◌, ◌^◌, ℕ, List, [], ◌++◌, length, slice_range, take, Result}
use Rattle.ea_blocks.specs.Pieces.{AreRead, IsIdle, IsLaneOn}
use Rattle.ea_blocks.specs.Streams.{EndsLine, FeedsOn}
use Rattle.ea_blocks.specs.declared.fault.FaultKind.{FaultKind}
use Rattle.ea_blocks.specs.declared.feed.Fed.{Fed}
use Rattle.ea_blocks.specs.declared.feed.Feed.{Feed}

-- A reader was given the lines of a text.
abbrev pub WasGiven : {S T X : Type 0} → (S → List (List ℕ) → Result S FaultKind) → (T → S) → Fed T X → Fed T X → List ℕ → Type 0
WasGiven step state old new text = FeedsOn step (state old.reader) old.lines old.fault (state new.reader) new.lines new.fault text

-- A reader was given the lines of a text from one place to another, at which a line ends if one ended at the first.
pub record ReachesOn {S T X : Type 0} (step : S → List (List ℕ) → Result S FaultKind) (state : T → S) (old new : Fed T X) (text : List ℕ) (from to : ℕ) : Type 0 where
  pub onward : from ≤ to
  pub inside : to ≤ length text
  pub given : WasGiven step state old new (slice_range text from to)
  pub ends : EndsLine (take from text) → EndsLine (take to text)

-- What a reader was given and what waits for it is as it was.
pub record IsKept {S T X : Type 0} (state : T → S) (old new : Feed T X) : Type 0 where
  pub read : state new.fed.reader ≡ state old.fed.reader
  pub lines : new.fed.lines ≡ old.fed.lines
  pub fault : new.fed.fault ≡ old.fed.fault
  pub waiting : new.waiting ≡ old.waiting
  pub pieces : new.pieces ≡ old.pieces

-- The lines that wait for a reader may be given to it.
pub record CanSettle {S T X : Type 0} (step : S → List (List ℕ) → Result S FaultKind) (state : T → S) (IsAside : T → Type 0) (feed : Feed T X) : Type 0 where
  pub few : feed.fed.lines + length feed.waiting.items < 2 ^ 64
  pub read : AreRead step state IsAside feed.waiting.items feed.pieces.items

-- A reader was given the lines that waited for it, and pieces of a text were read in its lane.
pub record HasSettled {S T X : Type 0} (step : S → List (List ℕ) → Result S FaultKind) (state : T → S) (IsAside : T → Type 0) (text : List ℕ) (old new : Feed T X) : Type 0 where
  pub given : WasGiven step state old.fed new.fed old.waiting.items
  pub none : new.waiting.items ≡ []
  pub no_piece : new.pieces.items ≡ []
  pub lane : IsLaneOn step state IsAside text new.lane

-- A reader may take a block behind the lines that wait for it.
pub record CanTakeBlock {S T X : Type 0} (step : S → List (List ℕ) → Result S FaultKind) (state : T → S) (IsAside : T → Type 0) (feed : Feed T X) (block : List ℕ) : Type 0 where
  pub few : feed.fed.lines + (length feed.waiting.items + length block) < 2 ^ 64
  pub read : AreRead step state IsAside feed.waiting.items feed.pieces.items
  pub ends : EndsLine feed.waiting.items
  pub block_ends : EndsLine block
  pub idle : IsIdle IsAside feed.lane

-- A reader was given some of the lines that waited for it and of a block behind them. The others wait.
pub record TakesBlock {S T X : Type 0} (step : S → List (List ℕ) → Result S FaultKind) (state : T → S) (IsAside : T → Type 0) (old new : Feed T X) (block : List ℕ) : Type 0 where
  pub front : List ℕ
  pub cut : old.waiting.items ++ block ≡ front ++ new.waiting.items
  pub front_ends : EndsLine front
  pub ends : EndsLine new.waiting.items
  pub given : WasGiven step state old.fed new.fed front
  pub read : AreRead step state IsAside new.waiting.items new.pieces.items
  pub idle : IsIdle IsAside new.lane
