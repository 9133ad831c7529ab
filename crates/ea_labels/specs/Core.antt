-- The label table as plain data: a word for each node and a record for each seat; and when these are
-- consistent.
use Rattle.std.specs.Prelude.{◌≡◌, ℕ, ◌+◌, ◌-◌, ◌<◌, ◌≤◌, ◌==◌, ◌&&◌, ◌⊎◌, if◌then◌else◌, List, [], ◌∷◌, ◌++◌, length, All, Any}
use Rattle.ea_machine.specs.Totals.{total}
use Rattle.atomic_table.specs.Seated.{TableId}
use Rattle.ea_road.specs.declared.TheConstants.{NONE}
use Rattle.ea_road.specs.Labels.{label_of}
use Rattle.ea_road.specs.Roads.{IsNode}
use Rattle.ea_base.specs.declared.limits.TheConstants.{SHARES}
use Rattle.ea_labels.specs.declared.record.Bound.{Bound}
use Rattle.ea_labels.specs.declared.record.Lowering.{Lowering}
use Rattle.ea_labels.specs.declared.record.SeatRecord.{SeatRecord}

-- A label table in contracts: its identity and its number of nodes.
pub record TableView : Type 0 where
  pub table : TableId
  pub nodes : ℕ

-- A seat in contracts: the table that made it, and its record.
pub record SeatView : Type 0 where
  pub table : TableId
  pub history : SeatRecord

abbrev pub bound : ℕ → ℕ → Bound
bound node time = record { node = node; time = time }

abbrev pub lowering : ℕ → ℕ → ℕ → Lowering
lowering node from to = record { node = node; from = from; to = to }

-- The time is NONE, or known for the node.
abbrev pub IsNoneOrKnown : (ℕ → ℕ → Type 0) → ℕ → ℕ → Type 0
IsNoneOrKnown known node time = (time ≡ NONE) ⊎ known node time

-- The time is at most each bound of the node in the record.
abbrev pub IsAtMostBounds : SeatRecord → ℕ → ℕ → Type 0
IsAtMostBounds seat node time = All (λ b. b.node ≡ node → time ≤ b.time) seat.bounds

-- THE STEPS, by what they do to a record

-- A new table's first seat.
abbrev pub first_record : SeatRecord
first_record = record { shares = SHARES; bounds = []; lowerings = [] }

-- The seat found this word at the node.
abbrev pub seen : SeatRecord → ℕ → ℕ → SeatRecord
seen seat node time = record { shares = seat.shares; bounds = bound node time ∷ seat.bounds; lowerings = seat.lowerings }

-- The seat lowered the word of the node from one value to another.
abbrev pub lowered : SeatRecord → ℕ → ℕ → ℕ → SeatRecord
lowered seat node from to = record { shares = seat.shares; bounds = bound node to ∷ seat.bounds; lowerings = lowering node from to ∷ seat.lowerings }

-- A split: the seat that gives a share.
abbrev pub with_one_share_less : SeatRecord → SeatRecord
with_one_share_less seat = record { shares = seat.shares - 1; bounds = seat.bounds; lowerings = seat.lowerings }

-- A split: the new seat, with the same bounds and no lowering.
abbrev pub with_one_share : SeatRecord → SeatRecord
with_one_share seat = record { shares = 1; bounds = seat.bounds; lowerings = [] }

-- A join: the seat gains all that the other had.
abbrev pub joined : SeatRecord → SeatRecord → SeatRecord
joined seat other = record { shares = seat.shares + other.shares; bounds = other.bounds ++ seat.bounds; lowerings = other.lowerings ++ seat.lowerings }

-- A join: the other is no longer live.
abbrev pub spent : SeatRecord
spent = record { shares = 0; bounds = []; lowerings = [] }

-- THE LAW

-- The seat's record has a lowering of the node to this time.
abbrev pub HasLowered : SeatRecord → ℕ → ℕ → Type 0
HasLowered seat node time = Any (λ l. (l.node ≡ node) × (l.to ≡ time)) seat.lowerings

-- Some seat's record has one.
abbrev pub IsLoweredTo : List SeatRecord → ℕ → ℕ → Type 0
IsLoweredTo seats node time = Any (λ seat. HasLowered seat node time) seats

abbrev pub IsNoneOrLoweredTo : List SeatRecord → ℕ → ℕ → Type 0
IsNoneOrLoweredTo seats node time = (time ≡ NONE) ⊎ IsLoweredTo seats node time

-- 1 for a lowering of the node that begins at this value, and 0 for others.
abbrev pub begins_at : ℕ → ℕ → Lowering → ℕ
begins_at node from l = if (l.node == node) && (l.from == from) then 1 else 0

-- How many lowerings of the node begin at this value, over all seats.
abbrev pub count_from : List SeatRecord → ℕ → ℕ → ℕ
count_from seats node from = total (λ seat. total (begins_at node from) seat.lowerings) seats

-- The bound still holds, and is not made up.
pub record IsLawfulBound (nodes : ℕ) (words : List ℕ) (seats : List SeatRecord) (b : Bound) : Type 0 where
  pub of_node : IsNode nodes b.node
  pub above_word : label_of words b.node ≤ b.time
  pub comes_from : IsNoneOrLoweredTo seats b.node b.time

-- The lowering is to a known time, from NONE or from the end of another lowering, and the word is no higher.
pub record IsLawfulLowering (known : ℕ → ℕ → Type 0) (nodes : ℕ) (words : List ℕ) (seats : List SeatRecord) (l : Lowering) : Type 0 where
  pub of_node : IsNode nodes l.node
  pub falls : l.to < l.from
  pub above_word : label_of words l.node ≤ l.to
  pub comes_from : IsNoneOrLoweredTo seats l.node l.from
  pub is_known : known l.node l.to

-- A live seat has a share. A seat that was joined into another stays in the list as `spent`.
pub record IsLawfulSeat (known : ℕ → ℕ → Type 0) (nodes : ℕ) (words : List ℕ) (seats : List SeatRecord) (seat : SeatRecord) : Type 0 where
  pub bounds : All (IsLawfulBound nodes words seats) seat.bounds
  pub lowerings : All (IsLawfulLowering known nodes words seats) seat.lowerings
  pub live_or_spent : (1 ≤ seat.shares) ⊎ (seat ≡ spent)

-- The words and the records of all seats are consistent: nothing is made up, no two lowerings of a node begin
-- at one value, and no share is lost.
pub record IsLawful (known : ℕ → ℕ → Type 0) (nodes : ℕ) (words : List ℕ) (seats : List SeatRecord) : Type 0 where
  pub one_word_per_node : length words ≡ nodes
  pub words_come_from : (node : ℕ) → IsNode nodes node → IsNoneOrLoweredTo seats node (label_of words node)
  pub each_seat : All (IsLawfulSeat known nodes words seats) seats
  pub lowerings_differ : (node from : ℕ) → count_from seats node from ≤ 1
  pub shares_add_up : total (λ seat. seat.shares) seats ≡ SHARES
