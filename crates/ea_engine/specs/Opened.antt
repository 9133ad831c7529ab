-- From the joined seats of all workers and the two closed tables to the open nodes.
use Rattle.std.specs.Prelude.{◌≢◌, ℕ, ◌<◌, List, [], ◌∷◌, ◌++◌, Contains, ◌⊎◌}
use Rattle.std.specs.List.{IsAmong}
use Rattle.ea_road.specs.declared.TheConstants.{NONE}
use Rattle.ea_road.specs.declared.source.Source.{Source}
use Rattle.ea_road.specs.Roads.{IsNode}
use Rattle.ea_road.specs.Labels.{label_of, limit, Satisfies}
use Rattle.ea_search.specs.Underway.{IsUnderway}
use Rattle.ea_labels.specs.declared.record.SeatRecord.{SeatRecord}
use Rattle.ea_labels.specs.Core.{IsLawful}
use Rattle.ea_pool.specs.declared.heap.entry.Entry.{Entry}
use Rattle.ea_pool.specs.declared.shared.account.Account.{Account}
use Rattle.ea_pool.specs.Entries.{SameEntries}
use Rattle.ea_engine.specs.Problems.{Problem}
use Rattle.ea_engine.specs.Closed.{entry_at, IsReachedBy, IsClosedAccount}

-- All seats are joined to one record and one account, and both tables are closed: a table of labels, and the
-- entries that are left. Workers handed back popped entries; workers and the seeding handed back refused
-- ones.
pub record AreJoinedAndClosed
    (known : ℕ → ℕ → Type 0)
    (problem : Problem)
    (table : List ℕ)
    (history : SeatRecord)
    (account : Account)
    (left back refused : List Entry)
    : Type 0 where
  pub labels : IsLawful known problem.network.nodes table (history ∷ [])
  pub entries : SameEntries account.pushed (account.popped ++ left)
  pub closed : IsClosedAccount problem history account back refused

-- Each labelled node is satisfied, or its entry was left or handed back, or its label is above the limit.
abbrev pub NothingOpenIsLost : (ℕ → ℕ → Type 0) → Problem → Type 0
NothingOpenIsLost known problem =
    (table : List ℕ) (history : SeatRecord) (account : Account) (left back refused : List Entry)
    → AreJoinedAndClosed known problem table history account left back refused
    → (node : ℕ) → IsNode problem.network.nodes node → label_of table node ≢ NONE
    → Satisfies problem.network problem.answers (label_of table) node (label_of table node)
    ⊎ Contains (left ++ back ++ refused) (entry_at (label_of table node) node)
    ⊎ (limit problem.query.target (label_of table) < label_of table node)

-- Each source was offered.
abbrev pub AreOffered : List Source → SeatRecord → Type 0
AreOffered sources history = (source : Source) → IsAmong sources source → IsReachedBy history.bounds source.node source.departure

-- The finishing pass may begin if the node of each entry that was left or handed back waits.
abbrev pub FinishMayBegin : (ℕ → ℕ → Type 0) → Problem → Type 0
FinishMayBegin known problem =
    (table : List ℕ) (history : SeatRecord) (account : Account) (left back refused : List Entry) (waiting : List ℕ)
    → AreJoinedAndClosed known problem table history account left back refused
    → AreOffered problem.query.sources history
    → ((entry : Entry) → Contains (left ++ back ++ refused) entry → Contains waiting entry.node)
    → IsUnderway problem.network problem.answers problem.query table waiting
