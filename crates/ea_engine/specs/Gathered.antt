-- What is known of seats during a run, if the node of each entry that was handed back waits.
use Rattle.std.specs.Prelude.{◌≡◌, ℕ, List, ◌++◌, Contains}
use Rattle.ea_search.specs.Worklist.{Worklist}
use Rattle.ea_labels.specs.declared.record.SeatRecord.{SeatRecord}
use Rattle.ea_pool.specs.declared.heap.entry.Entry.{Entry}
use Rattle.ea_pool.specs.declared.shared.account.Account.{Account}
use Rattle.ea_engine.specs.declared.worker.means.Seats.{Seats}
use Rattle.ea_engine.specs.declared.worker.turn.Hand.{Hand}
use Rattle.ea_engine.specs.Problems.{Problem}
use Rattle.ea_engine.specs.Closed.{IsClosedAccount}
use Rattle.ea_engine.specs.Seated.{Tables, AreSeatsOf}
use Rattle.ea_engine.specs.Worked.{back_of}

pub record IsGathered
    (problem : Problem)
    (history : SeatRecord)
    (account : Account)
    (waiting : List ℕ)
    : Type 0 where
  pub back : List Entry
  pub refused : List Entry
  pub closed : IsClosedAccount problem history account back refused
  pub waits : (entry : Entry) → Contains (back ++ refused) entry → Contains waiting entry.node

-- The seats were made by these tables, and a worklist for this many nodes has what they don't account for.
pub record AccountForAll {K E : Type 0} (problem : Problem) (tables : Tables) (nodes : ℕ) (seats : Seats K E) (todo : Worklist) : Type 0 where
  pub fit : AreSeatsOf tables seats.label_seat seats.pool_seat
  pub gathered : IsGathered problem seats.label_seat.history seats.pool_seat.account todo.waiting
  pub nodes_are : todo.nodes ≡ nodes

-- The same before the nodes of a worker's hand wait.
pub record IsHanded
    (problem : Problem)
    (history : SeatRecord)
    (account : Account)
    (hand : Hand)
    (waiting : List ℕ)
    : Type 0 where
  pub back : List Entry
  pub refused : List Entry
  pub closed : IsClosedAccount problem history account (back ++ back_of hand) (refused ++ hand.fresh.items)
  pub waits : (entry : Entry) → Contains (back ++ refused) entry → Contains waiting entry.node
