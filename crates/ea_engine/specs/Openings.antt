-- What is added to a worklist, and the seeds that wait in it.
use Rattle.std.specs.Prelude.{◌≡◌, ℕ, ◌+◌, ◌^◌, ◌<◌, ◌≤◌, List, length, Contains, IfSome}
use Rattle.ea_search.specs.Worklist.{Worklist}
use Rattle.ea_pool.specs.declared.heap.entry.Entry.{Entry}
use Rattle.ea_engine.specs.declared.worker.turn.Hand.{Hand}
use Rattle.ea_engine.specs.Worked.{hand_size}

-- At most this many nodes were opened, at least one waits if any waited or was opened, and nothing else
-- changed.
pub record OpensUpTo (count : ℕ) (before after : Worklist) : Type 0 where
  pub kept : (node : ℕ) → Contains before.waiting node → Contains after.waiting node
  pub few : length after.waiting ≤ length before.waiting + count
  pub some : 0 < length before.waiting + count → 0 < length after.waiting
  pub nodes_are : after.nodes ≡ before.nodes
  pub walks_are : after.walks ≡ before.walks

-- The node of each of these entries was opened.
pub record OpensAll (entries : List Entry) (before after : Worklist) : Type 0 where
  pub waits : (entry : Entry) → Contains entries entry → Contains after.waiting entry.node
  pub opens : OpensUpTo (length entries) before after

-- The node of each entry that a worker hands back was opened.
pub record OpensHand (hand : Hand) (before after : Worklist) : Type 0 where
  pub popped : IfSome hand.popped (λ entry. Contains after.waiting entry.node)
  pub taken : (entry : Entry) → Contains hand.taken.items entry → Contains after.waiting entry.node
  pub fresh : (entry : Entry) → Contains hand.fresh.items entry → Contains after.waiting entry.node
  pub opens : OpensUpTo (hand_size hand) before after

-- The node of each of these entries was opened, and they were counted.
pub record Drains (entries : List Entry) (before after : Worklist) (count : ℕ) : Type 0 where
  pub drained : OpensAll entries before after
  pub counted : count ≡ length entries

-- A worklist for this many nodes after this many seeds were handed back: at most as many nodes wait, and at
-- least one if there was any.
pub record HoldsBack (nodes back : ℕ) (todo : Worklist) : Type 0 where
  pub nodes_are : todo.nodes ≡ nodes
  pub back_few : back < 2 ^ 126
  pub few : length todo.waiting ≤ back
  pub some : 0 < back → 0 < length todo.waiting
