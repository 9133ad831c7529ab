use Rattle.std.proofs.Common.{List, ap, sym, ◌∙◌, subst, ℕ}
use Rattle.ea_pool.specs.declared.heap.entry.Entry.{Entry}
use Rattle.ea_pool.specs.Plays.{value_of}
use Rattle.ea_pool.specs.Pools.{AreInTime}
use Rattle.ea_pool.proofs.Batching.{in_time_left}
use Rattle.ea_pool.proofs.shared.pool.Pool.pop_some_in.Goals as goal

pub word-requires : goal.word-requires
word-requires g c =
    let held = c.requires.may.held in
    let same = ap (λ (l : List (ℕ × List Entry)). value_of l) (sym held.1 ∙ c.slot_mut-held.ensures.value) in
    in_time_left g.H.EntryHeap.kind c.pop_some.ensures.0 c.slot_mut-held.result.now c.pop_some.new.heap c.pop_some.ensures.2.taken (subst AreInTime same held.2)
