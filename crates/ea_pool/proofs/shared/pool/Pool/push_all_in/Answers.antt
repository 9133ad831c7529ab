use Rattle.std.proofs.Common.{List, ◌++◌, ap, sym, ◌∙◌, subst, ℕ}
use Rattle.ea_pool.specs.declared.heap.entry.Entry.{Entry}
use Rattle.ea_pool.specs.Plays.{value_of}
use Rattle.ea_pool.specs.Pools.{AreInTime}
use Rattle.ea_pool.proofs.Batching.{in_time_after}
use Rattle.ea_pool.proofs.shared.pool.Pool.push_all_in.Goals as goal

pub word-requires : goal.word-requires
word-requires g c =
    let held = c.requires.may.held in
    let same = ap (λ (l : List (ℕ × List Entry)). value_of l) (sym held.1 ∙ c.slot_mut-held.ensures.value) in
    in_time_after c.args.batch.now.items c.push_all-all.new.batch.items c.slot_mut-held.result.now c.push_all-all.new.heap c.push_all-all.ensures.goes
    (subst (λ (es : List Entry). AreInTime (c.args.batch.now.items ++ es)) same held.2)
