use Rattle.std.proofs.Common.{rules, ◌∙◌}
use Rattle.ea_pool.proofs.Moves.{opens}
use Rattle.ea_pool.proofs.shared.pool.Pool.open_with.Goals as goal

pub new-requires : goal.new-requires
new-requires g c = opens g.K.Known.is_known g.H.EntryHeap.kind c.args.heaps c.as_slice.result.now c.in_ok-slots.slots.items (c.as_slice.ensures.value ∙ c.in_ok-words.ensures.items_if_clones_equal (λ y e. search rules)) c.in_ok-slots.ensures
