-- Tries that miss, one after another.
use Rattle.std.proofs.Common.{ℕ, ◌+◌, List, sym, subst, add-one}
use Rattle.ea_pool.specs.Draws.{try_draw}
use Rattle.ea_pool.specs.Tries.{Missed, MissedHeap}

pub missed_more : (heaps word n : ℕ) (before between after : List (ℕ × ℕ)) → Missed heaps word n before between → MissedHeap (try_draw heaps word n) between after → Missed heaps word (n + 1) before after
missed_more heaps word n before between after earlier last = subst (λ m. Missed heaps word m before after) (sym (add-one n)) (between, earlier, last)
