use Rattle.std.proofs.Common.{◌∙◌}
use Rattle.ea_pool.proofs.HeapOrder.{face_is}
use Rattle.ea_pool.proofs.heap.least_heap.LeastHeapEntryHeap.word.Goals as goal

pub returns-in-Some : goal.returns-in-Some
returns-in-Some g c = let t = c.in-Some.ensures.least in face_is t.0 c.args.self.now t.2 t.3 (c.requires t.0 t.3) ∙ t.1
