use Rattle.std.proofs.Common.{◌∙◌, List, [], ◌∷◌, ◌++◌, ap, arith, append_assoc, length-append}
use Rattle.ea_pool.specs.declared.heap.entry.Entry.{Entry}
use Rattle.ea_pool.proofs.Batching.{one_more_given, spent_enough}
use Rattle.ea_pool.proofs.heap.batch.pop_some.Goals as goal

pub loop-preserved : goal.loop-preserved
loop-preserved g c =
    let inv = c.loop.invariant in
    let out : List Entry = inv.0 in
    let one : List Entry = c.in-Some.entry ∷ [] in (
      out ++ one,
      c.push.ensures.items ∙ (ap (λ (l : List Entry). l ++ one) inv.1 ∙ append_assoc c.args.batch.now.items out one),
      one_more_given g.H.EntryHeap.kind out c.args.heap.now c.loop.heap c.pop.new.self c.in-Some.entry inv.2 c.in-Some.ensures,
      omega (arith, inv.3, length-append out one),
    )

pub returns-then-is_spent : goal.returns-then-is_spent
returns-then-is_spent g c =
    let inv = c.loop.invariant in
    let out : List Entry = inv.0 in
    let one : List Entry = c.in-Some.entry ∷ [] in (
      out ++ one,
      c.push.ensures.items ∙ (ap (λ (l : List Entry). l ++ one) inv.1 ∙ append_assoc c.args.batch.now.items out one),
      record {
        taken = one_more_given g.H.EntryHeap.kind out c.args.heap.now c.loop.heap c.pop.new.self c.in-Some.entry inv.2 c.in-Some.ensures;
        few = omega (arith, inv.3, length-append out one, c.loop-test.true);
        enough = spent_enough g.H.EntryHeap.kind c.args.most (out ++ one) c.pop.new.self c.is_spent.result c.is_spent.ensures c.if-is_spent.true (omega (arith, length-append out one));
      },
    )
