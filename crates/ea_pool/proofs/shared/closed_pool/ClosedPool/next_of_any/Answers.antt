use Rattle.std.proofs.Common.{◌≡◌, ◌+◌, ◌-◌, List, [], length, sym, ap, ◌∙◌, arith}
use Rattle.std.specs.Prelude.{vec_len}
use Rattle.ea_machine.specs.Totals.{total}
use Rattle.ea_pool.specs.declared.heap.entry.Entry.{Entry}
use Rattle.ea_pool.specs.Entries.{gathered}
use Rattle.ea_pool.proofs.Gathered.{no_weight}
use Rattle.ea_pool.proofs.Leaving.{no_heaps, one_fewer, took_off, weighs_changed}
use Rattle.ea_pool.proofs.Shown.{given_one}
use Rattle.ea_pool.proofs.shared.closed_pool.ClosedPool.next_of_any.Goals as goal

pub returns-in-Some-pop : goal.returns-in-Some-pop
returns-in-Some-pop g c = λ f.
    let heaps : List (List Entry) = c.emptied.self-inside.heaps.items in
    let some = c.in-Some.ensures in
    omega (
      arith,
      ap (total f) (sym c.self.view_is),
      c.emptied.invariant.0 f,
      weighs_changed f heaps (vec_len c.emptied.self-inside.heaps - 1) c.in-Some.heap.now c.pop.new.self (omega (arith, some.variant.0, c.emptied.self-inside.heaps.ok.0)) some.value,
      given_one g.H.EntryHeap.kind c.in-Some-pop.entry c.in-Some.heap.now c.pop.new.self c.in-Some-pop.ensures f,
    )

pub emptied-preserved : goal.emptied-preserved
emptied-preserved g c =
    let heaps : List (List Entry) = c.emptied.self-inside.heaps.items in
    let i = c.emptied.invariant in
    let some = c.in-Some.ensures in
    let none = c.in_default-pop.ensures in
    let len : length heaps ≡ (vec_len c.emptied.self-inside.heaps - 1) + 1 = omega (arith, some.variant.0, c.emptied.self-inside.heaps.ok.0) in
    let popped = c.pop-in-emptied.ensures in (
      λ f. i.0 f ∙ (took_off heaps (vec_len c.emptied.self-inside.heaps - 1) c.in-Some.heap.now c.pop.new.self len some.value none.0 none.1 f
          ∙ ap (λ (hs : List (List Entry)). total f (gathered hs)) (sym popped.rest)),
      omega (arith, i.1, len, ap length popped.rest, one_fewer heaps (vec_len c.emptied.self-inside.heaps - 1) c.pop.new.self len),
    )

pub returns : goal.returns
returns g c =
    let i = c.emptied.invariant in
    let heaps : List (List Entry) = c.emptied.self-inside.heaps.items in
    let none : gathered heaps ≡ [] = no_heaps heaps (omega (arith, i.1, c.emptied-test.false, c.len-end.ensures, c.self.inside.heaps.ok.0)) in
    (sym c.self.view_is ∙ no_weight (gathered c.self.inside.heaps.items) (λ f. omega (arith, i.0 f, ap (total f) none)), none)
