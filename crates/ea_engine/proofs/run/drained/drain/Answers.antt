use Rattle.std.proofs.Common.{◌∷◌, length, ap, refl, sym, arith, subst, inl, inr}
use Rattle.std.specs.Prelude.{Contains}
use Rattle.ea_pool.specs.declared.heap.entry.Entry.{Entry}
use Rattle.ea_engine.proofs.Multisets.{Contains-head, Contains-later, Contains-same, Contains-tail, same_length}
use Rattle.ea_engine.specs.Openings.{OpensUpTo}
use Rattle.ea_engine.proofs.OpeningLemmas.{OpensUpTo-none, OpensUpTo-added, OpensUpTo-then}
use Rattle.ea_engine.proofs.run.drained.drain.Goals as goal

pub add-requires : goal.add-requires
add-requires g c =
    let here = Contains-same (c.in-Some.entry ∷ c.next_of_any.new.self) c.loop-entry.closed c.in-Some.entry (λ f. sym (c.in-Some.ensures f)) (Contains-head c.in-Some.entry c.next_of_any.new.self) in
    let is = c.requires.nodes c.in-Some.entry (c.loop-entry.invariant.left c.in-Some.entry here) in
    (is.from_one, omega (arith, is.to_last, c.loop-entry.invariant.opens.nodes_are))

pub loop-entry-preserved : goal.loop-entry-preserved
loop-entry-preserved g c =
    let entry = c.in-Some.entry in
    let rest = c.next_of_any.new.self in
    record {
      left = λ e inside. c.loop-entry.invariant.left e (Contains-same (entry ∷ rest) c.loop-entry.closed e (λ f. sym (c.in-Some.ensures f)) (Contains-later entry e rest inside));
      done = λ e inside. elim (c.loop-entry.invariant.done e inside) [
        | inl stays ↦ elim (Contains-tail entry rest e (Contains-same c.loop-entry.closed (entry ∷ rest) e c.in-Some.ensures stays)) [
          | inl same ↦ inr (subst (λ (x : Entry). Contains c.add.new.self.waiting x.node) same c.add.ensures.inside)
          | inr later ↦ inl later
        ]
        | inr waits ↦ inr (c.add.ensures.kept e.node waits)
      ];
      counted = omega (arith, c.loop-entry.invariant.counted, same_length c.loop-entry.closed (entry ∷ rest) c.in-Some.ensures);
      opens = OpensUpTo-then _ _ _ _ 1 _ c.loop-entry.invariant.opens (OpensUpTo-added _ _ entry.node c.add.ensures.kept c.add.ensures.inside c.add.ensures.at_most_one c.add.ensures.room) refl;
    }

pub loop-entry-init : goal.loop-entry-init
loop-entry-init g c = record { left = λ entry inside. inside; done = λ entry inside. inl inside; counted = omega arith; opens = OpensUpTo-none _ }

pub returns : goal.returns
returns g c =
    let inv = c.loop-entry.invariant in
    record {
      drained = record {
        waits = λ entry inside. elim (inv.done entry inside) [
          | inl stays ↦ absurd (omega (arith, (rw c.in_default.ensures.0 at stays).1))
          | inr waits ↦ waits
        ];
        opens = subst (λ n. OpensUpTo n c.args.todo.now c.loop-entry.todo) (omega (arith, inv.counted, ap length c.in_default.ensures.0)) inv.opens;
      };
      counted = omega (arith, inv.counted, ap length c.in_default.ensures.0);
    }

pub overflow_add-drained : goal.overflow_add-drained
overflow_add-drained g c =
    omega (arith, c.loop-entry.invariant.counted, c.requires.few, same_length c.loop-entry.closed (c.in-Some.entry ∷ c.next_of_any.new.self) c.in-Some.ensures)
