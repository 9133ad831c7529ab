use Rattle.std.proofs.Common.{◌<◌, ℕ, length, get_or, ap, refl, subst, arith, below_more}
use Rattle.std.specs.Prelude.{Contains}
use Rattle.ea_travel_times.proofs.Lists.{any_default}
use Rattle.ea_pool.specs.declared.heap.entry.Entry.{Entry}
use Rattle.ea_engine.specs.Openings.{OpensUpTo}
use Rattle.ea_engine.proofs.OpeningLemmas.{OpensUpTo-none, OpensUpTo-added, OpensUpTo-then}
use Rattle.ea_engine.proofs.run.gathering.keep_all.Goals as goal

abbrev blank : Entry
blank = record { key = 0; node = 0 }

pub add-requires : goal.add-requires
add-requires c =
    let items = c.args.entries.now.items in
    let at = c.loop-entry.entry-index in
    let value = c.as_slice-entry-items.ensures.value in
    let lt : at < length items = rw value at c.loop-entry-test.true in
    let e = get_or items at blank in
    let is = c.requires e (at, lt, any_default items at e blank lt) in
    rw value (is.from_one, omega (arith, is.to_last, c.loop-entry.invariant.opens.nodes_are))

pub loop-entry-init : goal.loop-entry-init
loop-entry-init c = record { inside = λ i d lt. absurd (omega (arith, lt)); opens = OpensUpTo-none _ }

pub loop-entry-preserved : goal.loop-entry-preserved
loop-entry-preserved c =
    let items = c.args.entries.now.items in
    let at = c.loop-entry.entry-index in
    let value = c.as_slice-entry-items.ensures.value in
    let lt : at < length items = rw value at c.loop-entry-test.true in
    let inv = c.loop-entry.invariant in
    let now : Contains c.add.new.self.waiting (get_or items at blank).node = rw value at c.add.ensures.inside in
    let P : ℕ → Type 0 = λ j. (d : Entry) → Contains c.add.new.self.waiting (get_or items j d).node in
    record {
      inside = λ i d less. below_more P at
          (λ j lower x. c.add.ensures.kept _ (inv.inside j x lower))
          (λ x. subst (λ (y : Entry). Contains c.add.new.self.waiting y.node) (any_default items at blank x lt) now)
          i less d;
      opens = OpensUpTo-then _ _ _ _ 1 _ inv.opens (OpensUpTo-added _ _ _ c.add.ensures.kept c.add.ensures.inside c.add.ensures.at_most_one c.add.ensures.room) refl;
    }

pub returns : goal.returns
returns c =
    let items = c.args.entries.now.items in
    let value = c.as_slice-entry-items.ensures.value in
    let past = rw value at c.loop-entry-test.false in
    record {
      waits = λ entry inside. subst (λ (y : Entry). Contains c.loop-entry.todo.waiting y.node) inside.2 (c.loop-entry.invariant.inside inside.0 entry (omega (arith, inside.1, past)));
      opens = subst (λ n. OpensUpTo n c.args.todo.now c.loop-entry.todo) (omega (arith, past, c.loop-entry.auto.entry-index-end, ap length value)) c.loop-entry.invariant.opens;
    }
