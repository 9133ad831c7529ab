use Rattle.std.proofs.Common.{ℕ, ◌+◌, [], inl, inr, refl, ◌∙◌, ap, arith}
use Rattle.ea_search.specs.declared.link.Link.{Link}
use Rattle.ea_search.specs.Links.{link}
use Rattle.ea_search.specs.Worklist.{Ring}
use Rattle.ea_paths.specs.Offers.{IsSpread}
use Rattle.ea_paths.proofs.Mendings.{KeepsMended-more, Ready-mended, nobody_in}
use Rattle.ea_paths.proofs.repair.mend_waiting.Goals as goal

pub mending-init : goal.mending-init
mending-init g c = record {
  kept = record {
    places = record { places = c.requires.places; room = c.requires.room };
    mended = λ sources first. first;
    lower = λ v. omega arith;
  };
  ready = λ first v. inl (first v);
}

pub mend-requires-clause-can : goal.mend-requires-clause-can
mend-requires-clause-can g c =
    let kept = c.mending.invariant.kept.places in
    record {
      classed = c.requires.classed;
      labels = c.requires.labels;
      places = kept.places;
      room = c.in-Some.ensures.nodes ∙ kept.room;
    }

pub mending-preserved : goal.mending-preserved
mending-preserved g c =
    let before = c.mending.invariant in
    let mends = c.mend.ensures in
    let answers = g.T.TravelTimes.answers c.args.times.now in
    let offer : ℕ → Link → Type 0 = IsSpread c.args.network.now answers c.args.table.now c.in-Some.node ((link c.mending.links c.in-Some.node).level + 1) in
    record {
      kept = KeepsMended-more _ _ _ c.in-Some.node _ _ _ _ _ _ _ _ c.in-Some.ensures.taken c.in-Some.ensures.nodes before.kept mends;
      ready = λ first. Ready-mended _ offer c.in-Some.node _ _ _ _ (rw c.in-Some.ensures.taken at before.ready first) mends.offers (mends.ready c.if-not-mend.false);
    }

pub returns-then-not-mend-clause-kept : goal.returns-then-not-mend-clause-kept
returns-then-not-mend-clause-kept g c = KeepsMended-more _ _ _ c.in-Some.node _ _ _ _ _ _ _ _ c.in-Some.ensures.taken c.in-Some.ensures.nodes c.mending.invariant.kept c.mend.ensures

pub returns-in_default-clause-kept : goal.returns-in_default-clause-kept
returns-in_default-clause-kept g c = rw c.in_default.ensures.taken.1 c.mending.invariant.kept

pub returns-in_default-clause-done : goal.returns-in_default-clause-done
returns-in_default-clause-done g c = λ _.
    let taken = c.in_default.ensures.taken in (
      ap (λ (w : Ring). w.waiting) taken.1 ∙ taken.0,
      λ first v. elim (c.mending.invariant.ready first v) [
        | inl ready ↦ ready
        | inr waits ↦ absurd (nobody_in [] refl v (rw taken.0 at waits))
      ],
    )
