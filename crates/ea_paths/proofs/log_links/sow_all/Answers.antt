use Rattle.std.proofs.Common.{ℕ, ◌<◌, List, length, get_or, refl, sym, ◌∙◌, ap, arith}
use Rattle.std.specs.List.{IsAmong}
use Rattle.std.proofs.lemmas.List.{get_or_default}
use Rattle.ea_road.specs.declared.source.Source.{Source}
use Rattle.ea_paths.specs.Replayed.{IsSeedLink}
use Rattle.ea_paths.proofs.Linkings.{AreSown-more, Offers-lower, Offers-more, Offers-none}
use Rattle.ea_paths.proofs.Sowings.{sow_one}
use Rattle.ea_paths.proofs.log_links.sow_all.Goals as goal

abbrev none : Source
none = record { node = 0; departure = 0 }

among_at : (sources : List Source) (place : ℕ) → place < length sources → IsAmong sources (get_or sources place none)
among_at sources place inside = (place, (inside, get_or_default sources place none (get_or sources place none) inside))

pub loop-source-init : goal.loop-source-init
loop-source-init c = record {
  linked = record {
    offers = Offers-none _ _ _ _;
    sown = λ k d l. absurd (omega arith);
    room = refl;
  };
}

pub sow-requires-clause-place : goal.sow-requires-clause-place
sow-requires-clause-place c =
    let start = c.requires.sources _ (among_at c.args.sources.now c.loop-source.source-index c.loop-source-test.true) in
    let before = c.loop-source.invariant.linked in
    record {
      is_node = record { from_one = start.0.from_one; to_last = omega (arith, start.0.to_last, before.room) };
      places = omega (arith, before.offers.places, before.room, c.requires.places.1);
    }

pub sow-requires-clause-labels : goal.sow-requires-clause-labels
sow-requires-clause-labels c = c.requires.places.0 ∙ sym c.loop-source.invariant.linked.room

pub loop-source-preserved : goal.loop-source-preserved
loop-source-preserved c =
    let sources = c.args.sources.now in
    let table = c.args.table.now in
    let place = c.loop-source.source-index in
    let before = c.loop-source.invariant.linked in
    let among = among_at sources place c.loop-source-test.true in
    let start = c.requires.sources _ among in
    let seeds = rw before.room at c.sow.ensures.seeds in
    let others = c.sow.ensures.others in
    let step = sow_one c.args.waiting.now.nodes sources table (get_or sources place none) c.loop-source.links c.sow.new.links c.loop-source.waiting.waiting c.sow.new.waiting.waiting among start.1 seeds
    (λ differs. ((others differs).0, ap (λ w. w.waiting) (others differs).1)) in
    let lower = Offers-lower _ (IsSeedLink sources table) _ _ _ _ step.offers in
    record {
      linked = record {
        offers = Offers-more _ (IsSeedLink sources table) _ _ _ _ _ _ before.offers step.offers;
        sown = AreSown-more _ _ _ _ place none before.sown c.loop-source-test.true step.here lower;
        room = c.sow.ensures.room ∙ before.room;
      };
    }

pub returns : goal.returns
returns c =
    let linked = c.loop-source.invariant.linked in
    record {
      offers = linked.offers;
      sown = λ k d l. linked.sown k d (omega (arith, c.loop-source-test.false, l));
      room = linked.room;
    }
