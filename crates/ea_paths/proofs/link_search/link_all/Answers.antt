use Rattle.std.proofs.Common.{ℕ, ◌+◌, ◌<◌, List, length, get_or, refl, sym, ◌∙◌, ap, arith}
use Rattle.std.specs.List.{IsAmong}
use Rattle.std.proofs.lemmas.List.{get_or_default}
use Rattle.ea_road.specs.declared.source.Source.{Source}
use Rattle.ea_search.specs.Links.{link}
use Rattle.ea_search.specs.Worklist.{Ring}
use Rattle.ea_paths.specs.Offers.{IsSpread}
use Rattle.ea_paths.proofs.Offerings.{spent_each}
use Rattle.ea_paths.proofs.Linked.{are_links, Settled-linking}
use Rattle.ea_paths.proofs.Linkings.{Linking-none, Linking-spread, Linking-time, Linking-unlabelled, AreSown-more, AreSown-lower, Offers-lower, sow_step}
use Rattle.ea_paths.proofs.link_search.link_all.Goals as goal

abbrev none : Source
none = record { node = 0; departure = 0 }

among_at : (sources : List Source) (place : ℕ) → place < length sources → IsAmong sources (get_or sources place none)
among_at sources place inside = (place, (inside, get_or_default sources place none (get_or sources place none) inside))

pub loop-source-init : goal.loop-source-init
loop-source-init g c = record {
  linking = rw (c.requires.begins.none, c.requires.begins.nobody) (Linking-none _ _ _ _);
  sown = λ k d l. absurd (omega arith);
  room = c.requires.begins.room;
}

pub sow-requires-clause-place : goal.sow-requires-clause-place
sow-requires-clause-place g c =
    let start = c.requires.starts _ (among_at c.args.sources.now c.loop-source.source-index c.loop-source-test.true) in
    let room = c.loop-source.invariant.room in
    record {
      is_node = record { from_one = start.0.from_one; to_last = omega (arith, start.0.to_last, room) };
      places = c.loop-source.invariant.linking.places ∙ sym room;
    }

pub sow-requires-clause-labels : goal.sow-requires-clause-labels
sow-requires-clause-labels g c = c.requires.labels ∙ sym c.loop-source.invariant.room

pub loop-source-preserved : goal.loop-source-preserved
loop-source-preserved g c =
    let sources = c.args.sources.now in
    let place = c.loop-source.source-index in
    let among = among_at sources place c.loop-source-test.true in
    let start = c.requires.starts _ among in
    let seeds = rw c.loop-source.invariant.room at c.sow.ensures.seeds in
    let others = c.sow.ensures.others in
    let step = sow_step _ _ _ _ (get_or sources place none) c.loop-source.links c.sow.new.links c.loop-source.waiting.waiting c.sow.new.waiting.waiting among start.1 c.loop-source.invariant.linking seeds
    (λ differs. ((others differs).0, ap (λ w. w.waiting) (others differs).1)) in
    record {
      linking = step.linking;
      sown = AreSown-more _ _ _ _ place none c.loop-source.invariant.sown c.loop-source-test.true step.here step.lower;
      room = c.sow.ensures.room ∙ c.loop-source.invariant.room;
    }

pub spread-requires-clause-can : goal.spread-requires-clause-can
spread-requires-clause-can g c = record {
  classed = c.requires.classed;
  labels = c.requires.labels;
  places = c.loop-node.invariant.linking.places;
  room = c.in-Some.ensures.nodes ∙ c.loop-node.invariant.room;
}

pub spread-requires-clause-node : goal.spread-requires-clause-node
spread-requires-clause-node g c =
    let before = rw c.in-Some.ensures.taken at c.loop-node.invariant.linking in
    let waits = before.waits c.in-Some.node (0, omega arith, refl) in
    let bound = before.bounded c.in-Some.node waits in
    let few = c.keeps_limits.ensures.nodes_limit in
    let node = c.in-Some.ensures.node in
    record {
      is_node = record { from_one = node.0; to_last = omega (arith, node.1, c.loop-node.invariant.room) };
      departure = Linking-time _ _ _ _ _ _ before c.in-Some.node waits;
      level = omega arith;
    }

pub loop-node-preserved : goal.loop-node-preserved
loop-node-preserved g c =
    let before = rw c.in-Some.ensures.taken at c.loop-node.invariant.linking in
    let few = c.keeps_limits.ensures.nodes_limit in
    let offers = c.spread.ensures.offers in
    let network = c.args.network.now in
    let answers = g.T.TravelTimes.answers c.args.times.now in
    let level = (link c.loop-node.links c.in-Some.node).level + 1 in
    let spent = spent_each network answers c.args.table.now c.spread.new.links c.in-Some.node level c.spread.ensures.passed in
    record {
      linking = Linking-spread _ _ _ _ c.in-Some.node _ _ _ _ (omega arith) before offers spent;
      sown = AreSown-lower _ _ _ _ _ c.loop-node.invariant.sown (Offers-lower _ (IsSpread network answers c.args.table.now c.in-Some.node level) _ _ _ _ offers);
      room = c.spread.ensures.room ∙ c.in-Some.ensures.nodes ∙ c.loop-node.invariant.room;
    }

pub returns-clause-linked : goal.returns-clause-linked
returns-clause-linked g c =
    let taken = c.in_default.ensures.taken in
    let linking = rw taken.0 at c.loop-node.invariant.linking in
    let few = c.keeps_limits.ensures.nodes_limit in
    let can = c.requires in
    record {
      are_links = are_links c.args.network.now _ _ c.args.sources.now c.keeps_limits.ensures can.classed (g.met.T.TravelTimes.fifo c.args.times.now) can.starts c.args.table.now can.labels c.loop-node.links (Settled-linking _ _ _ _ _ (omega arith) linking) c.loop-node.invariant.sown;
      nobody = ap (λ (w : Ring). w.waiting) taken.1 ∙ taken.0;
      room = c.in_default.ensures.nodes ∙ c.loop-node.invariant.room;
    }

pub returns-clause-labelled : goal.returns-clause-labelled
returns-clause-labelled g c =
    Linking-unlabelled _ _ _ _ c.loop-node.links _ c.loop-node.invariant.linking
