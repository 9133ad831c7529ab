use Rattle.std.proofs.Common.{arith, get_or, length, ◌<◌, ◌≡◌, ◌∙◌, ℕ, List, ap, subst}
use Rattle.std.specs.List.{IsAmong}
use Rattle.std.proofs.lemmas.List.{get_or_default, length-replicate}
use Rattle.ea_road.specs.declared.TheConstants.{NONE}
use Rattle.ea_road.specs.declared.source.Source.{Source}
use Rattle.ea_goal.specs.Seeds.{AreSeeded}
use Rattle.ea_goal.proofs.Reaching.{reached_none, reached_then}
use Rattle.ea_goal.proofs.Seeding.{seeded_more, seeded_none}
use Rattle.ea_asked.specs.Open.{no_bound}
use Rattle.ea_asked.proofs.search.Underway.begin.Goals as goal

abbrev none : Source
none = record { node = 0; departure = 0 }

among_at : (sources : List Source) (place : ℕ) → place < length sources → IsAmong sources (get_or sources place none)
among_at sources place inside = (place, (inside, get_or_default sources place none (get_or sources place none) inside))

pub loop-source-init : goal.loop-source-init
loop-source-init c = record {
  reached = reached_none c.args.self.now.table;
  seeded = λ target from. seeded_none c.args.network.now.nodes c.args.sources.now target no_bound c.args.self.now.table.labels.items c.pace.new.self c.requires.labels (c.pace.ensures ∙ c.requires.closed);
}

pub loop-source-preserved : goal.loop-source-preserved
loop-source-preserved c =
    let so_far = c.loop-source.invariant in
    let place = c.loop-source.source-index in
    record {
      reached = reached_then c.args.self.now.table c.loop-source.self.table c.offer.new.self.table so_far.reached c.offer.ensures.reached;
      seeded = λ target from. seeded_more c.args.network.now.nodes c.args.sources.now target no_bound c.loop-source.self.table.labels.items c.offer.new.self.table.labels.items c.loop-source.self.frontier c.offer.new.self.frontier place none c.loop-source-test.true from c.requires.starts (c.in_ok-offer.ensures.done target from) (so_far.seeded target from);
    }

pub offer-requires-clause-node : goal.offer-requires-clause-node
offer-requires-clause-node c =
    let start = c.requires.starts _ (among_at c.args.sources.now c.loop-source.source-index c.loop-source-test.true) in
    let count = c.loop-source.invariant.reached.count in
    let nodes = ap (λ (xs : List ℕ). length xs) c.requires.labels ∙ length-replicate c.args.network.now.nodes NONE in
    record {
      from_one = start.0.from_one;
      to_last = omega (arith, start.0.to_last, count, nodes);
    }

pub offer-requires-clause-time : goal.offer-requires-clause-time
offer-requires-clause-time c =
    let start = c.requires.starts _ (among_at c.args.sources.now c.loop-source.source-index c.loop-source-test.true) in
    start.1

pub returns : goal.returns
returns c =
    let all : c.loop-source.source-index ≡ length c.args.sources.now = omega (arith, c.loop-source-test.false, c.loop-source.auto.source-index-end) in
    record {
      reached = c.loop-source.invariant.reached;
      done = λ target from. subst (λ k. AreSeeded c.args.network.now.nodes c.args.sources.now target no_bound c.loop-source.self.table.labels.items c.loop-source.self.frontier k) all (c.loop-source.invariant.seeded target from);
    }
