use Rattle.std.proofs.Common.{arith, inl, inr, sym, ℕ}
use Rattle.std.specs.List.{IsAmong}
use Rattle.ea_road.specs.Labels.{label_of}
use Rattle.ea_road.specs.Roads.{IsNode}
use Rattle.ea_road.specs.declared.source.Source.{Source}
use Rattle.ea_goal.specs.Frontiers.{Waits}
use Rattle.ea_goal.specs.Potentials.{potential_of}
use Rattle.ea_goal.proofs.Reaching.{reached_then}
use Rattle.ea_goal.proofs.Scanning.{keyed_alike}
use Rattle.ea_goal.proofs.Seeding.{led_none, seeded_all}
use Rattle.ea_goal.proofs.Visiting.{led_alike}
use Rattle.ea_goal.proofs.search.Underway.seek.Goals as goal

pub begin-requires-clause-source : goal.begin-requires-clause-source
begin-requires-clause-source g c =
    let ranked = c.requires.prepared.over.ranked in
    elim c.start_of-source.ensures [
      | inl is ↦ (omega (arith, is, c.requires.target.from_one), omega (arith, is, c.requires.target.to_last, ranked))
      | inr among ↦ let node = (c.requires.sources c.start_of-source.result among).0 in (node.from_one, omega (arith, node.to_last, ranked))
    ]

pub run-requires-clause-keys : goal.run-requires-clause-keys
run-requires-clause-keys g c =
    keyed_alike (potential_of c.args.prepared.now c.begin.new.self) (potential_of c.args.prepared.now c.begin-2.new.self.potential) c.begin-2.new.self.frontier (λ node. sym (c.begin-2.ensures.same node)) c.in_ok-begin.ensures.seeded.keyed

pub returns-clause-led : goal.returns-clause-led
returns-clause-led g c =
    let roads = c.args.network.now in
    let answers = g.T.TravelTimes.answers c.args.times.now in
    let sources = c.args.sources.now in
    let target = c.args.target in
    let bound : ℕ → ℕ = potential_of c.args.prepared.now c.begin.new.self in
    let next : ℕ → ℕ = potential_of c.args.prepared.now c.begin-2.new.self.potential in
    let begun = c.begin-2.new.self.table.labels.items in
    let first = c.begin-2.new.self.frontier in
    let end = c.run.new.self in
    let are : (source : Source) → IsAmong sources source → IsNode roads.nodes source.node = λ source among. (c.requires.sources source among).0 in
    let led = seeded_all roads answers sources target bound begun first c.requires.sources c.in_ok-begin.ensures.seeded in
    let led_next = led_alike roads answers target sources bound next (label_of begun) (Waits first) (λ node. sym (c.begin-2.ensures.same node)) led in
    let ends = c.in_ok-run.ensures.ends in
    let done = ends.leads.led sources are led_next in
    let led_bound = led_alike roads answers target sources next bound (label_of end.table.labels.items) (Waits end.frontier) (λ node. c.begin-2.ensures.same node) done in
    record {
      bound = bound;
      consistent = record { at_target = c.bounds_are_below_each_walk.ensures.target; along = c.bounds_are_consistent.ensures };
      led = led_none roads answers sources target bound (label_of end.table.labels.items) end.frontier ends.none led_bound;
    }

pub returns-clause-reached : goal.returns-clause-reached
returns-clause-reached g c =
    reached_then c.args.self.now.table c.begin-2.new.self.table c.run.new.self.table c.begin-2.ensures.reached c.run.ensures.reached

pub returns-in_err-run-clause-reached : goal.returns-in_err-run-clause-reached
returns-in_err-run-clause-reached g c =
    reached_then c.args.self.now.table c.begin-2.new.self.table c.run.new.self.table c.begin-2.ensures.reached c.run.ensures.reached
