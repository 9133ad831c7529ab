use Rattle.std.proofs.Common.{rules, subst, sym, List, ◌-◌}
use Rattle.ea_goal.specs.declared.frontier.Entry.{Entry as Met}
use Rattle.ea_goal.specs.Visits.{KeepsReached}
use Rattle.ea_road.specs.declared.TheConstants.{NONE}
use Rattle.ea_goal.proofs.Reaching.{reached_none, reached_then}
use Rattle.ea_search.specs.declared.labels.table.Reached.{Reached}
use Rattle.ea_asked.specs.Open.{met}
use Rattle.ea_asked.specs.Seeking.{EndsFor, LeadsFor}
use Rattle.ea_asked.proofs.Ending.{none_visited, one_more_visited}
use Rattle.ea_asked.proofs.Passing.{passed_lower}
use Rattle.ea_asked.proofs.search.Underway.run.Goals as goal

pub visit-requires-clause-node : goal.visit-requires-clause-node
visit-requires-clause-node g c = c.loop-entry.invariant.leads.nodes c.in-Some.entry.label c.in-Some.entry.node (record { nearness = NONE - c.in-Some.entry.label; there = c.in-Some.ensures.taken.here })

pub loop-entry-init : goal.loop-entry-init
loop-entry-init g c = record {
  reached = reached_none c.args.self.now.table;
  leads = none_visited c.args.network.now (g.T.TravelTimes.answers c.args.times.now) c.args.self.now.table.labels.items c.args.self.now.frontier c.requires.opened.are_nodes c.requires.opened.keyed;
  passed = search rules;
}

pub loop-entry-preserved : goal.loop-entry-preserved
loop-entry-preserved g c =
    let roads = c.args.network.now in
    let answers = g.T.TravelTimes.answers c.args.times.now in
    let so_far = c.loop-entry.invariant in
    let first = c.args.self.now.frontier in
    let begun = c.args.self.now.table.labels.items in
    let back = sym c.in-Some.ensures.table in
    let leads = subst (λ (t : Reached). LeadsFor roads answers begun first t.labels.items c.loop-entry.self.frontier) back so_far.leads in
    let visits = c.in_ok-visit.ensures.done in
    record {
      reached = reached_then c.args.self.now.table c.next.new.self.table c.visit.new.self.table (subst (λ (t : Reached). KeepsReached c.args.self.now.table t) back so_far.reached) c.visit.ensures.reached;
      leads = one_more_visited roads answers begun c.next.new.self.table.labels.items c.visit.new.self.table.labels.items first c.loop-entry.self.frontier c.next.new.self.frontier c.visit.new.self.frontier (met c.in-Some.entry) leads c.in-Some.ensures.taken visits;
      passed = passed_lower c.next.new.self.table.labels.items c.visit.new.self.table.labels.items c.args.asked.now roads.nodes c.next.new.passed c.requires.asked visits.lower c.in-Some.ensures.passed;
    }

pub returns : goal.returns
returns g c =
    let roads = c.args.network.now in
    let answers = g.T.TravelTimes.answers c.args.times.now in
    let first = c.args.self.now.frontier in
    let begun = c.args.self.now.table.labels.items in
    let taken = c.in_default.ensures.taken in
    let ends : EndsFor roads answers begun first c.loop-entry.self.table.labels.items c.loop-entry.self.frontier c.args.asked.now = record { leads = c.loop-entry.invariant.leads; over = taken.1 } in
    record {
      reached = subst (λ (t : Reached). KeepsReached c.args.self.now.table t) (sym c.in_default.ensures.table) c.loop-entry.invariant.reached;
      done = subst (λ (t : Reached). EndsFor roads answers begun first t.labels.items c.next.new.self.frontier c.args.asked.now) (sym c.in_default.ensures.table)
          (subst (λ (es : List Met). EndsFor roads answers begun first c.loop-entry.self.table.labels.items es c.args.asked.now) (sym taken.0) ends);
    }
