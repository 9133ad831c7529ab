use Rattle.std.proofs.Common.{ap, length, subst, sym, ◌∙◌, ℕ, List}
use Rattle.ea_goal.specs.Potentials.{potential_of}
use Rattle.ea_goal.specs.Visits.{Leads}
use Rattle.ea_goal.specs.declared.frontier.Entry.{Entry}
use Rattle.ea_goal.proofs.Reaching.{reached_then}
use Rattle.ea_goal.proofs.Scanning.{keyed_alike}
use Rattle.ea_goal.proofs.Visiting.{leads_more, visits_alike}
use Rattle.ea_goal.proofs.search.Underway.run.Goals as goal

pub visit-requires-clause-node : goal.visit-requires-clause-node
visit-requires-clause-node g c = c.loop-entry.invariant.leads.nodes c.in-Some.entry.label c.in-Some.entry.node (record { nearness = c.in-Some.entry.nearness; there = c.in-Some.ensures.here })

pub visit-requires-clause-keys : goal.visit-requires-clause-keys
visit-requires-clause-keys g c =
    keyed_alike (potential_of c.args.prepared.now c.args.self.now.potential) (potential_of c.args.prepared.now c.loop-entry.self.potential) c.take.new.self (λ node. sym (c.loop-entry.invariant.same node)) (λ entry there. c.loop-entry.invariant.leads.keyed entry (c.in-Some.ensures.fewer entry there))

pub loop-entry-preserved : goal.loop-entry-preserved
loop-entry-preserved g c =
    let roads = c.args.network.now in
    let answers = g.T.TravelTimes.answers c.args.times.now in
    let bound : ℕ → ℕ = potential_of c.args.prepared.now c.args.self.now.potential in
    let so_far = c.loop-entry.invariant in
    let middle = c.loop-entry.self.table.labels.items in
    let after = c.visit.new.self.table.labels.items in
    let taken = c.take.new.self in
    let last = c.visit.new.self.frontier in
    let visits = visits_alike roads answers c.args.target (potential_of c.args.prepared.now c.loop-entry.self.potential) bound middle after taken last c.in-Some.entry so_far.same c.in_ok-visit.ensures.visits in
    record {
      reached = reached_then c.args.self.now.table c.loop-entry.self.table c.visit.new.self.table so_far.reached c.visit.ensures.reached;
      over = c.in_ok-visit.ensures.over;
      same = λ other. c.in_ok-visit.ensures.same other ∙ so_far.same other;
      leads = leads_more roads answers c.args.target bound c.args.self.now.table.labels.items middle after c.args.self.now.frontier c.loop-entry.self.frontier taken last c.in-Some.entry so_far.leads c.in-Some.ensures visits;
    }

pub returns-clause-ends : goal.returns-clause-ends
returns-clause-ends g c =
    let roads = c.args.network.now in
    let answers = g.T.TravelTimes.answers c.args.times.now in
    let bound : ℕ → ℕ = potential_of c.args.prepared.now c.args.self.now.potential in
    let none = c.in_default.ensures in
    record {
      leads = subst (λ (es : List Entry). Leads roads answers c.args.target bound c.args.self.now.table.labels.items c.args.self.now.frontier c.loop-entry.self.table.labels.items es) (sym none.1) c.loop-entry.invariant.leads;
      none = ap (λ (es : List Entry). length es) none.1 ∙ none.0;
    }

pub returns-in_err-visit-clause-reached : goal.returns-in_err-visit-clause-reached
returns-in_err-visit-clause-reached g c = reached_then c.args.self.now.table c.loop-entry.self.table c.visit.new.self.table c.loop-entry.invariant.reached c.visit.ensures.reached
