use Rattle.std.proofs.Common.{arith, subst, sym, ◌-◌, ◌∙◌, ℕ}
use Rattle.ea_road.specs.Labels.{label_of}
use Rattle.ea_hierarchy.proofs.Finding.{read_at}
use Rattle.ea_goal.specs.Frontiers.{Closes}
use Rattle.ea_goal.specs.Potentials.{potential_of}
use Rattle.ea_goal.specs.Scans.{Scans}
use Rattle.ea_goal.proofs.Visiting.{visits_beyond, visits_none, visits_scanned}
use Rattle.ea_goal.proofs.search.Underway.visit.Goals as goal

pub returns-then-entry-last-clause-visits : goal.returns-then-entry-last-clause-visits
returns-then-entry-last-clause-visits g c =
    let table = c.args.self.now.table.labels.items in
    let last = read_at table (c.args.target - 1) c.index-last.result.now (omega (arith, c.requires.target.from_one, c.requires.target.to_last, c.requires.table)) c.index-last.ensures in
    let closes = subst (λ t. Closes t c.args.self.now.frontier c.close.new.self) (sym last) c.close.ensures in
    visits_beyond c.args.network.now (g.T.TravelTimes.answers c.args.times.now) c.args.target (potential_of c.args.prepared.now c.args.self.now.potential) table c.args.self.now.frontier c.args.entry c.close.new.self c.requires.key c.requires.keys (omega (arith, last, c.if-entry-last.true)) closes

pub returns-then-entry-label-clause-visits : goal.returns-then-entry-label-clause-visits
returns-then-entry-label-clause-visits g c =
    let table = c.args.self.now.table.labels.items in
    let read = read_at table (c.args.entry.node - 1) c.index-label.result.now (omega (arith, c.requires.node.from_one, c.requires.node.to_last, c.requires.table)) c.index-label.ensures in
    visits_none c.args.network.now (g.T.TravelTimes.answers c.args.times.now) c.args.target (potential_of c.args.prepared.now c.args.self.now.potential) table c.args.self.now.frontier c.args.entry (λ at within some. absurd (c.if-entry-label.true (sym at ∙ read)))

pub returns-then-label-gt-HORIZON-clause-visits : goal.returns-then-label-gt-HORIZON-clause-visits
returns-then-label-gt-HORIZON-clause-visits g c =
    let table = c.args.self.now.table.labels.items in
    let read = read_at table (c.args.entry.node - 1) c.index-label.result.now (omega (arith, c.requires.node.from_one, c.requires.node.to_last, c.requires.table)) c.index-label.ensures in
    visits_none c.args.network.now (g.T.TravelTimes.answers c.args.times.now) c.args.target (potential_of c.args.prepared.now c.args.self.now.potential) table c.args.self.now.frontier c.args.entry (λ at within some. absurd (omega (arith, within, read, c.if-label-gt-HORIZON.true)))

pub returns-clause-visits : goal.returns-clause-visits
returns-clause-visits g c =
    let roads = c.args.network.now in
    let answers = g.T.TravelTimes.answers c.args.times.now in
    let bound : ℕ → ℕ = potential_of c.args.prepared.now c.args.self.now.potential in
    let table = c.args.self.now.table.labels.items in
    let entries = c.args.self.now.frontier in
    let after = c.scan.new.self.table.labels.items in
    let last = c.scan.new.self.frontier in
    let read = read_at table (c.args.entry.node - 1) c.index-label.result.now (omega (arith, c.requires.node.from_one, c.requires.node.to_last, c.requires.table)) c.index-label.ensures in
    let scans : Scans roads answers c.args.target bound table entries after last c.args.entry.node (label_of table c.args.entry.node) =
    subst (λ t. Scans roads answers c.args.target bound table entries after last c.args.entry.node t) (sym read) c.in_ok-scan.ensures.scans in
    visits_scanned roads answers c.args.target bound table entries c.args.entry after last c.keeps_limits.ensures c.requires.target c.requires.node (omega (arith, read, c.if-label-gt-HORIZON.false)) scans
