use Rattle.std.proofs.Common.{arith, subst, sym, ◌-◌, ◌∙◌}
use Rattle.ea_road.specs.Labels.{label_of}
use Rattle.ea_hierarchy.proofs.Finding.{read_at}
use Rattle.ea_goal.proofs.Reaching.{reached_none}
use Rattle.ea_asked.specs.Open.{met}
use Rattle.ea_asked.specs.Seeking.{ScansFor}
use Rattle.ea_asked.proofs.Ending.{visits_fresh, visits_stale}
use Rattle.ea_asked.proofs.search.Underway.visit.Goals as goal

pub returns-then-entry-label : goal.returns-then-entry-label
returns-then-entry-label g c =
    let table = c.args.self.now.table.labels.items in
    let read = read_at table (c.args.entry.node - 1) c.index-label.result.now (omega (arith, c.requires.node.from_one, c.requires.node.to_last, c.requires.can.labels)) c.index-label.ensures in
    record {
      reached = reached_none c.args.self.now.table;
      done = visits_stale c.args.network.now (g.T.TravelTimes.answers c.args.times.now) table c.args.self.now.frontier (met c.args.entry) (λ at within. c.if-entry-label.true (sym at ∙ read));
    }

pub returns-then-label-gt-HORIZON : goal.returns-then-label-gt-HORIZON
returns-then-label-gt-HORIZON g c =
    let table = c.args.self.now.table.labels.items in
    let read = read_at table (c.args.entry.node - 1) c.index-label.result.now (omega (arith, c.requires.node.from_one, c.requires.node.to_last, c.requires.can.labels)) c.index-label.ensures in
    record {
      reached = reached_none c.args.self.now.table;
      done = visits_stale c.args.network.now (g.T.TravelTimes.answers c.args.times.now) table c.args.self.now.frontier (met c.args.entry) (λ at within. omega (arith, within, read, c.if-label-gt-HORIZON.true));
    }

pub returns : goal.returns
returns g c =
    let roads = c.args.network.now in
    let answers = g.T.TravelTimes.answers c.args.times.now in
    let table = c.args.self.now.table.labels.items in
    let entries = c.args.self.now.frontier in
    let after = c.scan.new.self.table.labels.items in
    let last = c.scan.new.self.frontier in
    let read = read_at table (c.args.entry.node - 1) c.index-label.result.now (omega (arith, c.requires.node.from_one, c.requires.node.to_last, c.requires.can.labels)) c.index-label.ensures in
    let scans : ScansFor roads answers table entries after last c.args.entry.node (label_of table c.args.entry.node) =
    subst (λ t. ScansFor roads answers table entries after last c.args.entry.node t) (sym read) c.in_ok-scan.ensures.done in
    record {
      reached = c.scan.ensures.reached;
      done = visits_fresh roads answers table entries (met c.args.entry) after last c.keeps_limits.ensures c.requires.node (omega (arith, read, c.if-label-gt-HORIZON.false)) scans;
    }
