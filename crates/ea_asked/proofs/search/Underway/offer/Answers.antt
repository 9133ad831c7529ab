use Rattle.std.proofs.Common.{arith, refl, rules, ◌<◌, ◌-◌}
use Rattle.ea_road.specs.Labels.{label_of}
use Rattle.ea_hierarchy.proofs.Finding.{read_at}
use Rattle.ea_goal.proofs.Offering.{offers_near, opens_with}
use Rattle.ea_goal.proofs.Reaching.{reached_more}
use Rattle.ea_asked.specs.Open.{no_bound}
use Rattle.ea_asked.proofs.search.Underway.offer.Goals as goal

pub returns : goal.returns
returns c =
    let table = c.args.self.now.table.labels.items in
    let node = c.requires.node in
    let at = read_at table (c.args.node - 1) c.index.result.now (omega (arith, node.to_last, node.from_one)) c.index.ensures in
    let low : c.args.time < label_of table c.args.node = omega (arith, at, node.from_one, c.if-time-index.false) in
    record {
      reached = reached_more c.args.self.now.table _ c.args.node c.args.time node.from_one refl c.add.ensures.there c.add.ensures.kept;
      done = λ target from. offers_near target no_bound table c.args.self.now.frontier c.open.new.self c.args.node c.args.time node.from_one node.to_last low
          (opens_with _ 0 c.args.self.now.frontier c.args.node c.args.time c.open.new.self c.args.time (omega arith) c.in_ok-open.ensures);
    }

pub returns-in_err-open : goal.returns-in_err-open
returns-in_err-open c = record {
  reached = reached_more c.args.self.now.table _ c.args.node c.args.time c.requires.node.from_one refl c.add.ensures.there c.add.ensures.kept;
  done = search rules;
}
