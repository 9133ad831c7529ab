use Rattle.std.proofs.Common.{arith, refl, sym, subst, ◌<◌, ◌-◌, List, ℕ, set}
use Rattle.ea_road.specs.Labels.{label_of}
use Rattle.ea_search.specs.declared.labels.table.Reached.{Reached}
use Rattle.ea_hierarchy.proofs.Finding.{read_at}
use Rattle.ea_goal.specs.Potentials.{potential_of}
use Rattle.ea_goal.specs.Scans.{Offers}
use Rattle.ea_goal.specs.Visits.{KeepsReached}
use Rattle.ea_goal.proofs.Offering.{offers_near}
use Rattle.ea_goal.proofs.Reaching.{reached_more}
use Rattle.ea_goal.proofs.search.Underway.offer.Goals as goal

pub returns-clause-offers : goal.returns-clause-offers
returns-clause-offers c =
    let table = c.args.self.now.table.labels.items in
    let at = read_at table (c.args.node - 1) c.index.result.now (omega (arith, c.requires.in_table, c.requires.from_one)) c.index.ensures in
    let low : c.args.time < label_of table c.args.node = omega (arith, at, c.if-time-index.false) in
    let new : List ℕ = set table (c.args.node - 1) c.args.time in
    let bound : ℕ → ℕ = potential_of c.args.prepared.now c.args.self.now.potential in
    subst (λ (t : Reached). Offers c.args.target bound table c.args.self.now.frontier t.labels.items c.open.new.self.frontier c.args.node c.args.time) (sym c.open.ensures.table)
    (offers_near c.args.target bound table c.args.self.now.frontier c.open.new.self.frontier c.args.node c.args.time c.requires.from_one c.requires.in_table low c.in_ok-open.ensures.opens)

pub returns-clause-reached : goal.returns-clause-reached
returns-clause-reached c =
    subst (λ (t : Reached). KeepsReached c.args.self.now.table t) (sym c.open.ensures.table) (reached_more c.args.self.now.table _ c.args.node c.args.time c.requires.from_one refl c.add.ensures.there c.add.ensures.kept)

pub returns-in_err-open-clause-reached : goal.returns-in_err-open-clause-reached
returns-in_err-open-clause-reached c =
    subst (λ (t : Reached). KeepsReached c.args.self.now.table t) (sym c.open.ensures.table) (reached_more c.args.self.now.table _ c.args.node c.args.time c.requires.from_one refl c.add.ensures.there c.add.ensures.kept)
