use Rattle.std.proofs.Common.{arith, sym, ◌-◌, ◌∙◌, ◌+◌}
use Rattle.ea_road.specs.Labels.{label_of}
use Rattle.ea_hierarchy.proofs.Finding.{read_at}
use Rattle.ea_goal.specs.Potentials.{potential_of}
use Rattle.ea_goal.proofs.Offering.{opens_none, opens_with, told_none, told_some}
use Rattle.ea_goal.proofs.search.Underway.open.Goals as goal

pub returns-then-label-last-clause-opens : goal.returns-then-label-last-clause-opens
returns-then-label-last-clause-opens c =
    let table = c.args.self.now.table.labels.items in
    let last = read_at table (c.args.target - 1) c.index-last.result.now (omega (arith, c.requires.target.0, c.requires.target.1)) c.index-last.ensures in
    opens_none (label_of table c.args.target) (potential_of c.args.prepared.now c.args.self.now.potential c.args.node) c.args.self.now.frontier c.args.node c.args.label (λ some. omega (arith, last, c.if-label-last.true))

pub returns-then-may_pass-clause-opens : goal.returns-then-may_pass-clause-opens
returns-then-may_pass-clause-opens c =
    let table = c.args.self.now.table.labels.items in
    opens_with (label_of table c.args.target) (potential_of c.args.prepared.now c.args.self.now.potential c.args.node) c.args.self.now.frontier c.args.node c.args.label c.pass.new.self c.args.label (omega arith) c.in_ok-pass.ensures

pub returns-in_default-clause-opens : goal.returns-in_default-clause-opens
returns-in_default-clause-opens c =
    let table = c.args.self.now.table.labels.items in
    let none = told_none (potential_of c.args.prepared.now c.args.self.now.potential c.args.node) (sym c.bound.ensures.bound ∙ c.in_default.is) in
    opens_none (label_of table c.args.target) (potential_of c.args.prepared.now c.args.self.now.potential c.args.node) c.args.self.now.frontier c.args.node c.args.label (λ some. absurd (omega (arith, some, none)))

pub returns-then-label-from-clause-opens : goal.returns-then-label-from-clause-opens
returns-then-label-from-clause-opens c =
    let table = c.args.self.now.table.labels.items in
    let last = read_at table (c.args.target - 1) c.index-last.result.now (omega (arith, c.requires.target.0, c.requires.target.1)) c.index-last.ensures in
    let is = told_some (potential_of c.args.prepared.now c.args.self.now.potential c.args.node) c.in-Some.bound (sym c.bound.ensures.bound ∙ c.in-Some.is) in
    opens_none (label_of table c.args.target) (potential_of c.args.prepared.now c.args.self.now.potential c.args.node) c.args.self.now.frontier c.args.node c.args.label (λ some. omega (arith, last, is, c.from.ensures, c.if-label-from.true))

pub returns-clause-opens : goal.returns-clause-opens
returns-clause-opens c =
    let table = c.args.self.now.table.labels.items in
    let is = told_some (potential_of c.args.prepared.now c.args.self.now.potential c.args.node) c.in-Some.bound (sym c.bound.ensures.bound ∙ c.in-Some.is) in
    opens_with (label_of table c.args.target) (potential_of c.args.prepared.now c.args.self.now.potential c.args.node) c.args.self.now.frontier c.args.node c.args.label c.open.new.self (c.args.label + c.in-Some.bound) (omega (arith, is)) c.in_ok-open.ensures
