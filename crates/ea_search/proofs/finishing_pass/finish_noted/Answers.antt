use Rattle.std.proofs.Common.{◌<◌, ◌≤◌, ◌∙◌, ap, arith, rules, inl, inr}
use Rattle.std.proofs.lemmas.Bool.{cases_lt}
use Rattle.ea_road.specs.Labels.{limit}
use Rattle.ea_road.proofs.ByTail.{leaving_has}
use Rattle.ea_search.specs.Underway.{bound_of}
use Rattle.ea_search.specs.Worklist.{Room}
use Rattle.ea_search.proofs.Worklists.{Contains-cons_cases}
use Rattle.ea_search.proofs.Boundary.{same_limit, fixed_of}
use Rattle.ea_search.proofs.Entries.{AwaitsScansFrom-scanned, AwaitsScansFrom-unlabelled, AwaitsScansFrom-above}
use Rattle.ea_search.proofs.Falls.{FallsBy-scanned}
use Rattle.ea_search.proofs.Steps.{SearchesOn-same, SearchesOn-then}
use Rattle.ea_search.proofs.finishing_pass.finish_noted.Goals as goal

pub loop-node-init : goal.loop-node-init
loop-node-init g c = record {
  underway = c.requires.underway;
  onward = SearchesOn-same _ _ _ _ _ _;
  room = c.requires.room;
  walks = search rules;
}

pub loop-node-preserved-then-departure-last :
    goal.loop-node-preserved-then-departure-last
loop-node-preserved-then-departure-last g c =
    let table = g.L.Table.labels c.loop-node.table in
    let node = c.in-Some.node in
    let before = rw c.in-Some.ensures.taken at c.loop-node.invariant.underway in
    let is_node : (0 < node) × (node ≤ c.loop-node.todo.nodes) = c.in-Some.ensures.node in
    let room = c.loop-node.invariant.room in
    let places = before.places in
    let at_label = c.label-departure.ensures in
    let limited = rw (c.target-target.ensures.target, ← same_limit c.args.network.now (g.T.TravelTimes.answers c.args.times.now) _ c.args.query.now c.keeps_limits.ensures c.requires.problem table places) at c.latest.ensures in
    let scanned = c.scan.ensures.scanned in
    record {
      underway = (AwaitsScansFrom-scanned _ _ _ _ node _ _ _ _ _ _ _ _ _ before (λ v there. Contains-cons_cases node v _ there) at_label (omega arith) (λ n arc is_arc tail. leaving_has c.args.network.now node n arc is_arc tail) scanned);
      onward = SearchesOn-then _ _ _ _ _ _ _ _ _ _ _ _ c.loop-node.invariant.onward c.requires.problem.target (FallsBy-scanned _ _ _ _ _ _ _ _ _ _ _ scanned) (omega (arith, limited, c.min-last.ensures, c.if-departure-last.true)) c.scan.ensures.keeps.listed (c.scan.ensures.had (omega (arith, at_label)));
      room = ap (λ (r : Room). r.nodes) c.scan.ensures.keeps.same_room ∙ c.in-Some.ensures.room.0 ∙ room;
      walks = ap (λ (r : Room). r.walks) c.scan.ensures.keeps.same_room ∙ c.in-Some.ensures.room.1 ∙ c.loop-node.invariant.walks;
    }

pub loop-node-preserved : goal.loop-node-preserved
loop-node-preserved g c =
    let table = g.L.Table.labels c.loop-node.table in
    let node = c.in-Some.node in
    let before = rw c.in-Some.ensures.taken at c.loop-node.invariant.underway in
    let is_node : (0 < node) × (node ≤ c.loop-node.todo.nodes) = c.in-Some.ensures.node in
    let room = c.loop-node.invariant.room in
    let places = before.places in
    let at_label = c.label-departure.ensures in
    let limited = rw (c.target-target.ensures.target, ← same_limit c.args.network.now (g.T.TravelTimes.answers c.args.times.now) _ c.args.query.now c.keeps_limits.ensures c.requires.problem table places) at c.latest.ensures in
    record {
      underway = elim (cases_lt (limit c.args.query.now.target (bound_of table)) (bound_of table node)) [
        | inl above ↦ AwaitsScansFrom-above _ _ _ _ node table _ _ _ before (λ v there. Contains-cons_cases node v _ there) above
        | inr below ↦ AwaitsScansFrom-unlabelled _ _ _ _ node table _ _ _ before (λ v there. Contains-cons_cases node v _ there) (omega (arith, limited, c.min-last.ensures))
      ];
      onward = c.loop-node.invariant.onward;
      room = c.in-Some.ensures.room.0 ∙ room;
      walks = c.in-Some.ensures.room.1 ∙ c.loop-node.invariant.walks;
    }

pub returns-clause-finished : goal.returns-clause-finished
returns-clause-finished g c =
    let under = rw c.in_default.ensures.taken.0 at c.loop-node.invariant.underway in
    record {
      places = under.places;
      fixed = fixed_of c.args.network.now _ _ c.args.query.now c.keeps_limits.ensures c.requires.problem (g.L.Table.labels c.loop-node.table) under.places (g.L.Table.met c.loop-node.table) under;
      nobody = rw c.in_default.ensures.taken.1 c.in_default.ensures.taken.0;
      room = c.in_default.ensures.room.0 ∙ c.loop-node.invariant.room;
    }

pub returns-clause-met : goal.returns-clause-met
returns-clause-met g c = rw c.in_default.ensures.taken.0 at c.loop-node.invariant.underway
