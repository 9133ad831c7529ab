use Rattle.std.proofs.Common.{ℕ, ◌∙◌, refl, arith}
use Rattle.ea_search.specs.Searching.{KeepsRoom}
use Rattle.ea_search.proofs.buckets.frontier.Frontier.clear.Goals as goal

zero : ℕ → ℕ
zero node = 0

pub emptying-smaller : goal.emptying-smaller
emptying-smaller c = let taken = c.in-Some.ensures zero in omega (arith, taken.fewer)

pub emptying-preserved : goal.emptying-preserved
emptying-preserved c =
    let taken = c.in-Some.ensures zero in
    record { nodes = taken.nodes ∙ c.emptying.invariant.nodes; walks = taken.walks ∙ c.emptying.invariant.walks }

pub releasing-init : goal.releasing-init
releasing-init c = record { none = rw c.in_default.ensures.0 c.in_default.ensures.1; room = record { nodes = refl; walks = refl } }

pub releasing-preserved : goal.releasing-preserved
releasing-preserved c =
    let taken = c.in-Some-take_waiting.ensures in
    record {
      none = rw taken.lists c.releasing.invariant.none;
      room = record { nodes = taken.nodes ∙ c.releasing.invariant.room.nodes; walks = taken.walks ∙ c.releasing.invariant.room.walks };
    }

pub returns-clause-none : goal.returns-clause-none
returns-clause-none c = rw c.in_default-take_waiting.ensures.1 c.releasing.invariant.none

pub returns-clause-nobody : goal.returns-clause-nobody
returns-clause-nobody c = rw c.in_default-take_waiting.ensures.1 c.in_default-take_waiting.ensures.0

pub returns-clause-room : goal.returns-clause-room
returns-clause-room c =
    let emptied : KeepsRoom c.args.self.now.todo c.pop_lowest.new.self.todo = rw c.in_default.ensures.0 c.emptying.invariant in
    let released : KeepsRoom c.pop_lowest.new.self.todo c.take_waiting.new.self.todo = rw c.in_default-take_waiting.ensures.1 c.releasing.invariant.room in
    record { nodes = released.nodes ∙ emptied.nodes; walks = released.walks ∙ emptied.walks }
