use Rattle.ea_search.proofs.Fronts.{taken_waiting}
use Rattle.ea_search.proofs.buckets.frontier.Frontier.take_waiting.Goals as goal

pub invariant_of-self : goal.invariant_of-self
invariant_of-self c = (c.self.invariant.0, rw c.take.ensures.room.0 c.self.invariant.1)

pub returns : goal.returns
returns c = rw (← c.self.view_is) (taken_waiting c.take.result _ c.self.inside.todo c.take.new.self c.take.ensures.taken c.take.ensures.room c.take.ensures.node)
