use Rattle.ea_search.proofs.Fronts.{KeepsWaiting-then}
use Rattle.ea_search.proofs.buckets.frontier.Frontier.narrow.Goals as goal

pub returns : goal.returns
returns c = λ label. rw (← c.self.view_is) (KeepsWaiting-then label _ _ _ (c.pour.ensures label) (c.spread.ensures label))
