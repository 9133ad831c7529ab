use Rattle.ea_search.proofs.buckets.frontier.Frontier.over.Goals as goal

pub invariant_of-result : goal.invariant_of-result
invariant_of-result c = (c.requires.length, c.requires.entries)
