use Rattle.ea_search.proofs.buckets.frontier.FrontierOpens.open.Goals as goal

pub returns-clause-kept : goal.returns-clause-kept
returns-clause-kept c = rw (← c.self.view_is) c.put.ensures.rest
