use Rattle.ea_search.proofs.buckets.bucket_search.search_farther.Goals as goal

pub returns-clause-listed : goal.returns-clause-listed
returns-clause-listed g c = c.exhaust.ensures.onward.listed c.requires.listed
