use Rattle.ea_search.proofs.buckets.offer_count.count_offers.Goals as goal

pub over-frontier-requires-clause-entries : goal.over-frontier-requires-clause-entries
over-frontier-requires-clause-entries g c = λ entry is. absurd (c.in_ok-lists.ensures.empty entry is)
