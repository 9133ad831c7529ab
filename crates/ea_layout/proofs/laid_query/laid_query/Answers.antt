use Rattle.ea_layout.proofs.laid_query.laid_query.Goals as goal

pub laid_query_of_all-requires-clause-can : goal.laid_query_of_all-requires-clause-can
laid_query_of_all-requires-clause-can c = rw c.sources-sources.ensures.sources c.requires.can
