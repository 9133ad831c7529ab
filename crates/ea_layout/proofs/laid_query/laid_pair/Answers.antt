use Rattle.ea_layout.proofs.laid_query.laid_pair.Goals as goal

pub laid_from-requires-clause-can : goal.laid_from-requires-clause-can
laid_from-requires-clause-can c = rw c.sources-sources.ensures.sources c.requires.can
