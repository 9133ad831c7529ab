use Rattle.ea_layout.proofs.laid_search.LaidSearch.find.Goals as goal

pub laid_pair-requires-clause-can : goal.laid_pair-requires-clause-can
laid_pair-requires-clause-can g c =
    let reverse = c.requires.laid_out.reverse in
    let long = reverse.there_length in
    record {
      nodes = rw (c.deref.ensures.value, long) c.requires.problem.sources;
      inside = rw (c.deref.ensures.value, long) reverse.there_node;
    }
