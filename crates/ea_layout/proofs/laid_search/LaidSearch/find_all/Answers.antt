use Rattle.ea_layout.proofs.laid_search.LaidSearch.find_all.Goals as goal

pub laid_query-requires-clause-can : goal.laid_query-requires-clause-can
laid_query-requires-clause-can g c =
    let reverse = c.requires.laid_out.reverse in
    let long = reverse.there_length in
    record {
      nodes = rw (c.deref.ensures.value, long) c.requires.problem.sources;
      inside = rw (c.deref.ensures.value, long) reverse.there_node;
    }
