use Rattle.std.proofs.Common.{[], inl, arith}
use Rattle.ea_search.proofs.Listings.{no_link_outside}
use Rattle.ea_asked.proofs.asked_search.AskedSearch.into_arrays.Goals as goal

pub put_back-requires-2-clause-links : goal.put_back-requires-2-clause-links
put_back-requires-2-clause-links c = λ node. inl (no_link_outside [] node (λ from to. omega (arith, from, to)))
