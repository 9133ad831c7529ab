use Rattle.std.proofs.Common.{arith}
use Rattle.ea_layout.proofs.Places.{among_at, laid_are_sources, laid_is_source}
use Rattle.ea_layout.proofs.laid_query.laid_query_of_all.Goals as goal

pub laid_source-requires : goal.laid_source-requires
laid_source-requires c = c.requires.can.nodes _ (among_at c.args.sources.now 0 (record { node = 0; departure = 0 }) (omega (arith, c.in-len1.len_at_least)))

pub from_one-requires : goal.from_one-requires
from_one-requires c =
    let among = among_at c.args.sources.now 0 (record { node = 0; departure = 0 }) (omega (arith, c.in-len1.len_at_least)) in
    rw c.laid_source.ensures (laid_is_source c.args.places.now _ c.requires.can.inside (c.requires.can.nodes _ among) (c.requires.sources.each _ among))

pub new-requires : goal.new-requires
new-requires c = rw c.in_ok-laid_sources-in_default.ensures (laid_are_sources c.args.places.now c.args.sources.now c.requires.can.inside c.requires.can.nodes c.requires.sources)
