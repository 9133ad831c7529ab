use Rattle.std.proofs.Common.{arith}
use Rattle.ea_layout.proofs.Places.{among_at, laid_is_source}
use Rattle.ea_layout.proofs.laid_query.laid_from.Goals as goal

pub laid_source-requires : goal.laid_source-requires
laid_source-requires c = c.requires.can.nodes _ (among_at c.args.sources.now 0 (record { node = 0; departure = 0 }) (omega (arith, c.in-len1.len_at_least)))

pub pair-requires-clause-source : goal.pair-requires-clause-source
pair-requires-clause-source c =
    let among = among_at c.args.sources.now 0 (record { node = 0; departure = 0 }) (omega (arith, c.in-len1.len_at_least)) in
    rw c.laid_source.ensures (laid_is_source c.args.places.now _ c.requires.can.inside (c.requires.can.nodes _ among) (c.requires.sources.each _ among))
