use Rattle.ea_layout.proofs.Places.{among_at}
use Rattle.ea_layout.proofs.laid_query.laid_sources.Goals as goal

pub laid_source-requires : goal.laid_source-requires
laid_source-requires c = c.requires _ (among_at c.args.sources.now c.loop-source.source-index (record { node = 0; departure = 0 }) c.loop-source-test.true)
