use Rattle.std.proofs.Common.{◌≡◌, take}
use Rattle.ea_layout.specs.Renamed.{renamed_sources}
use Rattle.ea_layout.proofs.laid_query.laid_sources.Given as goal

abbrev pub invariant-loop-source : goal.invariant-loop-source
invariant-loop-source l = l.laid.items ≡ renamed_sources l.places (take l.source-index l.sources)
