use Rattle.std.proofs.Common.{ℕ, ◌<◌, get_or}
use Rattle.ea_road.specs.Queries.{IsSource}
use Rattle.ea_road.proofs.query.Query.fits.Given as goal

-- the sources so far fit
abbrev pub invariant-loop-source : goal.invariant-loop-source
invariant-loop-source l = (place : ℕ) → place < l.source-index → IsSource (get_or l.sources place (record { node = 0; departure = 0 }))
