use Rattle.std.proofs.Common.{ℕ, ◌<◌, get_or}
use Rattle.ea_capi.specs.Sessions.{IsStart}
use Rattle.ea_capi.proofs.session.queries.are_starts.Given as goal

-- the sources so far are valid
abbrev pub invariant-loop-source : goal.invariant-loop-source
invariant-loop-source l = (place : ℕ) → place < l.source-index → IsStart l.nodes (get_or l.sources place (record { node = 0; departure = 0 }))
