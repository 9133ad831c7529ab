use Rattle.std.proofs.Common.{ℕ, ◌<◌, get_or}
use Rattle.ea_capi.specs.Latest.{IsStop}
use Rattle.ea_capi.proofs.session.until.are_stops.Given as goal

-- the targets so far are valid
abbrev pub invariant-loop-target : goal.invariant-loop-target
invariant-loop-target l = (place : ℕ) → place < l.target-index → IsStop l.nodes (get_or l.targets place (record { node = 0; time = 0 }))
