use Rattle.std.proofs.Common.{◌≡◌, [], ◌∷◌, map, take}
use Rattle.ea_load.specs.Starts.{asks_all}
use Rattle.ea_load.proofs.departures.queries_from.Given as goal

abbrev pub invariant-loop-source : goal.invariant-loop-source
invariant-loop-source l = l.queries.items ≡ map (λ source. asks_all (source ∷ [])) (take l.source-index l.sources)
