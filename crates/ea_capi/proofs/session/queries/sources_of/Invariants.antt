use Rattle.std.proofs.Common.{◌≡◌, take}
use Rattle.ea_capi.specs.Sessions.{starts}
use Rattle.ea_capi.proofs.session.queries.sources_of.Given as goal

abbrev pub invariant-loop-i : goal.invariant-loop-i
invariant-loop-i l = l.sources.items ≡ starts (take l.i l.nodes) (take l.i l.departures)
