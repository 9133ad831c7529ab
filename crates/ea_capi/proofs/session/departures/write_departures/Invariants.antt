use Rattle.ea_capi.proofs.Telling.{AreDepartures}
use Rattle.ea_capi.proofs.session.departures.write_departures.Given as goal

abbrev pub invariant-loop-place : goal.invariant-loop-place
invariant-loop-place l = AreDepartures l.answer l.out l.place
