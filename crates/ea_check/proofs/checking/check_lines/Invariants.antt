use Rattle.std.proofs.Common.{◌≡◌, drop}
use Rattle.ea_road.specs.Queries.{Asking}
use Rattle.ea_check.specs.Checked.{sources_of}
use Rattle.ea_check.specs.Lazy.{roads_in}
use Rattle.ea_check.specs.Parts.{AreFewParts}
use Rattle.ea_check.specs.Streams.{IsSound, LeadsTo}
use Rattle.ea_check.proofs.Onward.{ProblemsLeft}
use Rattle.ea_check.proofs.checking.check_lines.Given as goal

abbrev pub invariant-loop-query : goal.invariant-loop-query
invariant-loop-query g l = record {
  done : l.done ≡ l.query-index;
  network : roads_in l.network ≡ roads_in l.fn.network;
  sound : IsSound l.lines;
  parts : AreFewParts (roads_in l.fn.network) l.parts;
  leads : LeadsTo (ProblemsLeft (roads_in l.fn.network) (g.T.TravelTimes.answers l.times) (sources_of l.queries) (sources_of (drop {A = Asking} l.query-index l.queries)) l.verdict) (g.R.Device.seen l.fn.device) l.fn.lines (g.R.Device.seen l.device) l.lines;
}
