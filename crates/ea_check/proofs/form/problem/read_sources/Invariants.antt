use Rattle.std.proofs.Common.{drop}
use Rattle.ea_road.specs.declared.source.Source.{Source}
use Rattle.ea_check.specs.Streams.{IsSound, LeadsTo}
use Rattle.ea_check.proofs.Reading.{SourcesLeft}
use Rattle.ea_check.proofs.form.problem.read_sources.Given as goal

abbrev pub invariant-loop-source : goal.invariant-loop-source
invariant-loop-source g l = record {
  sound : IsSound l.lines;
  leads : LeadsTo (SourcesLeft l.sources (drop {A = Source} l.source-index l.sources)) (g.R.Device.seen l.fn.device) l.fn.lines (g.R.Device.seen l.device) l.lines;
}
