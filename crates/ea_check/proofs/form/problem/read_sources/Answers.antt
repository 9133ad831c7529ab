use Rattle.std.proofs.Common.{◌∷◌, [], ◌+◌, drop, get_or, refl}
use Rattle.std.proofs.lemmas.Result.{err_from_is_err_and}
use Rattle.ea_road.specs.declared.source.Source.{Source}
use Rattle.ea_check.specs.Reads.{ReadsSources, SourcesWrong}
use Rattle.ea_check.proofs.Reading.{SourcesLeft, no_source, source_more, source_wrong}
use Rattle.ea_check.proofs.Sourced.{item_among}
use Rattle.ea_check.proofs.Stopping.{stop_behind, then_lines}
use Rattle.ea_check.proofs.form.problem.read_sources.Goals as goal

pub returns-in_err-read_source : goal.returns-in_err-read_source
returns-in_err-read_source g c =
    let p = err_from_is_err_and c.from_residual.result c.from_residual.ensures.1 in
    let sources = c.args.sources.now in
    let place = c.loop-source.source-index in
    rw (p.1, p.2) (record {
      sound = tt;
      read = stop_behind (SourcesLeft sources (drop {A = Source} place sources)) (SourcesWrong (get_or sources place no_source ∷ [])) (SourcesWrong sources)
          (λ lines next left number wrong. source_wrong sources place c.loop-source-test.true lines next left number wrong) _ (g.R.Device.seen c.loop-source.device) _ c.args.lines.now c.loop-source.lines c.read_source.new.lines _ c.loop-source.invariant.leads c.in_err-read_source.ensures.read;
    })

pub loop-source-preserved : goal.loop-source-preserved
loop-source-preserved g c =
    let sources = c.args.sources.now in
    let place = c.loop-source.source-index in
    record {
      sound = c.in_ok-read_source.ensures.sound;
      leads = then_lines (SourcesLeft sources (drop {A = Source} place sources)) (ReadsSources (get_or sources place no_source ∷ [])) (SourcesLeft sources (drop {A = Source} (place + 1) sources))
          (λ lines middle next left read. source_more sources place c.loop-source-test.true lines middle next left read) _ (g.R.Device.seen c.loop-source.device) _ c.args.lines.now c.loop-source.lines c.read_source.new.lines c.loop-source.invariant.leads c.in_ok-read_source.ensures.read;
    }

pub read_source-requires-clause-departure : goal.read_source-requires-clause-departure
read_source-requires-clause-departure g c =
    c.requires.departures _ (item_among c.args.sources.now c.args.sources.now c.loop-source.source-index no_source refl c.loop-source-test.true)
