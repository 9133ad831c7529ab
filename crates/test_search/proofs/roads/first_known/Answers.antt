use Rattle.std.proofs.Common.{get_or}
use Rattle.std.specs.List.{IsAmong}
use Rattle.std.proofs.lemmas.List.{get_or_default}
use Rattle.ea_road.specs.declared.source.Source.{Source}
use Rattle.ea_road.proofs.Reached.{reaches_source}
use Rattle.test_search.proofs.roads.first_known.Goals as goal

abbrev none : Source
none = record { node = 0; departure = 0 }

pub invariant_of-held : goal.invariant_of-held
invariant_of-held g c =
    let sources = c.args.query.now.sources in
    let source = get_or sources 0 none in
    let among : IsAmong sources source = (0, (c.requires.some, get_or_default sources 0 none source c.requires.some)) in
    let reaches = reaches_source c.args.network.now (g.T.TravelTimes.answers c.args.times.now) sources source among (c.sources.ensures.query.sources.each source among).within in
    rw c.sources.ensures.sources (record { is_known = ∣ (c.requires.names source.node source.departure).1 reaches ∣₁ })
