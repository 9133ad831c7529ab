use Rattle.std.proofs.Common.{◌+◌, ◌-◌, ◌/◌, get_or, refl, arith, inl, inr}
use Rattle.std.proofs.lemmas.Bool.{false≢true}
use Rattle.std.proofs.lemmas.Bool.Decides.{leb_tells}
use Rattle.ea_road.specs.declared.source.Source.{Source}
use Rattle.ea_road.specs.Arrivals.{Arrives}
use Rattle.ea_check.proofs.Ordering.{among_ordered, none_before, none_behind}
use Rattle.ea_check.proofs.Walks.{attains_nowhere, no_first_arc, begins_there}
use Rattle.ea_check.proofs.judge.walk_sources.attains.Goals as goal

abbrev none : Source
none = record { node = 0; departure = 0 }

pub returns-in_default : goal.returns-in_default
returns-in_default g c = (
  λ no. absurd (false≢true no),
  λ attains. absurd (no_first_arc c.args.network.now _ c.args.query.now.sources c.args.arcs.now c.args.node c.args.time c.in_default.ensures.0 c.in_default.ensures.1 attains),
)

pub beside-requires-clause-source : goal.beside-requires-clause-source
beside-requires-clause-source g c =
    let high = c.halves.invariant.high in
    among_ordered c.args.query.now.sources c.args.ordered.now (c.halves.low + (c.halves.high - c.halves.low) / 2) none c.requires.ordered (omega (arith, c.halves-test.true))

pub beside-requires-clause-start : goal.beside-requires-clause-start
beside-requires-clause-start g c = begins_there c.args.network.now _ c.args.arcs.now c.in-Some.start c.args.node c.args.time c.in-Some.ensures

pub halves-preserved-in-Before : goal.halves-preserved-in-Before
halves-preserved-in-Before g c =
    let low = c.halves-test.true in
    let high = c.halves.invariant.high in
    record {
      low = omega (arith, c.halves-test.true);
      high = c.halves.invariant.high;
      none = none_before c.args.query.now.sources c.args.ordered.now c.halves.low c.halves.high (c.halves.low + (c.halves.high - c.halves.low) / 2) none (λ source. Arrives c.args.network.now (g.T.TravelTimes.answers c.args.times.now) source.node source.departure c.args.arcs.now c.args.node c.args.time) c.requires.ordered (omega arith) c.halves.invariant.none (c.in-Before.ensures);
    }

pub halves-preserved : goal.halves-preserved
halves-preserved g c =
    let low = c.halves-test.true in
    let high = c.halves.invariant.high in
    record {
      low = omega arith;
      high = omega arith;
      none = none_behind c.args.query.now.sources c.args.ordered.now c.halves.low c.halves.high (c.halves.low + (c.halves.high - c.halves.low) / 2) none (λ source. Arrives c.args.network.now (g.T.TravelTimes.answers c.args.times.now) source.node source.departure c.args.arcs.now c.args.node c.args.time) c.requires.ordered c.halves.invariant.none (c.in-Beyond.ensures);
    }

pub returns-in-Here : goal.returns-in-Here
returns-in-Here g c =
    let high = c.halves.invariant.high in
    let middle = c.halves.low + (c.halves.high - c.halves.low) / 2 in (
      λ yes. record {
        source = get_or c.args.ordered.now middle none;
        among = among_ordered c.args.query.now.sources c.args.ordered.now middle none c.requires.ordered (omega (arith, c.halves-test.true));
        arrives = c.in-Here.ensures;
      },
      λ attains. refl,
    )

pub returns : goal.returns
returns g c = (
  λ no. absurd (false≢true no),
  λ attains. absurd (attains_nowhere c.args.network.now _ c.args.query.now.sources c.args.ordered.now c.args.arcs.now c.args.node c.args.time c.requires.ordered (λ place source inside arrives. elim (leb_tells c.halves.low place) [
    | inl high ↦ c.halves.invariant.none place source (inr (omega (arith, high.1, c.halves-test.false))) inside arrives
    | inr low ↦ c.halves.invariant.none place source (inl (omega (arith, low.1))) inside arrives
  ]) attains),
)
