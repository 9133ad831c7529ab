use Rattle.std.proofs.Common.{◌≡◌, ℕ, ◌<◌, List, length, get_or, refl, sym, subst, arith}
use Rattle.std.proofs.lemmas.List.{get_or_read, get_or_default}
use Rattle.ea_road.specs.declared.source.Source.{Source}
use Rattle.ea_capi.specs.Sessions.{IsStart}
use Rattle.ea_capi.specs.Calls.{AreStarts}
use Rattle.ea_capi.proofs.session.queries.are_starts.Goals as goal

abbrev none : Source
none = record { node = 0; departure = 0 }

sources_of : (nodes : ℕ) (sources : List Source) → ((place : ℕ) → place < length sources → IsStart nodes (get_or sources place none)) → AreStarts nodes sources
sources_of nodes sources each = record {
  each = λ source among.
      let read : source ≡ get_or sources among.0 none = get_or_read sources among.0 source among.1.0 among.1.1 none in
      subst (λ (s : Source). IsStart nodes s) (sym read) (each among.0 among.1.0);
}

pub returns-then-not-is_start : goal.returns-then-not-is_start
returns-then-not-is_start c = (
  λ no. cc,
  λ sources.
      let place = c.loop-source.source-index in
      let fits = c.is_start.ensures.1 (sources.each (get_or c.args.sources.now place none) (place, (c.loop-source-test.true, get_or_default c.args.sources.now place none (get_or c.args.sources.now place none) c.loop-source-test.true))) in
      let fails = c.if-not-is_start.true in
      cc,
)

pub returns : goal.returns
returns c = (
  λ _. sources_of c.args.nodes c.args.sources.now (λ place low. c.loop-source.invariant place (omega arith)),
  λ _. refl,
)
