use Rattle.std.proofs.Common.{◌<◌, ℕ, List, length, get_or, ◌∙◌, subst, ap, arith}
use Rattle.std.specs.List.{IsAmong}
use Rattle.std.proofs.lemmas.List.{take_more, take_all, get_or_default}
use Rattle.ea_road.specs.declared.source.Source.{Source}
use Rattle.ea_search.specs.Frontiers.{WaitsAt}
use Rattle.ea_search.specs.Underway.{bound_of}
use Rattle.ea_search.specs.Scans.{AwaitsScansFrom}
use Rattle.ea_search.proofs.Entries.{bound_of-none, AwaitsScansFrom-none, AwaitsScansFrom-source}
use Rattle.ea_search.proofs.Steps.{KeepsRoom-by, KeepsRoom-same}
use Rattle.ea_search.proofs.buckets.bucket_search.begin.Goals as goal

abbrev none : Source
none = record { node = 0; departure = 0 }

among_at : (sources : List Source) (place : ℕ) → place < length sources → IsAmong sources (get_or sources place none)
among_at sources place inside = (place, (inside, get_or_default sources place none (get_or sources place none) inside))

pub loop-source-init : goal.loop-source-init
loop-source-init g c = record {
  underway = rw c.requires.none (AwaitsScansFrom-none _ _ _ _ _);
  adds = λ v u k has. has;
  room = KeepsRoom-same _;
  listed = λ v has. absurd (has (ap (λ xs. bound_of xs v) c.requires.none ∙ bound_of-none c.args.network.now.nodes v));
}

pub start-requires : goal.start-requires
start-requires g c =
    let within = rw c.sources-source-items.ensures.sources at c.loop-source-test.true in
    let among = among_at c.args.query.now.sources c.loop-source.source-index within in
    let node = c.requires.problem.sources _ among in
    let places = c.loop-source.invariant.underway.places in
    rw c.sources-source-items.ensures.sources (record {
      can_fall = record { is_node = (node.from_one, omega (arith, node.to_last, places)); in_time = c.requires.problem.departures _ among };
      places = omega (arith, places, c.loop-source.invariant.room.nodes, c.requires.room);
    })

pub loop-source-preserved : goal.loop-source-preserved
loop-source-preserved g c =
    let sources = c.args.query.now.sources in
    let at = c.loop-source.source-index in
    let within = rw c.sources-source-items.ensures.sources at c.loop-source-test.true in
    let among = among_at sources at within in
    let lowers = rw c.sources-source-items.ensures.sources at c.start.ensures.lowers in
    let under = AwaitsScansFrom-source _ _ _ _ (get_or sources at none) _ _ _ _ _ _ (c.requires.problem.departures _ among) c.loop-source.invariant.underway lowers c.start.ensures.still in
    record {
      underway = rw (take_more sources at none within) under;
      room = KeepsRoom-by _ _ _ c.loop-source.invariant.room c.start.ensures.keeps.same_room;
      adds = λ v u k has. c.loop-source.invariant.adds v u k (c.start.ensures.adds v u k has);
      listed = c.start.ensures.keeps.listed c.loop-source.invariant.listed;
    }

pub returns-clause-underway : goal.returns-clause-underway
returns-clause-underway g c =
    let sources = c.args.query.now.sources in
    let past = rw c.sources-source-items.ensures.sources at c.loop-source-test.false in
    let all = take_all c.loop-source.source-index sources past in
    let P : List Source → Type 0 = λ xs. AwaitsScansFrom c.args.network.now (g.T.TravelTimes.answers c.args.times.now) xs c.args.query.now.target (g.L.Table.labels c.loop-source.table) (g.L.Table.met c.loop-source.table) (WaitsAt c.loop-source.frontier (bound_of (g.L.Table.labels c.loop-source.table))) in
    subst P all c.loop-source.invariant.underway
