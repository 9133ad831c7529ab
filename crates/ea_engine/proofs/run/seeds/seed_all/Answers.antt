use Rattle.std.proofs.Common.{◌≡◌, ℕ, ◌+◌, ◌<◌, List, length, get_or, take, sym, ◌∙◌, ap, arith, rules, subst, below_more}
use Rattle.std.specs.List.{IsAmong}
use Rattle.ea_road.specs.declared.source.Source.{Source}
use Rattle.ea_road.proofs.Reached.{reaches_source}
use Rattle.ea_engine.specs.Closed.{IsReachedBy}
use Rattle.ea_travel_times.proofs.Lists.{any_default}
use Rattle.ea_engine.proofs.BoundLemmas.{IsReachedBy-more}
use Rattle.ea_base.specs.declared.limits.TheConstants.{SHARES}
use Rattle.ea_labels.specs.declared.record.SeatRecord.{SeatRecord}
use Rattle.std.proofs.lemmas.List.{take_all}
use Rattle.ea_engine.specs.Seeds.{AreSeeds}
use Rattle.ea_engine.proofs.SeedLemmas.{IsSown, IsSown-start, IsSown-kept, IsSown-lowered}
use Rattle.ea_engine.proofs.OpeningLemmas.{OpensUpTo-none, OpensUpTo-then}
use Rattle.ea_engine.proofs.Settling.{pushed_then}
use Rattle.ea_engine.proofs.run.seeds.seed_all.Goals as goal
use Rattle.ea_engine.proofs.run.seeds.seed_all.Goals.{in-Kept, in-Pushed, in-HandedBack}

among : (sources all : List Source) (k : ℕ) (d : Source) → sources ≡ all → k < length sources → IsAmong all (get_or sources k d)
among sources all k d e lt = subst (λ xs. IsAmong xs (get_or sources k d)) e (k, (lt, any_default sources k d (get_or sources k d) lt))

pub seed-requires-clause-account : goal.seed-requires-clause-account
seed-requires-clause-account g c κs outlives = c.loop-place.invariant.account

pub seed-requires-clause-source : goal.seed-requires-clause-source
seed-requires-clause-source g c κs outlives =
    let ground = c.requires.may.is_ground in
    let problem = g.K.Posed.problem in
    let inside = among c.sources-sources.result.now problem.query.sources c.loop-place.place (record { node = 0; departure = 0 }) (c.sources-sources.ensures.sources ∙ ap (λ q. q.sources) ground.named.query_is) (omega arith) in
    let start = ground.posed.sources_in _ inside in
    record {
      node = record { from_one = start.0.from_one; to_last = omega (arith, start.0.to_last, ground.places_are) };
      is_known = (ground.posed.names _ _).1 (reaches_source problem.network _ problem.query.sources _ inside start.1);
    }

pub loop-place-init : goal.loop-place-init
loop-place-init g c = record {
  account = c.requires.may.account;
  opens = OpensUpTo-none _;
  offered = λ k d lt. absurd (omega (arith, lt));
  step = search rules;
  counted = λ new. IsSown-start _ _ (ap (λ (r : SeatRecord). r.lowerings) new);
  tried = omega arith;
}

pub loop-place-preserved : goal.loop-place-preserved
loop-place-preserved g c = record {
  account = c.seed.ensures.account;
  opens = elim c.match-seed.branch [
    | in-Kept w ↦ OpensUpTo-then _ _ _ _ 0 _ c.loop-place.invariant.opens w.in-Kept.ensures.opens (omega arith)
    | in-Pushed w ↦ OpensUpTo-then _ _ _ _ 0 _ c.loop-place.invariant.opens w.in-Pushed.ensures.opens (omega arith)
    | in-HandedBack w ↦ OpensUpTo-then _ _ _ _ 1 _ c.loop-place.invariant.opens w.in-HandedBack.ensures.opens (omega arith)
  ];
  offered = λ k d lt.
      let sources = c.sources-sources.result.now in
      let bounds = c.seed.new.seats.label_seat.history.bounds in
      let P : ℕ → Type 0 = λ j. (e : Source) → IsReachedBy bounds (get_or sources j e).node (get_or sources j e).departure in
      below_more P c.loop-place.place
      (λ j lower e. IsReachedBy-more c.loop-place.seats.label_seat.history.bounds bounds c.seed.ensures.bounds _ _ (c.loop-place.invariant.offered j e lower))
      (λ e. subst (λ (s : Source). IsReachedBy bounds s.node s.departure) (any_default sources c.loop-place.place (record { node = 0; departure = 0 }) e (omega arith)) c.seed.ensures.reached)
      k lt d;
  step = elim c.match-seed.branch [
    | in-Kept w ↦ pushed_then _ _ _ _ 0 _ c.loop-place.invariant.step w.in-Kept.ensures.step (omega arith)
    | in-Pushed w ↦ pushed_then _ _ _ _ 1 _ c.loop-place.invariant.step w.in-Pushed.ensures.step (omega arith)
    | in-HandedBack w ↦ pushed_then _ _ _ _ 0 _ c.loop-place.invariant.step w.in-HandedBack.ensures.step (omega arith)
  ];
  counted = λ new.
      let sources = c.sources-sources.result.now in
      let source : Source = record { node = 0; departure = 0 } in
      let here : c.loop-place.place < length sources = omega arith in
      let h = c.loop-place.invariant.counted new in
      let whole : c.loop-place.seats.label_seat.history.shares ≡ SHARES = c.loop-place.invariant.step.label_shares ∙ ap (λ (r : SeatRecord). r.shares) new in
      let P : ℕ → Type 0 = λ n. IsSown sources (c.loop-place.place + 1) c.seed.new.seats.label_seat.history.lowerings n in
      elim c.match-seed.branch [
        | in-Kept w ↦ subst P (omega arith) (IsSown-kept sources c.loop-place.place source here _ _ _ h w.in-Kept.ensures.offers whole)
        | in-Pushed w ↦ subst P (omega arith) (IsSown-lowered sources c.loop-place.place source here _ _ _ h w.in-Pushed.ensures.offers c.loop-place.invariant.offered)
        | in-HandedBack w ↦ subst P (omega arith) (IsSown-lowered sources c.loop-place.place source here _ _ _ h w.in-HandedBack.ensures.offers c.loop-place.invariant.offered)
      ];
  tried = elim c.match-seed.branch [
    | in-Kept w ↦ omega (arith, c.loop-place.invariant.tried)
    | in-Pushed w ↦ omega (arith, c.loop-place.invariant.tried)
    | in-HandedBack w ↦ omega (arith, c.loop-place.invariant.tried)
  ];
}

pub returns : goal.returns
returns g c =
    let sources = c.sources-sources.result.now in
    let inv = c.loop-place.invariant in
    let are = c.sources-sources.ensures.sources ∙ ap (λ q. q.sources) c.requires.may.is_ground.named.query_is in
    record {
      account = c.loop-place.invariant.account;
      offered = λ source inside.
          let here = subst (λ xs. IsAmong xs source) (sym are) inside in
          subst (λ (s : Source). IsReachedBy c.loop-place.seats.label_seat.history.bounds s.node s.departure) (sym here.1.1) (inv.offered here.0 source (omega (arith, here.1.0)));
      step = inv.step;
      opens = inv.opens;
      small = omega (arith, inv.tried);
      counted = λ new.
          let all : take c.loop-place.place sources ≡ sources = take_all c.loop-place.place sources (omega arith) in
          subst (λ xs. AreSeeds xs (c.loop-place.seeded + c.loop-place.returned)) (all ∙ are) (inv.counted new).seeds;
    }
