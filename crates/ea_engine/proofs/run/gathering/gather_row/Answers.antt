use Rattle.std.proofs.Common.{◌≡◌, ◌<◌, [], ◌∷◌, ◌++◌, length, sym, ◌∙◌, ap, arith, subst, length-append, All}
use Rattle.std.proofs.lemmas.List.{length-map}
use Rattle.std.proofs.lemmas.List.Elements.{All-tail}
use Rattle.std.specs.Vec.Iter.{into_iter_items}
use Rattle.ea_engine.specs.Seated.{tables}
use Rattle.ea_engine.specs.declared.run.row.Place.TheVariants as place
use Rattle.ea_engine.specs.Ends.{IsEndPlace}
use Rattle.ea_engine.specs.Rowed.{all_done, IsFirstEnd}
use Rattle.ea_engine.proofs.RowedLemmas.{all_done-more, all_done-length, split_first, nothing_after, first_place_done, first_done, first_end, gathered_more}
use Rattle.ea_engine.proofs.run.gathering.gather_row.Goals as goal
use Rattle.ea_engine.proofs.run.gathering.gather_row.Goals.{After-end_at, After-gathering-1}

-- the first place of the row, and the others
parts : (g : _) (c : After-end_at g) → (c.requires.row.row_done.first ≡ c.end_at.result) × (c.requires.row.row_done.others ≡ into_iter_items c.next.new.self)
parts g c =
    split_first c.args.row.items c.requires.row.row_done.first c.end_at.result c.in-Some.place c.requires.row.row_done.others (into_iter_items c.next.new.self) c.requires.row.row_done.row_is (sym c.into_iter-places.ensures.rest ∙ c.in-Some.ensures.items) c.end_at.ensures.end

pub begin_gathering-gathering-requires-clause-end : goal.begin_gathering-gathering-requires-clause-end
begin_gathering-gathering-requires-clause-end g c κs within =
    let d = (goal.at.begin_gathering-gathering-requires-clause-end g c).After-end_at in
    subst (λ end. IsFirstEnd g.K.Posed.problem (tables c.args.labels.now c.args.pool.now) c.args.seeds.seeded c.args.todo.waiting end) (parts g d).0 c.requires.row.row_done.first_end

pub loop-place-init : goal.loop-place-init
loop-place-init g c =
    let d = (goal.at.loop-place-init g c).After-end_at in
    let same = ap into_iter_items c.into_iter-place-iterator.ensures.into_iter_gives in
    let others = (parts g d).1 ∙ sym same in
    let first = (parts g d).0 in
    record {
      can_next = tt;
      is_finite = tt;
      ends = c.end_at.result ∷ [];
      gathered = c.begin_gathering-gathering.ensures.gathered;
      row_is = sym c.into_iter-places.ensures.rest ∙ c.in-Some.ensures.items ∙ ap (λ p. p ∷ into_iter_items c.next.new.self) c.end_at.ensures.end ∙ ap (λ ps. place.Done c.end_at.result ∷ ps) (sym same);
      rest = subst (λ ps. All (IsEndPlace g.K.Posed.problem (tables c.args.labels.now c.args.pool.now)) ps) others c.requires.row.row_done.other_ends;
      walks = c.begin_gathering-gathering.ensures.walks;
      label_shares = omega (arith, c.requires.row.row_done.label_shares, c.begin_gathering-gathering.ensures.label_shares, ap (λ e. e.label_seat.history.shares) first, ap length others);
      pool_shares = omega (arith, c.requires.row.row_done.pool_shares, c.begin_gathering-gathering.ensures.pool_shares, ap (λ e. e.pool_seat.account.shares) first, ap length others);
      room = c.begin_gathering-gathering.ensures.room;
    }

pub end_at-requires-in-loop-place-clause-done : goal.end_at-requires-in-loop-place-clause-done
end_at-requires-in-loop-place-clause-done g c κs within = first_done _ _ c.in-Some-place.place _ _ c.loop-place.invariant.rest c.in-Some-place.ensures.steps.0

-- fewer workers are gathered than there is room for
counted : (g : _) (c : After-gathering-1 g) → length c.loop-place.invariant.ends < length c.args.row.items
counted g c =
    omega (arith, ap length c.loop-place.invariant.row_is, length-append (all_done c.loop-place.invariant.ends) (into_iter_items c.loop-place.place-iterator), all_done-length c.loop-place.invariant.ends, ap length c.in-Some-place.ensures.steps.0)

pub join_end-requires-clause-may : goal.join_end-requires-clause-may
join_end-requires-clause-may g c κs within =
    let d = (goal.at.join_end-requires-clause-may g c).After-gathering-1 in
    let inv = c.loop-place.invariant in
    let few = counted g d in
    let room = c.requires.row.may.unfilled in
    let results = c.loop-place.gathering.results in
    record {
      account = inv.gathered.account;
      counters_room = omega (arith, few, room.counters_room, inv.room.counters, ap length inv.gathered.counters_are, length-map inv.ends (λ e. e.counters), results.counters.ok, c.args.row.ok);
      rngs_room = omega (arith, few, room.rngs_room, inv.room.rngs, ap length inv.gathered.rngs_are, length-map inv.ends (λ e. e.rng), results.rngs.ok, c.args.row.ok);
      tracers_room = omega (arith, few, room.tracers_room, inv.room.tracers, ap length inv.gathered.tracers_are, length-map inv.ends (λ e. e.tracer), results.tracers.ok, c.args.row.ok);
      returned_few = omega (arith, inv.gathered.returned_few, few, c.requires.row.row_done.few, c.requires.row.may.holds.back_few);
      is_end = first_end _ _ c.in-Some-place.place c.end_at-in-loop-place.result _ _ inv.rest c.in-Some-place.ensures.steps.0 c.end_at-in-loop-place.ensures.end;
    }

pub loop-place-preserved : goal.loop-place-preserved
loop-place-preserved g c =
    let inv = c.loop-place.invariant in
    let steps = c.in-Some-place.ensures.steps.0 in
    let end = c.end_at-in-loop-place.result in
    let e = c.join_end.ensures in
    let is = first_end _ _ c.in-Some-place.place end _ _ inv.rest steps c.end_at-in-loop-place.ensures.end in
    record {
      can_next = tt;
      is_finite = tt;
      ends = inv.ends ++ end ∷ [];
      gathered = gathered_more _ _ c.args.seeds.seeded c.args.seeds.returned inv.ends end c.loop-place.gathering c.join_end.new.gathering inv.gathered e is.pushed_few;
      row_is = all_done-more c.args.row.items inv.ends end c.in-Some-place.place _ _ inv.row_is steps c.end_at-in-loop-place.ensures.end;
      rest = All-tail (IsEndPlace g.K.Posed.problem (tables c.args.labels.now c.args.pool.now)) c.in-Some-place.place _ (rw steps at inv.rest);
      walks = e.opens.walks_are ∙ inv.walks;
      label_shares = omega (arith, inv.label_shares, e.label_shares, ap length steps);
      pool_shares = omega (arith, inv.pool_shares, e.pool_shares, ap length steps);
      room = record {
        counters = e.room.counters ∙ inv.room.counters;
        rngs = e.room.rngs ∙ inv.room.rngs;
        tracers = e.room.tracers ∙ inv.room.tracers;
      };
    }

pub returns : goal.returns
returns g c =
    let inv = c.loop-place.invariant in
    let none = c.in-None.ensures.steps in
    let ended : length (into_iter_items c.loop-place.place-iterator) ≡ 0 = omega (arith, none.0, c.loop-place.place-iterator.rest.ok.0) in
    record {
      ends = inv.ends;
      row_is = inv.row_is ∙ nothing_after (all_done inv.ends) _ ended;
      all = inv.gathered;
      shares = record { fit = inv.gathered.account.fit; labels = omega (arith, inv.label_shares, ended); pool = omega (arith, inv.pool_shares, ended) };
      walks_are = inv.walks;
    }

pub begin_gathering-gathering-requires-clause-gather : goal.begin_gathering-gathering-requires-clause-gather
begin_gathering-gathering-requires-clause-gather g c κs within =
    let room = c.requires.row.may.unfilled in
    let one = ap length c.requires.row.row_done.row_is in
    record {
      holds = c.requires.row.may.holds;
      unfilled = record {
        counters = room.counters;
        rngs = room.rngs;
        tracers = room.tracers;
        counters_room = omega (arith, room.counters_room, one, c.args.row.ok);
        rngs_room = omega (arith, room.rngs_room, one, c.args.row.ok);
        tracers_room = omega (arith, room.tracers_room, one, c.args.row.ok);
      };
    }

pub end_at-requires-clause-done : goal.end_at-requires-clause-done
end_at-requires-clause-done g c κs within =
    first_place_done c.args.row.items c.requires.row.row_done.first c.in-Some.place c.requires.row.row_done.others (into_iter_items c.next.new.self) c.requires.row.row_done.row_is (sym c.into_iter-places.ensures.rest ∙ c.in-Some.ensures.items)
