use Rattle.std.proofs.Common.{◌≡◌, ◌+◌, [], ◌∷◌, ◌++◌, length, sym, ◌∙◌, ap, arith, length-append, subst}
use Rattle.std.specs.Vec.Iter.{into_iter_items}
use Rattle.ea_engine.specs.Rows.{IsSeatedRow}
use Rattle.ea_engine.proofs.RowLemmas.{IsSeatedRow-push, taken_more, all_taken}
use Rattle.ea_engine.proofs.run.seats.seat_row.Goals as goal

pub loop-rng-init : goal.loop-rng-init
loop-rng-init g c =
    let none = ap length c.requires.may.row_empty.none in
    record {
      can_next = tt;
      is_finite = tt;
      ss = [];
      rs = [];
      ts = [];
      seats_are = sym c.into_iter-seats.ensures.rest;
      rngs_are = sym c.into_iter-rng-iterator.ensures.into_iter_gives.0;
      tracers_are = sym c.into_iter-tracers.ensures.rest;
      ss_len = sym none;
      rs_len = sym none;
      ts_len = sym none;
      seated = λ k s r t d lt. absurd (omega (arith, none, lt));
      seats_left = omega (arith, ap length c.into_iter-seats.ensures.rest, ap length c.into_iter-rng-iterator.ensures.into_iter_gives.0, c.args.seats.ok.0, c.args.rngs.ok.0, c.requires.may.seats_len);
      tracers_left = omega (arith, ap length c.into_iter-tracers.ensures.rest, ap length c.into_iter-rng-iterator.ensures.into_iter_gives.0, c.args.tracers.ok.0, c.args.rngs.ok.0, c.requires.may.tracers_len);
      room = omega (arith, none, ap length c.into_iter-rng-iterator.ensures.into_iter_gives.0, c.args.rngs.ok.0, c.requires.may.row_empty.room);
    }

pub loop-rng-preserved : goal.loop-rng-preserved
loop-rng-preserved g c =
    let inv = c.loop-rng.invariant in
    let row = c.loop-rng.row.items in
    let s = c.in-Some-next-2.pair in
    let r = c.in-Some.rng in
    let t = c.in-Some-next.tracer in
    let grown = c.push_reserved.ensures.items in
    let more = ap length grown ∙ length-append row (c.ready_place.result ∷ []) in
    record {
      can_next = tt;
      is_finite = tt;
      ss = inv.ss ++ s ∷ [];
      rs = inv.rs ++ r ∷ [];
      ts = inv.ts ++ t ∷ [];
      seats_are = taken_more _ inv.ss s _ _ inv.seats_are c.in-Some-next-2.ensures.items;
      rngs_are = taken_more _ inv.rs r _ _ inv.rngs_are c.in-Some.ensures.steps.0;
      tracers_are = taken_more _ inv.ts t _ _ inv.tracers_are c.in-Some-next.ensures.items;
      ss_len = length-append inv.ss (s ∷ []) ∙ ap (λ n. n + 1) inv.ss_len ∙ sym more;
      rs_len = length-append inv.rs (r ∷ []) ∙ ap (λ n. n + 1) inv.rs_len ∙ sym more;
      ts_len = length-append inv.ts (t ∷ []) ∙ ap (λ n. n + 1) inv.ts_len ∙ sym more;
      seated = subst (λ xs. IsSeatedRow (inv.ss ++ s ∷ []) (inv.rs ++ r ∷ []) (inv.ts ++ t ∷ []) xs) (sym grown)
          (IsSeatedRow-push inv.ss inv.rs inv.ts row s r t c.ready_place.result inv.ss_len inv.rs_len inv.ts_len inv.seated c.ready_place.ensures);
      seats_left = omega (arith, inv.seats_left, ap length c.in-Some.ensures.steps.0, ap length c.in-Some-next-2.ensures.items);
      tracers_left = omega (arith, inv.tracers_left, ap length c.in-Some.ensures.steps.0, ap length c.in-Some-next.ensures.items);
      room = omega (arith, inv.room, more, ap length c.in-Some.ensures.steps.0, c.push_reserved.ensures.capacity);
    }

pub returns : goal.returns
returns g c =
    let inv = c.loop-rng.invariant in
    let row = c.loop-rng.row.items in
    let none = c.in-None.ensures.steps in
    let ended : length (into_iter_items c.loop-rng.rng-iterator) ≡ 0 = omega (arith, none.0, c.loop-rng.rng-iterator.rest.ok.0) in
    let ss_is = all_taken c.args.seats.items inv.ss _ inv.seats_are (inv.seats_left ∙ ended) in
    let rs_is = all_taken c.args.rngs.items inv.rs _ inv.rngs_are ended in
    let ts_is = all_taken c.args.tracers.items inv.ts _ inv.tracers_are (inv.tracers_left ∙ ended) in
    record {
      len = omega (arith, inv.rs_len, ap length rs_is, c.loop-rng.row.ok, c.args.rngs.ok);
      seated = subst (λ ts. IsSeatedRow c.args.seats.items c.args.rngs.items ts row) ts_is
          (subst (λ rs. IsSeatedRow c.args.seats.items rs inv.ts row) rs_is
          (subst (λ ss. IsSeatedRow ss inv.rs inv.ts row) ss_is inv.seated));
    }
