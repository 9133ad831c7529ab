use Rattle.std.proofs.Common.{◌≡◌, ◌+◌, length, refl, sym, ◌∙◌, ap, arith, subst, All, length-append}
use Rattle.ea_engine.specs.Ends.{AreFresh}
use Rattle.std.proofs.lemmas.List.Elements.{All-nil}
use Rattle.ea_engine.specs.Seated.{tables}
use Rattle.ea_engine.specs.Splits.{HasGiven}
use Rattle.ea_engine.proofs.CounterLemmas.{index_push}
use Rattle.ea_engine.proofs.run.seats.split_seats.Goals as goal

pub loop-preserved : goal.loop-preserved
loop-preserved g c =
    let inv = c.loop.invariant in
    let grown = c.push_reserved.ensures.items in
    let left = c.split-in-loop.ensures.left in
    let new = c.split-in-loop.ensures.new in
    let of = tables c.args.labels.now c.args.pool.now in
    let gives = c.split.ensures.gives in
    record {
      fit = record { labels = c.split.ensures.same_table.0 ∙ inv.fit.labels; pool = c.split-in-loop.ensures.seats.0 };
      gave = record {
        bounds = ap (λ r. r.bounds) gives ∙ inv.gave.bounds;
        lowerings = ap (λ r. r.lowerings) gives ∙ inv.gave.lowerings;
        pushed = left.1 ∙ inv.gave.pushed;
        popped = left.2 ∙ inv.gave.popped;
        label_shares = omega (arith, inv.gave.label_shares, ap (λ r. r.shares) gives);
        pool_shares = omega (arith, inv.gave.pool_shares, left.0);
      };
      len = ap length grown ∙ length-append _ _ ∙ ap (λ n. n + 1) inv.len;
      counted = omega arith;
      capacity = c.push_reserved.ensures.capacity ∙ inv.capacity;
      room = omega (arith, c.push_reserved.ensures.capacity, inv.room);
      fresh = subst (λ pairs. All (AreFresh of) pairs) (sym grown) (index_push (λ n pair. AreFresh of pair) c.loop.others.items _ inv.fresh (record {
        fit = record { labels = c.split.ensures.same_table.1 ∙ inv.fit.labels; pool = c.split-in-loop.ensures.seats.1 };
        lowerings = ap (λ r. r.lowerings) c.split.ensures.new_seat;
        pushed = new.1;
        popped = new.2;
        label_share = ap (λ r. r.shares) c.split.ensures.new_seat;
        pool_share = new.0;
      }));
    }

pub loop-init : goal.loop-init
loop-init g c = record {
  fit = c.requires.may.fit;
  gave = record { bounds = refl; lowerings = refl; pushed = refl; popped = refl; label_shares = omega arith; pool_shares = omega arith };
  len = ap length c.requires.may.others_empty.none;
  counted = omega arith;
  capacity = refl;
  room = c.requires.may.others_empty.room;
  fresh = rw c.requires.may.others_empty.none (All-nil (AreFresh (tables c.args.labels.now c.args.pool.now)));
}

pub split-requires-clause-same_table : goal.split-requires-clause-same_table
split-requires-clause-same_table g c κs outlives = c.loop.invariant.fit.labels

pub split-requires-clause-shares : goal.split-requires-clause-shares
split-requires-clause-shares g c κs outlives = omega (arith, c.loop.invariant.gave.label_shares, c.requires.may.labels)

pub split-requires-in-loop-clause-seat : goal.split-requires-in-loop-clause-seat
split-requires-in-loop-clause-seat g c κs outlives = c.loop.invariant.fit.pool

pub split-requires-in-loop-clause-share : goal.split-requires-in-loop-clause-share
split-requires-in-loop-clause-share g c κs outlives = omega (arith, c.loop.invariant.gave.pool_shares, c.requires.may.pool)

pub returns : goal.returns
returns g c =
    let inv = c.loop.invariant in
    let given : c.loop.counter ≡ c.args.count = omega (arith, inv.counted) in
    record {
      fit = inv.fit;
      gave = subst (λ n. HasGiven n c.args.seats.now c.loop.seats) given inv.gave;
      len = omega (arith, inv.len, given, c.loop.others.ok);
      capacity = inv.capacity;
      fresh = inv.fresh;
    }
