use Rattle.std.proofs.Common.{◌+◌, ◌∙◌, length, length-append, ap, arith, subst, sym}
use Rattle.std.proofs.lemmas.List.Elements.{Contains-append_right}
use Rattle.ea_engine.specs.Openings.{OpensUpTo}
use Rattle.ea_engine.specs.Worked.{IsHandInside}
use Rattle.ea_engine.proofs.JoinLemmas.{gathered_joined}
use Rattle.ea_engine.proofs.run.gathering.join_end.Goals as goal

pub join-requires-clause-same_table : goal.join-requires-clause-same_table
join-requires-clause-same_table g c κs within = c.requires.may.account.fit.labels

pub join-requires-2-clause-seats : goal.join-requires-2-clause-seats
join-requires-2-clause-seats g c κs within = (c.requires.may.account.fit.pool, c.requires.may.is_end.fit.pool)

pub keep_hand-requires : goal.keep_hand-requires
keep_hand-requires g c = subst (λ n. IsHandInside n c.args.end.hand) (sym c.requires.may.account.nodes_are) c.requires.may.is_end.inside

pub returns : goal.returns
returns g c =
    let end = c.requires.may.is_end in
    let gains = c.join.ensures.gains in
    let both = c.join-2.ensures.both in
    record {
      account =
          let account = c.requires.may.account in
          let k = c.keep_hand.ensures in
          record {
            fit = record { labels = c.join.ensures.same_table ∙ account.fit.labels; pool = c.join-2.ensures.seat };
            gathered = gathered_joined _ _ _ _ _ _ _ c.args.end.hand _ _ c.join.ensures.gains c.join-2.ensures.both.1 c.join-2.ensures.both.2 account.gathered c.requires.may.is_end.closed k.opens.kept k.popped k.taken k.fresh;
            nodes_are = k.opens.nodes_are ∙ account.nodes_are;
          };
      bounds = λ b inside. rw (ap (λ x. x.bounds) gains) (Contains-append_right _ _ b inside);
      pushed = ap length both.1 ∙ length-append _ _ ∙ ap (λ n. length c.args.gathering.now.seats.pool_seat.account.pushed + n) end.pushed_is;
      popped = ap length both.2 ∙ length-append _ _ ∙ ap (λ n. length c.args.gathering.now.seats.pool_seat.account.popped + n) end.popped_is;
      returned = omega (arith, c.from.ensures);
      returned_few = omega (arith, end.returned_is, end.returned_few);
      opens = subst (λ n. OpensUpTo n c.args.gathering.now.todo c.keep_hand.new.todo) (sym end.returned_is) c.keep_hand.ensures.opens;
      results = record { counters = c.push_reserved.ensures.items; rngs = c.push_reserved-2.ensures.items; tracers = c.push_reserved-3.ensures.items };
      room = record { counters = c.push_reserved.ensures.capacity; rngs = c.push_reserved-2.ensures.capacity; tracers = c.push_reserved-3.ensures.capacity };
      label_shares = omega (arith, ap (λ x. x.shares) gains, end.label_share);
      pool_shares = omega (arith, both.0, end.pool_share);
    }
