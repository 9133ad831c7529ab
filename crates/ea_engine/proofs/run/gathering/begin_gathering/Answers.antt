use Rattle.std.proofs.Common.{[], ◌∷◌, ◌++◌, ◌∙◌, ap, arith, refl, sym, subst}
use Rattle.ea_engine.specs.Worked.{back_of, IsHandInside}
use Rattle.ea_engine.proofs.JoinLemmas.{waits_hand}
use Rattle.ea_engine.proofs.RowedLemmas.{waits_first}
use Rattle.ea_engine.proofs.run.gathering.begin_gathering.Goals as goal

pub returns : goal.returns
returns g c = record {
  gathered =
      let e = c.requires.end in
      let hand = c.args.end.hand in
      let k = c.keep_hand.ensures in
      record {
        account = record {
          fit = e.fit;
          gathered = record {
            back = e.handed.back ++ back_of hand;
            refused = e.handed.refused ++ hand.fresh.items;
            closed = e.handed.closed;
            waits = waits_hand e.handed.back e.handed.refused hand _ _ e.handed.waits k.opens.kept k.popped k.taken k.fresh;
          };
          nodes_are = k.opens.nodes_are ∙ c.requires.gather.holds.nodes_are;
        };
        offered = e.offered;
        counters_are = c.push_reserved.ensures.items ∙ ap (λ xs. xs ++ c.args.end.counters ∷ []) c.requires.gather.unfilled.counters;
        rngs_are = c.push_reserved-2.ensures.items ∙ ap (λ xs. xs ++ c.args.end.rng ∷ []) c.requires.gather.unfilled.rngs;
        tracers_are = c.push_reserved-3.ensures.items ∙ ap (λ xs. xs ++ c.args.end.tracer ∷ []) c.requires.gather.unfilled.tracers;
        pushed_is = omega (arith, e.pushed_is);
        pushed_few = omega (arith, e.pushed_is, e.pushed_few);
        popped_is = omega (arith, e.popped_is);
        returned_is = omega (arith, c.from.ensures);
        returned_few = omega (arith, c.from.ensures, e.returned_is, e.returned_few);
        few = omega (arith, c.from.ensures, e.returned_is, k.opens.few, c.requires.gather.holds.few);
        some = λ more. k.opens.some (waits_first _ c.args.seeds.returned _ _ c.requires.gather.holds.some (omega (arith, c.from.ensures, e.returned_is)) more);
      };
  label_shares = refl;
  pool_shares = refl;
  walks = c.keep_hand.ensures.opens.walks_are;
  room = record { counters = c.push_reserved.ensures.capacity; rngs = c.push_reserved-2.ensures.capacity; tracers = c.push_reserved-3.ensures.capacity };
}

pub keep_hand-requires : goal.keep_hand-requires
keep_hand-requires g c = subst (λ n. IsHandInside n c.args.end.hand) (sym c.requires.gather.holds.nodes_are) c.requires.end.inside
