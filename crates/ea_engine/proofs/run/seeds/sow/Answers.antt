use Rattle.std.proofs.Common.{◌∷◌, arith, ap, length}
use Rattle.ea_engine.specs.Closed.{entry_at}
use Rattle.ea_engine.proofs.AccountLemmas.{closed_pushed, closed_refused, waits_more}
use Rattle.ea_engine.proofs.OpeningLemmas.{OpensUpTo-none, OpensUpTo-added}
use Rattle.ea_engine.proofs.run.seeds.sow.Goals as goal

pub push_as-requires-clause-known : goal.push_as-requires-clause-known
push_as-requires-clause-known g c κs outlives = c.requires.source.is_known

pub add-requires : goal.add-requires
add-requires g c = (c.requires.source.node.from_one, c.requires.source.node.to_last)

pub returns-in-Ok : goal.returns-in-Ok
returns-in-Ok g c = record {
  of_pool = c.in-Ok.ensures.seat;
  gathered = λ before after fell h. record {
    back = h.back;
    refused = h.refused;
    closed = closed_pushed _ before after _ _ c.args.source.node fell.from c.args.source.departure h.back h.refused fell.after_is c.in-Ok.ensures.push.pushed h.closed;
    waits = h.waits;
  };
  offers = λ before after sown. sown;
  step = record {
    pushed_is = omega (arith, ap length c.in-Ok.ensures.push.pushed.1);
    popped_is = c.in-Ok.ensures.push.pushed.2;
    shares_are = c.in-Ok.ensures.push.pushed.0;
  };
  opens = OpensUpTo-none _;
}

pub returns-in-Err : goal.returns-in-Err
returns-in-Err g c =
    let same = c.in-Err.ensures.push.refused.1 in
    record {
      of_pool = c.in-Err.ensures.seat;
      gathered = λ before after fell h.
          let entry = entry_at c.args.source.departure c.args.source.node in
          record {
            back = h.back;
            refused = entry ∷ h.refused;
            closed = closed_refused _ before after _ _ c.args.source.node fell.from c.args.source.departure h.back h.refused fell.after_is same h.closed;
            waits = waits_more h.back h.refused entry c.args.todo.now.waiting _ h.waits c.add.ensures.kept c.add.ensures.inside;
          };
      offers = λ before after sown. sown;
      step = record { pushed_is = omega (arith, ap length same.1); popped_is = same.2; shares_are = same.0 };
      opens = OpensUpTo-added _ _ c.args.source.node c.add.ensures.kept c.add.ensures.inside c.add.ensures.at_most_one c.add.ensures.room;
    }
