use Rattle.std.proofs.Common.{[], refl, sym, ◌∙◌, zero-add}
use Rattle.ea_engine.proofs.ProgressLemmas.{Progress-saw, Progress-then}
use Rattle.ea_engine.proofs.worker.scan.follow.Goals as goal

pub is_ahead-requires-clause-seat : goal.is_ahead-requires-clause-seat
is_ahead-requires-clause-seat g c κs outlives = record { is_ground = c.requires.may.may_scan.is_ground; seat_fits = c.requires.may.may_scan.are_means.seats.labels }

pub is_ahead-requires-clause-arc : goal.is_ahead-requires-clause-arc
is_ahead-requires-clause-arc g c κs outlives = record {
  in_time = g.K.Known.within c.args.entry.node c.args.entry.key c.requires.may.may_scan.is_known;
  number = c.requires.may.number;
  is_arc = c.requires.may.is_arc;
}

pub ask_and_offer-requires-clause-may : goal.ask_and_offer-requires-clause-may
ask_and_offer-requires-clause-may g c κs outlives =
    let may = c.requires.may.may_scan in
    let means = may.are_means in
    record {
      may_scan = record {
        is_ground = may.is_ground;
        are_means = record {
          seats = record { labels = c.is_ahead.ensures.saw.same_table ∙ means.seats.labels; pool = means.seats.pool };
          fresh_known = means.fresh_known;
        };
        room = may.room;
        batch_few = may.batch_few;
        is_known = may.is_known;
      };
      number = c.requires.may.number;
      is_arc = c.requires.may.is_arc;
      tail_is = c.requires.may.tail_is;
    }

pub returns-then-is_ahead : goal.returns-then-is_ahead
returns-then-is_ahead g c = record {
  means =
      let means = c.requires.may.may_scan.are_means in
      record {
        seats = record { labels = c.is_ahead.ensures.saw.same_table ∙ means.seats.labels; pool = means.seats.pool };
        fresh_known = means.fresh_known;
      };
  relaxed = record {
    progress = Progress-saw _ _ _ _ [] _ c.is_ahead.ensures.saw.saw;
    left = c.requires.may.may_scan.room;
    one_push_each = λ is. refl;
    spent = c.is_ahead.ensures.followed c.if-is_ahead.true;
  };
}

pub returns : goal.returns
returns g c = record {
  means = c.ask_and_offer.ensures.means;
  relaxed =
      let relaxed = c.ask_and_offer.ensures.relaxed in
      record {
        progress = Progress-then _ _ _ [] [] [] 0 _ _ 0 _ _ (Progress-saw _ _ _ _ [] _ c.is_ahead.ensures.saw.saw) relaxed.progress refl (sym (zero-add _)) (sym (zero-add _));
        left = relaxed.left;
        one_push_each = relaxed.one_push_each;
        spent = relaxed.spent;
      };
}
