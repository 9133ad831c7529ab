use Rattle.std.proofs.Common.{refl, arith}
use Rattle.ea_travel_times.proofs.BoxLaws.{box_is_fifo}
use Rattle.test_search.proofs.roads.right_of_profiles.OwnLists.{own-1, at-1-1}
use Rattle.test_search.proofs.roads.right_of_profiles.Goals as goal

pub new-requires-in-loop-class : goal.new-requires-in-loop-class
new-requires-in-loop-class c = box_is_fifo own-1 at-1-1 _ _ c.in_ok-new.field-0.value c.into_dyn_box.ensures.1 (record {
  may_ask = λ weight departure asked. omega (arith, asked.of_weight, asked.within);
  has_answer = λ weight departure asked. (_, refl);
  not_before = λ weight departure arrival asked answer. omega (arith, answer);
  in_order = λ weight departure later arrival next asked asked_later answer other order. omega (arith, answer, other, order);
})
