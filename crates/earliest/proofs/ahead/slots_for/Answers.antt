use Rattle.std.proofs.Common.{All, List, None, arith, sym, subst}
use Rattle.std.proofs.lemmas.List.Elements.{All-push}
use Rattle.earliest.specs.Ahead.{IsFilled}
use Rattle.earliest.specs.declared.ahead.Slot.{Slot}
use Rattle.earliest.proofs.ahead.slots_for.Goals as goal

pub loop-place-preserved : goal.loop-place-preserved
loop-place-preserved c = record {
  long = omega (arith, c.in_ok-push.ensures.len, c.loop-place.invariant.long);
  filled = λ road queries options. subst (λ (xs : List Slot). All (IsFilled road queries options) xs) (sym c.in_ok-push.ensures.items)
      (All-push (IsFilled road queries options) c.loop-place.slots.items (record { place = c.loop-place.place; found = None }) (c.loop-place.invariant.filled road queries options) tt);
}
