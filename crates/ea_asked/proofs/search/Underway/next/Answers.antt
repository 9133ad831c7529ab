use Rattle.std.proofs.Common.{refl, arith}
use Rattle.ea_asked.proofs.search.Underway.next.Goals as goal

pub returns-then-are_below-clause-taken : goal.returns-then-are_below-clause-taken
returns-then-are_below-clause-taken c = (
  refl,
  λ label node other waits there.
      let low = rw c.deref-2.ensures.value at (c.are_below.ensures c.if-are_below.true other there) in
      let from = c.in_ok-least.ensures label node waits in
      omega (arith, low, from),
)
