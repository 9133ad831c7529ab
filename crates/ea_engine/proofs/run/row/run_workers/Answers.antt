use Rattle.std.proofs.Common.{arith}
use denote.Param.Send.{Quiet-if}
use mir.Syntax.{of_param}
use Rattle.ea_engine.proofs.run.row.run_workers.Goals as goal

pub for_each_mut-requires-clause-accepts : goal.for_each_mut-requires-clause-accepts
for_each_mut-requires-clause-accepts g c = λ κs outlives worker p lt is. (
  (
    omega (arith, lt, c.requires.ready.few),
    c.requires.may,
    rw is (c.requires.ready.each worker p.now lt),
  ),
  (
    record { owned = c.type_bounds.send-K.owned; leaving = λ k. Quiet-if (k (of_param 0)) _ _ (λ x w. tt) (λ x w. tt) },
    record { owned = c.type_bounds.send-E.owned; leaving = λ k. Quiet-if (k (of_param 1)) _ _ (λ x w. tt) (λ x w. tt) },
    record { owned = c.type_bounds.send-R.owned; leaving = λ k. Quiet-if (k (of_param 3)) _ _ (λ x w. tt) (λ x w. tt) },
    record { owned = c.type_bounds.send-F.owned; leaving = λ k. Quiet-if (k (of_param 5)) _ _ (λ x w. tt) (λ x w. tt) },
    record { shared = c.type_bounds.sync-K.shared },
    record { shared = c.type_bounds.sync-E.shared },
    record { shared = c.type_bounds.sync-T.shared },
    record { shared = c.type_bounds.sync-G.shared },
  ),
)

pub returns : goal.returns
returns g c = record {
  run = λ k d lt.
      let at = (c.for_each_mut.ensures k d lt).1 in
      rw (← at.argument_is, ← at.left) at.call;
}
