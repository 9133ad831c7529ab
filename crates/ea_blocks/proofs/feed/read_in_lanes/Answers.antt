use denote.Param.Send.{Quiet-if}
use mir.Syntax.{of_param}
use Rattle.ea_blocks.proofs.feed.read_in_lanes.Goals as goal

pub for_each_mut_beside-requires-clause-accepts : goal.for_each_mut_beside-requires-clause-accepts
for_each_mut_beside-requires-clause-accepts g c κs within = λ place p lt is. (
  rw is (c.requires.others place p.now lt),
  record { owned = c.type_bounds.send-R.owned; leaving = λ k. Quiet-if (k (of_param 0)) _ _ (λ x w. tt) (λ x w. tt) },
)
