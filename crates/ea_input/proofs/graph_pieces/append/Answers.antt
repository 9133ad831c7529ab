use Rattle.std.proofs.Common.{ap, arith}
use Rattle.ea_input.proofs.graph_pieces.append.Goals as goal

pub returns-in-Ok : goal.returns-in-Ok
returns-in-Ok c = (
  c.in-Some.now,
  c.in-Some-size.size,
  c.in-Some.is,
  c.in-Some-size.is,
  omega arith,
  omega arith,
  ap (λ arcs. record { size = c.args.reader.now.size; arcs = arcs }) c.in-Ok.ensures.items,
)
