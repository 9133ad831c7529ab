use Rattle.ea_engine.proofs.run.known_run.run_with.Goals as goal

pub finish_in_order-finished-requires : goal.finish_in_order-finished-requires
finish_in_order-finished-requires g c = record {
  problem = c.requires.call.named.is_problem;
  underway = c.run-table.ensures.begun_is.underway;
  room = c.run-table.ensures.begun_is.nodes_are;
}
