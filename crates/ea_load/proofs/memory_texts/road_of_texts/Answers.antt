use Rattle.std.proofs.lemmas.Result.{err_from_is_err_and}
use Rattle.ea_input.specs.Views.{graph as graph_of}
use Rattle.ea_load.specs.Texts.{in_table}
use Rattle.ea_load.proofs.memory_texts.road_of_texts.Goals as goal

pub returns-in_err-road-clause-fault : goal.returns-in_err-road-clause-fault
returns-in_err-road-clause-fault c =
    let p = err_from_is_err_and c.from_residual-in_err-road.result c.from_residual-in_err-road.ensures.1 in
    rw (p.1, p.2) (in_table (graph_of c.in_ok-graph.graph) c.in_ok-graph.ensures.denoted c.in_err-road.ensures.fault)
