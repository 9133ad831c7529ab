use Rattle.std.proofs.lemmas.Result.{err_from_is_err_and}
use Rattle.ea_load.specs.Files.{in_nodes}
use Rattle.ea_load.proofs.files.read_extras.Goals as goal

pub returns-in_err-nodes-clause-fault : goal.returns-in_err-nodes-clause-fault
returns-in_err-nodes-clause-fault g c =
    let p = err_from_is_err_and c.from_residual-in_err-nodes.result c.from_residual-in_err-nodes.ensures.1 in
    rw (p.1, p.2) (in_nodes _ c.in_ok-times.ensures.found c.in_err-nodes.ensures.fault)
