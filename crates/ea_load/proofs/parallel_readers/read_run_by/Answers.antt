use Rattle.std.proofs.Common.{inl, refl}
use Rattle.std.proofs.lemmas.Result.{err_from_is_err_and}
use Rattle.ea_load.specs.Files.{in_table}
use Rattle.ea_load.proofs.parallel_readers.read_run_by.Goals as goal

pub returns-in_err-road-2-clause-fault : goal.returns-in_err-road-2-clause-fault
returns-in_err-road-2-clause-fault g c =
    let p = err_from_is_err_and c.from_residual-in_err-road-2.result c.from_residual-in_err-road-2.ensures.1 in
    let read = c.in_ok-road.ensures in
    let given = read.given.1 in
    rw (p.1, p.2) (in_table read.given.0.graph
    (given.gr_text, record { all = given.all_gr; few = given.few_gr; borne = read.gr_borne }, given.denoted.graph)
    (given.starts_text, _, record { all = given.all_starts; few = given.few_starts; borne = read.ss_borne }, given.starts_denoted)
    (inl (refl, read.tp_borne)))
