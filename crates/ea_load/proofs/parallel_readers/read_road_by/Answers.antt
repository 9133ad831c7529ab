use Rattle.std.proofs.Common.{inl, refl}
use Rattle.std.proofs.lemmas.Result.{err_from_is_err_and}
use Rattle.ea_load.proofs.There.{borne_there}
use Rattle.ea_load.proofs.parallel_readers.read_road_by.Goals as goal

pub returns-in_err-road-clause-fault : goal.returns-in_err-road-clause-fault
returns-in_err-road-clause-fault g c =
    let p = err_from_is_err_and c.from_residual-in_err-road.result c.from_residual-in_err-road.ensures.1 in
    let read = c.in_ok-unindexed.ensures.road in
    rw (p.1, p.2) (inl (refl, borne_there g.T.Device.seen c.args.tp.now c.read_unindexed_by.new.tp read.0 read.2))
