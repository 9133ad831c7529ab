use Rattle.std.proofs.Common.{◌≡◌, ℕ, length, inl, refl, arith, subst}
use Rattle.std.proofs.lemmas.Result.{err_from_is_err_and}
use Rattle.ea_input.specs.TableViews.{table}
use Rattle.ea_input.specs.Views.{graph as graph_of}
use Rattle.ea_load.specs.Given.{given_by, IsTableOf}
use Rattle.ea_load.proofs.Denoting.{denoting_is_sound}
use Rattle.ea_load.proofs.There.{borne_there}
use Rattle.ea_load.proofs.parallel_readers.read_unindexed_by.Goals as goal

pub unindexed_road_of-requires : goal.unindexed_road_of-requires
unindexed_road_of-requires g c =
    let few : c.len.result ≡ length (graph_of c.args.graph).arcs = omega (arith, c.args.graph.arcs.ok.0) in
    let denoted = c.in_ok-table.ensures.denoted in
    denoting_is_sound c.requires.denoted.0 denoted.0 (given_by c.args.graph c.in_ok-table.table) c.requires.denoted.1 (subst (λ (n : ℕ). IsTableOf n denoted.0 (table c.in_ok-table.table)) few denoted.2)

pub returns-in_err-road-clause-fault : goal.returns-in_err-road-clause-fault
returns-in_err-road-clause-fault g c =
    let p = err_from_is_err_and c.from_residual-in_err-road.result c.from_residual-in_err-road.ensures.1 in
    let denoted = c.in_ok-table.ensures.denoted in
    rw (p.1, p.2) (inl (refl, borne_there g.T.Device.seen c.args.tp.now c.read_table_by.new.tp denoted.0 denoted.1))
