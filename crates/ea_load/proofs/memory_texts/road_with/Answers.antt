use Rattle.std.proofs.Common.{◌≡◌, ℕ, length, arith, subst}
use Rattle.ea_input.specs.TableViews.{table as table_of}
use Rattle.ea_input.specs.Views.{graph as graph_of}
use Rattle.ea_load.specs.Given.{given_by, IsTableOf}
use Rattle.ea_load.specs.Sound.{IsSound}
use Rattle.ea_load.specs.Texts.{text_if_any}
use Rattle.ea_load.proofs.Denoting.{denoting_is_sound}
use Rattle.ea_load.proofs.memory_texts.road_with.Goals as goal

pub road_of-requires : goal.road_of-requires
road_of-requires c =
    let few : c.len.result ≡ length (graph_of c.args.graph).arcs = omega (arith, c.args.graph.arcs.ok.0) in
    denoting_is_sound c.requires.denoted.0 (text_if_any c.args.tp.now) (given_by c.args.graph c.in_ok-table.table) c.requires.denoted.1
    (subst (λ (n : ℕ). IsTableOf n (text_if_any c.args.tp.now) (table_of c.in_ok-table.table)) few c.in_ok-table.ensures.denoted)

pub returns-clause-classed : goal.returns-clause-classed
returns-clause-classed c =
    let few : c.len.result ≡ length (graph_of c.args.graph).arcs = omega (arith, c.args.graph.arcs.ok.0) in
    let sound : IsSound (given_by c.args.graph c.in_ok-table.table) = denoting_is_sound c.requires.denoted.0 (text_if_any c.args.tp.now) (given_by c.args.graph c.in_ok-table.table) c.requires.denoted.1
    (subst (λ (n : ℕ). IsTableOf n (text_if_any c.args.tp.now) (table_of c.in_ok-table.table)) few c.in_ok-table.ensures.denoted) in
    rw (c.in_ok-road.ensures.network, c.in_ok-road.ensures.kinds) sound.classed
