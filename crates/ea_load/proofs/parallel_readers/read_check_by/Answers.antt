use Rattle.std.proofs.Common.{refl}
use Rattle.std.proofs.lemmas.Result.{err_from_is_err_and}
use Rattle.ea_input.specs.Views.{graph as graph_of}
use Rattle.ea_load.specs.Files.{in_starts, in_table}
use Rattle.ea_load.proofs.There.{all_there, few_there}
use Rattle.ea_load.proofs.parallel_readers.read_check_by.Goals as goal

pub returns-in_err-sources-clause-fault : goal.returns-in_err-sources-clause-fault
returns-in_err-sources-clause-fault g c =
    let p = err_from_is_err_and c.from_residual-in_err-sources.result c.from_residual-in_err-sources.ensures.1 in
    rw (p.1, p.2) (in_starts (graph_of c.in_ok-graph.graph) c.in_ok-graph.ensures.denoted c.in_err-sources.ensures.fault refl)

pub returns-in_err-road-clause-fault : goal.returns-in_err-road-clause-fault
returns-in_err-road-clause-fault g c =
    let p = err_from_is_err_and c.from_residual-in_err-road.result c.from_residual-in_err-road.ensures.1 in
    let starts = c.in_ok-sources.ensures.denoted in
    rw (p.1, p.2) (in_table (graph_of c.in_ok-graph.graph) c.in_ok-graph.ensures.denoted (starts.0, c.in_ok-sources.sources.items, starts.1, starts.2) c.in_err-road.ensures.fault)

pub returns-clause-given : goal.returns-clause-given
returns-clause-given g c =
    let gr = c.in_ok-graph.ensures.denoted in
    let starts = c.in_ok-sources.ensures.denoted in
    let road = c.in_ok-road.ensures.road in (
      record { graph = graph_of c.in_ok-graph.graph; table = road.1 },
      record {
        gr_text = gr.0;
        starts_text = starts.0;
        tp_text = road.0;
        all_gr = gr.1.all;
        all_starts = starts.1.all;
        all_tp = all_there g.T.Device.seen c.args.tp.now c.read_unindexed_by.new.tp road.0 road.2;
        few_gr = gr.1.few;
        few_starts = starts.1.few;
        few_tp = few_there g.T.Device.seen c.args.tp.now c.read_unindexed_by.new.tp road.0 road.2;
        denoted = record { graph = gr.2; table = road.3 };
        starts_denoted = starts.2;
      },
      road.4,
    )
