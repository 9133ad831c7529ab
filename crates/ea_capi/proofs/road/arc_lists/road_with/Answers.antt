use Rattle.ea_load.specs.Texts.{text_if_any}
use Rattle.ea_input.specs.TableViews.{table as table_of}
use Rattle.ea_capi.specs.Lists.{IsNoRoadWith, no_class, no_table}
use Rattle.ea_capi.proofs.Listing.{on_err, table_fits}
use Rattle.ea_capi.proofs.road.arc_lists.road_with.Goals as goal

pub returns-in-Err-clause-refused : goal.returns-in-Err-clause-refused
returns-in-Err-clause-refused c = no_table c.in-Err.fault c.in-Err.ensures.fault c.tell.ensures

pub joined-requires-clause-table : goal.joined-requires-clause-table
joined-requires-clause-table c = table_fits 0 (text_if_any c.args.tp.now) (table_of c.in-Ok.table) c.in-Ok.ensures.denoted

pub returns-in-Ok-joined-clause-refused : goal.returns-in-Ok-joined-clause-refused
returns-in-Ok-joined-clause-refused c =
    let made = c.in-Ok-joined.ensures in
    on_err _ (IsNoRoadWith (record { nodes = c.args.nodes; arcs = c.args.arcs.items }) c.args.tp.now)
    (λ fault why. no_class (table_of c.in-Ok.table) c.in-Ok.ensures.denoted (λ few. why.0 (rw (made.network, made.times.0) few)) why.1)
    c.classed.result c.classed.ensures.refused
