use Rattle.std.proofs.Common.{refl, sym, ◌∙◌, ap, length, arith}
use Rattle.ea_engine.proofs.RowedLemmas.{all_done-length, waits_or}
use Rattle.ea_engine.proofs.run.workers.settle_row.Goals as goal

pub gather_row-seats-requires-clause-row : goal.gather_row-seats-requires-clause-row
gather_row-seats-requires-clause-row g c κs within = c.requires.row

pub settle-table-requires-clause-posed : goal.settle-table-requires-clause-posed
settle-table-requires-clause-posed g c κs outlives = c.requires.posed

pub settle-table-requires-clause-joined : goal.settle-table-requires-clause-joined
settle-table-requires-clause-joined g c κs outlives =
    let gathered = c.gather_row-seats.ensures in
    let account = gathered.all.account in
    record {
      account = record { fit = account.fit; gathered = account.gathered; nodes_are = account.nodes_are ∙ sym c.requires.posed.nodes_are };
      shares = gathered.shares;
      offered = gathered.all.offered;
      few = omega (arith, gathered.all.pushed_few, ap length gathered.row_is, all_done-length gathered.ends, c.requires.row.row_done.few, c.requires.small);
    }

pub returns : goal.returns
returns g c =
    let gathered = c.gather_row-seats.ensures in
    let all = gathered.all in
    let settled = c.settle-table.ensures in
    record {
      begun_is = record { underway = settled.underway; nodes_are = settled.nodes_are; walks_are = settled.opens.walks_are ∙ gathered.walks_are };
      row_is = record {
        ends = gathered.ends;
        row_is = gathered.row_is;
        counters_are = all.counters_are;
        rngs_are = all.rngs_are;
        tracers_are = all.tracers_are;
        seeded_is = refl;
        returned_is = all.returned_is;
        balance = omega (arith, all.pushed_is, all.popped_is, settled.drained);
        few_open = omega (arith, settled.opens.few, all.few, c.len.ensures);
        some_open = λ some. omega (arith, settled.opens.some (waits_or _ _ _ _ all.some (omega arith) some), c.len.ensures);
      };
    }
