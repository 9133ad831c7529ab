use Rattle.std.proofs.Common.{◌≡◌, refl, [], subst, ℕ, List, length, map, ap, arith, ◌∙◌}
use Rattle.std.specs.List.{flat_map}
use Rattle.ea_report.specs.Delivery.{all_sent}
use Rattle.ea_report.specs.Deliverers.{direct_delivery}
use Rattle.ea_report.specs.Stats.{total_line, stats_rows, stats_text}
use Rattle.ea_report.specs.Sent.{IsCutBy, IsWhole}
use Rattle.ea_report.proofs.Pieces.{delivery_starts, delivery_ends, flat_map-map}
use Rattle.ea_report.proofs.stats.send_stats.Goals as goal

pub returns-in-Ok-clause-writes : goal.returns-in-Ok-clause-writes
returns-in-Ok-clause-writes g c =
    let rows : map (λ row. (row.0.now, row.1)) c.as_slice-9.result.now ≡ stats_rows c.args.totals.now = rw (c.as_slice-9.ensures, c.as_slice.ensures, c.as_slice-2.ensures, c.as_slice-3.ensures, c.as_slice-4.ensures, c.as_slice-5.ensures, c.as_slice-6.ensures, c.as_slice-7.ensures, c.as_slice-8.ensures) refl in
    let text : flat_map (λ row. total_line (row.0.now, row.1)) c.as_slice-9.result.now ≡ stats_text c.args.totals.now = flat_map-map total_line (λ row. (row.0.now, row.1)) c.as_slice-9.result.now ∙ ap (flat_map total_line) rows in
    let first = (g.W.Device.seen c.args.out.now) in
    let start = delivery_starts first (all_sent 0 0) refl in
    let now = (g.W.Device.seen c.put_totals.new.out) in
    let eight = ap (λ rows. length rows) c.as_slice-9.ensures in
    let whole = delivery_ends first now (direct_delivery c.put_totals.new.self) _ refl c.put_totals.new.self.borne (omega (arith, eight, c.in-Ok.ensures.bound)) (c.in-Ok.ensures.ok first [] start) in
    record {
      ok = subst (λ (t : List ℕ). IsWhole first now t c.put_totals.new.self.written) text whole;
      err = tt;
      bound = omega (arith, eight, c.in-Ok.ensures.bound);
      small = tt;
    }

pub returns-in-Err-clause-writes : goal.returns-in-Err-clause-writes
returns-in-Err-clause-writes g c =
    let rows : map (λ row. (row.0.now, row.1)) c.as_slice-9.result.now ≡ stats_rows c.args.totals.now = rw (c.as_slice-9.ensures, c.as_slice.ensures, c.as_slice-2.ensures, c.as_slice-3.ensures, c.as_slice-4.ensures, c.as_slice-5.ensures, c.as_slice-6.ensures, c.as_slice-7.ensures, c.as_slice-8.ensures) refl in
    let text : flat_map (λ row. total_line (row.0.now, row.1)) c.as_slice-9.result.now ≡ stats_text c.args.totals.now = flat_map-map total_line (λ row. (row.0.now, row.1)) c.as_slice-9.result.now ∙ ap (flat_map total_line) rows in
    let first = (g.W.Device.seen c.args.out.now) in
    let now = (g.W.Device.seen c.put_totals.new.out) in
    let start = delivery_starts first (all_sent 0 0) refl in
    let eight = ap (λ rows. length rows) c.as_slice-9.ensures in
    record {
      ok = tt;
      err = subst (λ (t : List ℕ). IsCutBy first now t c.in-Err.fault) text (c.in-Err.ensures.err (omega (arith, eight, c.in-Err.ensures.small)) first [] start);
      bound = tt;
      small = omega (arith, eight, c.in-Err.ensures.small);
    }
