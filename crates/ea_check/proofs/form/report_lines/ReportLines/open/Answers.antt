use Rattle.std.proofs.Common.{◌∙◌, ◌+◌, ◌++◌, [], ℕ, List, ap, sym}
use Rattle.std.proofs.lemmas.Bool.{false≢true}
use Rattle.std.proofs.lemmas.Result.{err_from_is_err_and}
use Rattle.ea_base.specs.declared.direction.Direction.{Direction}
use Rattle.ea_bytes.specs.Text.{field_lines}
use Rattle.ea_check.specs.Form.{spoken_from}
use Rattle.ea_check.specs.Streams.{most_bytes}
use Rattle.ea_check.proofs.form.report_lines.ReportLines.«open».Goals as goal

pub returns-clause-begins : goal.returns-clause-begins
returns-clause-begins g c =
    let found = c.in_ok-find.ensures.found in
    let new = c.in_ok-lines.ensures in
    let first = new.taken (g.R.Device.seen c.args.device.now) in
    record {
      got = found.got;
      taken = found.taken most_bytes (g.R.Device.seen c.args.device.now) [] first;
      end = found.end (λ was. absurd (false≢true (sym new.ended ∙ was)));
      begins = λ later none.
          ap (λ (w : Direction). spoken_from w 1 (field_lines (found.got ++ later))) (sym new.way_is)
          ∙ ap (λ n. spoken_from c.in_ok-lines.lines.way (n + 1) (field_lines (found.got ++ later))) (sym new.count)
          ∙ ap (λ (b : List ℕ). spoken_from c.in_ok-lines.lines.way (c.in_ok-lines.lines.count + 1) (field_lines (b ++ (found.got ++ later)))) (sym new.rest)
          ∙ found.holds later none;
    }

pub returns-in_err-find-clause-fault : goal.returns-in_err-find-clause-fault
returns-in_err-find-clause-fault g c =
    let p = err_from_is_err_and c.from_residual-in_err-find.result c.from_residual-in_err-find.ensures.1 in
    let first = g.R.Device.seen c.args.device.now in
    rw (p.1, p.2) (c.in_err-find.ensures.fault most_bytes first [] (c.in_ok-lines.ensures.taken first))
