use Rattle.std.proofs.Common.{◌≡◌, arith, rules, tests, ◌∙◌, sym, length}
use Rattle.ea_blocks.proofs.Steps.{after_line, after_end, fault_gives}
use Rattle.ea_blocks.proofs.Joined.{no_line_left, one_line_more}
use Rattle.ea_blocks.proofs.line_reader.read_lines.Goals as goal

pub loop-rest-preserved : goal.loop-rest-preserved
loop-rest-preserved g c =
    let one = c.in-Ok.ensures in
    record {
      same = sym (after_line g.R.LineReader.step c.loop-rest.line (g.R.LineReader.state c.loop-rest.reader) (g.R.LineReader.state c.read_front.new.reader) c.loop-rest.rest.now one.0 c.in-Ok.after.now one.1 one.3) ∙ c.loop-rest.invariant.same;
      count = omega (arith, c.loop-rest.invariant.count, one_line_more c.loop-rest.rest.now one.0 c.in-Ok.after.now one.1);
      fewer = omega (arith, one.2, c.loop-rest.invariant.fewer);
    }

pub returns-in-Err : goal.returns-in-Err
returns-in-Err g c =
    let one = c.in-Err.ensures in
    rw c.fault_in.ensures (fault_gives g.R.LineReader.step _ c.loop-rest.line (g.R.LineReader.state c.loop-rest.reader) c.in-Err.kind c.loop-rest.rest.now one.0 one.1 one.2 one.3 c.loop-rest.invariant.same, tt)

pub returns : goal.returns
returns g c =
    let empty : length c.loop-rest.rest.now ≡ 0 = search (rules, tests) in (
      sym c.loop-rest.invariant.same ∙ after_end g.R.LineReader.step c.loop-rest.line (g.R.LineReader.state c.loop-rest.reader) c.loop-rest.rest.now empty,
      (omega (arith, c.loop-rest.invariant.count, no_line_left c.loop-rest.rest.now empty), omega (arith, c.loop-rest.invariant.fewer)),
    )
