use Rattle.std.proofs.Common.{arith, subst, sym, ◌∙◌}
use Rattle.ea_blocks.specs.Reading.{ReadsAll}
use Rattle.ea_blocks.proofs.Fed.{fault_comes, fault_stays, lines_come}
use Rattle.ea_blocks.proofs.feed.Fed.take_up.Goals as goal

pub returns-then-is_some : goal.returns-then-is_some
returns-then-is_some g c = record {
  fed = λ start before ends fed. fault_stays g.R.LineReader.step start before c.args.text.now _ _ c.args.self.now.fault (sym c.is_some.ensures ∙ c.if-is_some.true) ends fed;
  lines = omega arith;
}

pub returns-in-Ok : goal.returns-in-Ok
returns-in-Ok g c =
    let step = g.R.LineReader.step in
    let state = g.R.LineReader.state in
    let more = c.take_or_read in
    let read = subst (λ r. ReadsAll step state c.args.self.now.lines c.args.self.now.reader more.new.reader c.args.text.now r) c.in-Ok.is more.ensures in
    record {
      fed = λ start before ends fed. lines_come step state start before c.args.text.now c.args.self.now.reader more.new.reader c.args.self.now.lines c.in-Ok.lines c.args.self.now.fault (sym c.is_some.ensures ∙ c.if-is_some.false) ends fed read;
      lines = read.1.1;
    }

pub returns-in-Err : goal.returns-in-Err
returns-in-Err g c =
    let step = g.R.LineReader.step in
    let state = g.R.LineReader.state in
    let more = c.take_or_read in
    let read = subst (λ r. ReadsAll step state c.args.self.now.lines c.args.self.now.reader more.new.reader c.args.text.now r) c.in-Err.is more.ensures in
    record {
      fed = λ start before ends fed. fault_comes step state start before c.args.text.now c.args.self.now.reader more.new.reader c.args.self.now.lines c.args.self.now.fault c.in-Err.fault (sym c.is_some.ensures ∙ c.if-is_some.false) ends fed read;
      lines = omega arith;
    }
