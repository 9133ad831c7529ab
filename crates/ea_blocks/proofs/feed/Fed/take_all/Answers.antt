use Rattle.std.proofs.Common.{◌∙◌, arith, subst, take, length, sym}
use Rattle.std.proofs.Math.Seq.{take-length}
use Rattle.std.specs.Prelude.{slice_range}
use Rattle.ea_blocks.specs.Pieces.{WasRead}
use Rattle.ea_blocks.specs.Streams.{FeedsOn}
use Rattle.ea_blocks.proofs.Onward.{front_onward, gets_both}
use Rattle.ea_blocks.proofs.Rows.{each_left}
use Rattle.ea_blocks.proofs.feed.Fed.take_all.Goals as goal

pub loop-index-preserved : goal.loop-index-preserved
loop-index-preserved g c =
    let step = g.R.LineReader.step in
    let state = g.R.LineReader.state in
    let text = c.args.text.now in
    let self = c.args.self.now in
    let before = c.loop-index.self in
    let after = c.take_piece-at.new.self in
    let from = c.loop-index.at in
    let to = c.take_piece-at.result in
    let reached = c.take_piece-at.ensures in
    let removed = c.swap_remove-piece in
    record {
      inside = reached.inside;
      given = subst (FeedsOn step (state self.reader) self.lines self.fault (state after.reader) after.lines after.fault) (front_onward text from to reached.onward reached.inside)
          (gets_both step (state self.reader) (state before.reader) (state after.reader) self.lines before.lines after.lines self.fault before.fault after.fault
          (take from text) (slice_range text from to) c.loop-index.invariant.ends c.loop-index.invariant.given reached.given);
      ends = reached.ends c.loop-index.invariant.ends;
      read = each_left (WasRead step state g.R.BlockReader.IsAside text) c.loop-index.pieces.items removed.new.self.items c.loop-index.pieces.len c.in-Some.index
          c.loop-index.invariant.read (sym c.loop-index.pieces.ok.0) (omega (arith, c.in-Some.ensures, c.deref.ensures.len)) (omega (arith, removed.ensures.len, removed.new.self.ok.0)) removed.ensures.by_index;
    }

pub returns : goal.returns
returns g c =
    let step = g.R.LineReader.step in
    let state = g.R.LineReader.state in
    let text = c.args.text.now in
    let self = c.args.self.now in
    let before = c.loop-index.self in
    let after = c.take.new.self in
    let from = c.loop-index.at in
    subst (FeedsOn step (state self.reader) self.lines self.fault (state after.reader) after.lines after.fault) (front_onward text from (length text) c.loop-index.invariant.inside (omega arith) ∙ take-length text)
    (gets_both step (state self.reader) (state before.reader) (state after.reader) self.lines before.lines after.lines self.fault before.fault after.fault
    (take from text) (slice_range text from (length text)) c.loop-index.invariant.ends c.loop-index.invariant.given c.take.ensures)
