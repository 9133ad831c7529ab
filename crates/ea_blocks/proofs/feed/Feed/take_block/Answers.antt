use Rattle.std.proofs.Common.{List, ℕ, ◌++◌, ◌∙◌, ap, append-nil, arith, length, subst, sym}
use Rattle.ea_blocks.specs.Feeding.{WasGiven}
use Rattle.ea_blocks.specs.Pieces.{AreLanesOn, IsIdle}
use Rattle.ea_blocks.specs.Streams.{EndsLine}
use Rattle.ea_blocks.proofs.Cuts.{both_end, nothing_ends}
use Rattle.ea_blocks.proofs.Onward.{gets_both, gets_kept}
use Rattle.ea_blocks.proofs.feed.Feed.take_block.Goals as goal

pub gather_all-requires-clause-lanes : goal.gather_all-requires-clause-lanes
gather_all-requires-clause-lanes g c κs within =
    subst (λ text. AreLanesOn g.R.LineReader.step g.R.LineReader.state g.R.BlockReader.IsAside text c.read_in_lanes-gave.new.others)
    (c.deref-2.ensures.value ∙ sym c.deref-4.ensures.value) c.read_in_lanes-gave.ensures.others

pub returns-in_default-clause-takes : goal.returns-in_default-clause-takes
returns-in_default-clause-takes g c =
    let step = g.R.LineReader.step in
    let state = g.R.LineReader.state in
    let old = c.args.self.now in
    let mid = c.cut.new.self in
    let settled = c.settle.new.self in
    let last = c.take_beside.new.self in
    let kept = c.in_default.ensures.kept in
    let waiting : List ℕ = old.waiting.items in
    let block : List ℕ = c.args.block.now.items in
    let one = gets_kept step (state old.fed.reader) (state mid.fed.reader) (state settled.fed.reader) old.fed.lines mid.fed.lines settled.fed.lines old.fed.fault mid.fed.fault settled.fed.fault waiting
    kept.read kept.lines kept.fault (subst (WasGiven step state mid.fed settled.fed) (ap (λ v. v.items) kept.waiting) c.settle.ensures.given) in
    let two = subst (WasGiven step state settled.fed last) c.deref.ensures.value c.take_beside.ensures.given in
    record {
      front = waiting ++ block;
      cut = sym (append-nil (waiting ++ block)) ∙ ap (λ l. (waiting ++ block) ++ l) (sym c.settle.ensures.none);
      front_ends = both_end waiting block c.requires.can.ends c.requires.can.block_ends;
      ends = subst EndsLine (sym c.settle.ensures.none) nothing_ends;
      given = gets_both step (state old.fed.reader) (state settled.fed.reader) (state last.reader) old.fed.lines settled.fed.lines last.lines old.fed.fault settled.fed.fault last.fault waiting block c.requires.can.ends one two;
      read = λ place d lt. absurd (omega (arith, lt, ap length c.settle.ensures.no_piece));
      idle = subst (IsIdle g.R.BlockReader.IsAside) (sym c.settle.ensures.lane) c.in_default.ensures.idle.0;
    }
