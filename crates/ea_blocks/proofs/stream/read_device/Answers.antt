use Rattle.std.proofs.Common.{◌≡◌, List, ℕ, ◌+◌, ◌++◌, ap, arith, length, length-append, subst, sym, ◌∙◌}
use Rattle.std.proofs.lemmas.Grind.{common_steps}
use Rattle.std.proofs.lemmas.List.{with_items_is}
use Rattle.ea_blocks.specs.Feeding.{WasGiven}
use Rattle.ea_blocks.specs.Pieces.{AreIdleIn}
use Rattle.ea_blocks.specs.Streams.{EndsLine}
use Rattle.ea_blocks.proofs.Cuts.{nothing_ends}
use Rattle.ea_blocks.proofs.Onward.{gets_both}
use Rattle.ea_blocks.proofs.Underway.{all_read, begun, begun_with, block_cut, broken_off, few_lines, never_begun, smaller, taken_behind, went_on}
use Rattle.ea_blocks.proofs.stream.read_device.Goals as goal

pub returns-in-Err : goal.returns-in-Err
returns-in-Err g c = never_begun c.args.limit _ _ c.in-Ok.blocks c.in-Err.fault (c.in-Ok.ensures.1 _) c.in-Err.ensures.fault

pub loop-ended-init : goal.loop-ended-init
loop-ended-init g c =
    let filled = c.in-Ok-fill.ensures in
    let step = g.R.LineReader.step in
    let state = g.R.LineReader.state in
    let feed = c.new-feed.result in
    let first = begun step (state c.args.start) c.args.limit _ _ c.in-Ok.blocks c.fill.new.blocks c.new-block.result.items c.fill.new.block.items c.new-block.ensures.items (c.in-Ok.ensures.1 _) filled.more in
    record {
      room = filled.room;
      end = filled.end;
      underway = begun_with step (state c.args.start) c.args.limit _ _ c.fill.new.blocks feed.waiting.items c.fill.new.block.items _ _ _ c.new-feed.ensures.none.0 (ap (λ fed. state fed.reader) c.new-feed.ensures.reader) (ap (λ fed. fed.lines) c.new-feed.ensures.reader)
          (ap (λ fed. fed.fault) c.new-feed.ensures.reader) first;
      ends = subst EndsLine (sym c.new-feed.ensures.none.0) nothing_ends;
      read = λ place d lt. absurd (omega (arith, lt, ap length c.new-feed.ensures.none.1));
      idle = c.new-feed.ensures.idle;
      others = c.in-Ok-other_lanes.ensures;
    }

pub go_on-requires-clause-can : goal.go_on-requires-clause-can
go_on-requires-clause-can g c κs within =
    let inv = c.loop-ended.invariant in
    let waiting : List ℕ = c.loop-ended.feed.waiting.items in
    let block : List ℕ = c.loop-ended.block.items in
    let lines : List ℕ = c.keep_lines.new.block.items in
    let tail : List ℕ = c.keep_lines.new.next.items in
    let counted = few_lines g.R.LineReader.step (g.R.LineReader.state c.args.start) c.args.limit _ _ _ c.loop-ended.feed.fed.lines _ c.loop-ended.blocks (waiting ++ block) inv.underway in
    record {
      few = omega (arith, counted, length-append waiting block, ap length c.in-Some.ensures.1, length-append lines tail, c.ranges.limit.fits);
      read = inv.read;
      ends = inv.ends;
      block_ends = c.in-Some.ensures.0;
      idle = inv.idle;
    }

pub go_on-requires-clause-idle : goal.go_on-requires-clause-idle
go_on-requires-clause-idle g c κs within = subst (AreIdleIn g.R.BlockReader.IsAside) (sym c.deref_mut.ensures.value) c.loop-ended.invariant.others

pub returns-in-Err-go_on : goal.returns-in-Err-go_on
returns-in-Err-go_on g c =
    broken_off g.R.LineReader.step (g.R.LineReader.state c.args.start) c.args.limit _ _ _ _ _ _ c.loop-ended.blocks (c.loop-ended.feed.waiting.items ++ c.loop-ended.block.items) c.in-Err-go_on.fault
    c.loop-ended.invariant.underway c.in-Err-go_on.ensures.filled.fault

pub loop-ended-smaller : goal.loop-ended-smaller
loop-ended-smaller g c =
    let filled = c.in-Ok-go_on.ensures.filled in
    let tail : List ℕ = c.keep_lines.new.next.items in
    let grown : List ℕ = c.go_on.new.block.items in
    smaller c.loop-ended.ended c.in-Ok-go_on.ended c.loop-ended.blocks.left c.go_on.new.blocks.left (length tail) (length grown) c.max.result c.loop-ended-test.true filled.left filled.full
    (grind (arith, common_steps)) (omega (arith, ap length filled.more.1, length-append tail filled.more.0))

pub loop-ended-preserved : goal.loop-ended-preserved
loop-ended-preserved g c =
    let went = c.in-Ok-go_on.ensures in
    let takes = went.takes in
    let waiting : List ℕ = c.loop-ended.feed.waiting.items in
    let block : List ℕ = c.loop-ended.block.items in
    let tail : List ℕ = c.keep_lines.new.next.items in
    let left : List ℕ = c.go_on.new.feed.waiting.items in
    let cut = block_cut waiting block c.keep_lines.new.block.items tail takes.front left c.in-Some.ensures.1 takes.cut in
    let others = c.go_on.new.others in
    let len : length others ≡ c.loop-ended.others.len = omega (arith, c.go_on.auto.others, c.deref_mut.ensures.len) in
    record {
      room = went.filled.room;
      end = went.filled.end;
      underway = went_on g.R.LineReader.step (g.R.LineReader.state c.args.start) c.args.limit _ _ _ _ _ _ _ _ _ c.loop-ended.blocks c.go_on.new.blocks (waiting ++ block) takes.front (left ++ tail)
          (left ++ c.go_on.new.block.items) (left ++ c.swap.new.x.items) c.loop-ended.invariant.underway takes.front_ends cut takes.given (taken_behind _ _ c.loop-ended.blocks c.go_on.new.blocks left tail c.go_on.new.block.items went.filled.more)
          (ap (λ v. left ++ v.items) c.swap.ensures.x_after);
      ends = takes.ends;
      read = takes.read;
      idle = takes.idle;
      others = subst (AreIdleIn g.R.BlockReader.IsAside) (sym (with_items_is c.loop-ended.others others len)) went.idle;
    }

pub take_block-requires-clause-can : goal.take_block-requires-clause-can
take_block-requires-clause-can g c κs within =
    let inv = c.loop-ended.invariant in
    let waiting : List ℕ = c.loop-ended.feed.waiting.items in
    let block : List ℕ = c.loop-ended.block.items in
    let lines : List ℕ = c.keep_lines-2.new.block.items in
    let tail : List ℕ = c.keep_lines-2.new.next.items in
    let counted = few_lines g.R.LineReader.step (g.R.LineReader.state c.args.start) c.args.limit _ _ _ c.loop-ended.feed.fed.lines _ c.loop-ended.blocks (waiting ++ block) inv.underway in
    record {
      few = omega (arith, counted, length-append waiting block, ap length c.in-Some-keep_lines.ensures.1, length-append lines tail, c.ranges.limit.fits);
      read = inv.read;
      ends = inv.ends;
      block_ends = c.in-Some-keep_lines.ensures.0;
      idle = inv.idle;
    }

pub take_block-requires-clause-idle : goal.take_block-requires-clause-idle
take_block-requires-clause-idle g c κs within = subst (AreIdleIn g.R.BlockReader.IsAside) (sym c.deref_mut-2.ensures.value) c.loop-ended.invariant.others

pub settle-requires-after_bounds : goal.settle-requires-after_bounds
settle-requires-after_bounds g c κs within =
    let waiting : List ℕ = c.loop-ended.feed.waiting.items in
    let block : List ℕ = c.loop-ended.block.items in
    let lines : List ℕ = c.keep_lines-2.new.block.items in
    let tail : List ℕ = c.keep_lines-2.new.next.items in
    let takes = c.take_block.ensures.takes in
    let left : List ℕ = c.take_block.new.self.waiting.items in
    let counted = few_lines g.R.LineReader.step (g.R.LineReader.state c.args.start) c.args.limit _ _ _ c.loop-ended.feed.fed.lines _ c.loop-ended.blocks (waiting ++ block) c.loop-ended.invariant.underway in
    let counts : length block ≡ length lines + length tail = ap length c.in-Some-keep_lines.ensures.1 ∙ length-append lines tail in
    let cut : length waiting + length lines ≡ length takes.front + length left = sym (length-append waiting lines) ∙ ap length takes.cut ∙ length-append takes.front left in
    record { few = omega (arith, takes.given.lines, cut, counts, counted, length-append waiting block, c.ranges.limit.fits); read = takes.read }

pub take-requires-after_bounds : goal.take-requires-after_bounds
take-requires-after_bounds g c κs within =
    let waiting : List ℕ = c.loop-ended.feed.waiting.items in
    let block : List ℕ = c.loop-ended.block.items in
    let lines : List ℕ = c.keep_lines-2.new.block.items in
    let tail : List ℕ = c.keep_lines-2.new.next.items in
    let takes = c.take_block.ensures.takes in
    let left : List ℕ = c.take_block.new.self.waiting.items in
    let counted = few_lines g.R.LineReader.step (g.R.LineReader.state c.args.start) c.args.limit _ _ _ c.loop-ended.feed.fed.lines _ c.loop-ended.blocks (waiting ++ block) c.loop-ended.invariant.underway in
    let counts : length block ≡ length lines + length tail = ap length c.in-Some-keep_lines.ensures.1 ∙ length-append lines tail in
    let cut : length waiting + length lines ≡ length takes.front + length left = sym (length-append waiting lines) ∙ ap length takes.cut ∙ length-append takes.front left in
    omega (arith, c.settle.ensures.given.lines, takes.given.lines, cut, counts, counted, length-append waiting block, ap length c.deref.ensures.value, c.ranges.limit.fits)

pub returns-in-Ok-finish : goal.returns-in-Ok-finish
returns-in-Ok-finish g c =
    let step = g.R.LineReader.step in
    let state = g.R.LineReader.state in
    let waiting : List ℕ = c.loop-ended.feed.waiting.items in
    let block : List ℕ = c.loop-ended.block.items in
    let tail : List ℕ = c.keep_lines-2.new.next.items in
    let takes = c.take_block.ensures.takes in
    let left : List ℕ = c.take_block.new.self.waiting.items in
    let old = c.loop-ended.feed.fed in
    let mid = c.take_block.new.self.fed in
    let settled = c.settle.new.self.fed in
    let last = c.take.new.self in
    let cut = block_cut waiting block c.keep_lines-2.new.block.items tail takes.front left c.in-Some-keep_lines.ensures.1 takes.cut in
    let behind = gets_both step (state mid.reader) (state settled.reader) (state last.reader) mid.lines settled.lines last.lines mid.fault settled.fault last.fault left tail takes.ends c.settle.ensures.given
    (subst (WasGiven step state settled last) c.deref.ensures.value c.take.ensures) in
    let given = gets_both step (state old.reader) (state mid.reader) (state last.reader) old.lines mid.lines last.lines old.fault mid.fault last.fault takes.front (left ++ tail) takes.front_ends takes.given behind in
    let all = all_read step (state c.args.start) c.args.limit _ _ (state old.reader) (state last.reader) old.lines last.lines old.fault last.fault c.loop-ended.blocks (waiting ++ block) (takes.front ++ (left ++ tail))
    c.loop-ended.invariant.underway (c.loop-ended.invariant.end c.loop-ended-test.false) (sym cut) given in
    (all.0, all.1, c.in-Ok-finish.ensures (state c.args.start) all.0 all.2)

pub returns : goal.returns
returns g c =
    let step = g.R.LineReader.step in
    let state = g.R.LineReader.state in
    let waiting : List ℕ = c.loop-ended.feed.waiting.items in
    let block : List ℕ = c.loop-ended.block.items in
    let tail : List ℕ = c.keep_lines-2.new.next.items in
    let takes = c.take_block.ensures.takes in
    let left : List ℕ = c.take_block.new.self.waiting.items in
    let old = c.loop-ended.feed.fed in
    let mid = c.take_block.new.self.fed in
    let settled = c.settle.new.self.fed in
    let last = c.take.new.self in
    let cut = block_cut waiting block c.keep_lines-2.new.block.items tail takes.front left c.in-Some-keep_lines.ensures.1 takes.cut in
    let behind = gets_both step (state mid.reader) (state settled.reader) (state last.reader) mid.lines settled.lines last.lines mid.fault settled.fault last.fault left tail takes.ends c.settle.ensures.given
    (subst (WasGiven step state settled last) c.deref.ensures.value c.take.ensures) in
    let given = gets_both step (state old.reader) (state mid.reader) (state last.reader) old.lines mid.lines last.lines old.fault mid.fault last.fault takes.front (left ++ tail) takes.front_ends takes.given behind in
    let all = all_read step (state c.args.start) c.args.limit _ _ (state old.reader) (state last.reader) old.lines last.lines old.fault last.fault c.loop-ended.blocks (waiting ++ block) (takes.front ++ (left ++ tail))
    c.loop-ended.invariant.underway (c.loop-ended.invariant.end c.loop-ended-test.false) (sym cut) given in
    (all.0, all.1, c.in-Err-finish.ensures (state c.args.start) all.0 all.2)
