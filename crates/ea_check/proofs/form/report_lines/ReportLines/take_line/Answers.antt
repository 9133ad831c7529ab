use Rattle.std.proofs.Common.{◌≡◌, ◌∙◌, ℕ, ◌+◌, ◌-◌, ◌<◌, ◌≤◌, List, ap, arith, drop, length, length-drop, true}
use Rattle.std.proofs.lemmas.Result.{err_from_is_err_and}
use Rattle.ea_blocks.specs.declared.blocks.Blocks.{Blocks}
use Rattle.ea_check.specs.Streams.{TakesLine, last_of, rest_of}
use Rattle.ea_check.proofs.Streaming.{leads_here, leads_same, stops_on, takes_first, takes_last}
use Rattle.ea_check.proofs.form.report_lines.ReportLines.take_line.Goals as goal

pub returns-in-Some-clause-taken : goal.returns-in-Some-clause-taken
returns-in-Some-clause-taken g c =
    let took = c.take.ensures in
    let line = last_of c.take.new.self in
    let text = rest_of c.pulls.self in
    leads_same (TakesLine true line) _ _ _ _ c.pulls.self _ c.pulls.invariant.gets.leads
    (leads_here (TakesLine true line) _ c.pulls.self c.take.new.self took.ready.room took.passed.blocks took.passed.ended
    (λ later none. takes_first text (rest_of c.take.new.self) line c.rest.result.now c.in-Some.end c.rest.ensures c.in-Some.ensures.1 took.passed.rest took.line later))

size_falls : (start block_start past left new_left : ℕ) (block new_block : List ℕ) → start ≤ length block → block_start ≤ length new_block → 0 < past → past ≤ length (drop start block) → drop block_start new_block ≡ drop past (drop start block) → new_left ≡ left → (length new_block - block_start) + new_left < (length block - start) + left
size_falls start block_start past left new_left block new_block inside new_inside some within rest same =
    omega (arith, ap (λ (l : List ℕ). length l) rest, length-drop block_start new_block, length-drop past (drop start block), length-drop start block, same)

pub returns-in-Some-clause-some : goal.returns-in-Some-clause-some
returns-in-Some-clause-some g c =
    let took = c.take.ensures in λ is. (
      took.passed.counted ∙ ap (λ n. n + 1) c.pulls.invariant.count,
      omega (arith, c.pulls.invariant.gets.size, size_falls c.pulls.self.start c.take.new.self.start (c.in-Some.end + 1) c.pulls.self.blocks.left c.take.new.self.blocks.left c.pulls.self.block.items c.take.new.self.block.items c.pulls.invariant.gets.ready.inside took.ready.inside (omega arith) (omega (arith, c.in-Some.ensures.0, ap (λ (l : List ℕ). length l) c.rest.ensures)) took.passed.rest (ap (λ (b : Blocks). b.left) took.passed.blocks)),
    )

pub pulls-smaller : goal.pulls-smaller
pulls-smaller g c = c.in_ok-refill.ensures.fewer

pub pulls-preserved : goal.pulls-preserved
pulls-preserved g c =
    let went = c.in_ok-refill.ensures in
    record {
      gets = record {
        ready = went.gets.ready;
        leads = leads_same (λ text next. text ≡ next) _ _ _ _ c.pulls.self _ c.pulls.invariant.gets.leads went.gets.leads;
        size = went.gets.size ∙ c.pulls.invariant.gets.size;
      };
      count = c.refill.ensures.kept.0 ∙ c.pulls.invariant.count;
      way = c.refill.ensures.kept.1 ∙ c.pulls.invariant.way;
    }

pub returns-in_err-refill-clause-fault : goal.returns-in_err-refill-clause-fault
returns-in_err-refill-clause-fault g c =
    let p = err_from_is_err_and c.from_residual.result c.from_residual.ensures.1 in
    rw (p.1, p.2) (stops_on (λ text next. text ≡ next) _ _ _ _ c.pulls.self _ c.pulls.invariant.gets.leads c.in_err-refill.ensures.fault)

pub returns-clause-taken : goal.returns-clause-taken
returns-clause-taken g c =
    let took = c.take-2.ensures in
    let line = last_of c.take-2.new.self in
    let text = rest_of c.pulls.self in
    leads_same (TakesLine true line) _ _ _ _ c.pulls.self _ c.pulls.invariant.gets.leads
    (leads_here (TakesLine true line) _ c.pulls.self c.take-2.new.self took.ready.room took.passed.blocks took.passed.ended
    (λ later none. takes_last text (rest_of c.take-2.new.self) line c.rest.result.now (length c.rest-left.result.now) c.rest.ensures c.in_default.ensures (omega (arith, c.if-left-eq0.false)) (ap (λ (l : List ℕ). length l) c.rest-left.ensures) took.passed.rest took.line later (none (took.passed.ended ∙ c.if-self.true))))
