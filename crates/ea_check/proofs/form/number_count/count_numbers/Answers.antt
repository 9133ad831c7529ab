use Rattle.std.proofs.Common.{◌∙◌, ◌||◌, ap, arith, sym}
use Rattle.ea_check.specs.declared.form.number_count.PieceCounts.{PieceCounts}
use Rattle.ea_check.specs.Counted.{has_other}
use Rattle.ea_check.proofs.Counting.{ended, fields_begin, more_other, more_starts, no_numbers, numbers_written, starts_few}
use Rattle.ea_check.proofs.form.number_count.count_numbers.Goals as goal

pub loop-rest-preserved : goal.loop-rest-preserved
loop-rest-preserved c =
    let was = c.loop-rest.invariant in
    let rest = c.loop-rest.rest.now in
    let piece = c.split_at.result.0.now in
    let after = c.split_at.result.1.now in
    let found = c.found_in-found.ensures in
    let begun = ap (λ (f : PieceCounts). f.starts) found in
    let other = ap (λ (f : PieceCounts). f.other) found in
    let ended = ap (λ (f : PieceCounts). f.blank) found in
    let cut = c.split_at.ensures.by_index.0 in
    record {
      few = omega (arith, was.few, c.split_at.ensures.front_len, c.split_at.ensures.back_len, starts_few c.loop-rest.blank piece, begun, c.from-count.ensures);
      starts = omega (arith, c.from-count.ensures, more_starts rest piece after cut c.loop-rest.count c.found_in-found.result.starts _ c.loop-rest.blank c.found_in-found.result.blank begun ended was.starts);
      other = more_other rest piece after cut c.loop-rest.other c.found_in-found.result.other _ other was.other;
    }

pub returns-then-other : goal.returns-then-other
returns-then-other c =
    no_numbers c.args.text.now (sym c.loop-rest.invariant.other ∙ ap (λ t. t || has_other c.loop-rest.rest.now) c.if-other.true)

pub returns-else-other : goal.returns-else-other
returns-else-other c =
    let was = c.loop-rest.invariant in
    let end = ended c.loop-rest.rest.now c.loop-rest.count c.loop-rest.blank c.loop-rest.other _ _ (sym c.is_empty.ensures ∙ c.loop-rest-test.false) was.starts was.other c.if-other.false in
    (numbers_written c.args.text.now end.1, end.0 ∙ sym (fields_begin c.args.text.now))
