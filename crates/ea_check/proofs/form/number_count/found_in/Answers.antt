use Rattle.std.proofs.Common.{◌≡◌, ◌∙◌, ◌+◌, [], ◌∷◌, drop, get_or, ap, arith, sym}
use Rattle.std.proofs.lemmas.List.{drop_all}
use Rattle.ea_check.specs.Counted.{ends_blank, has_other, starts}
use Rattle.ea_check.proofs.Counting.{begins_here, more_other, more_starts, next_byte, or_none, other_here, starts_few}
use Rattle.ea_check.proofs.form.number_count.found_in.Goals as goal

pub loop-b-preserved : goal.loop-b-preserved
loop-b-preserved c =
    let was = c.loop-b.invariant in
    let piece = c.args.piece.now in
    let b = get_or piece c.loop-b.b-index 0 in
    let after = drop (c.loop-b.b-index + 1) piece in
    let here = next_byte piece c.loop-b.b-index c.loop-b-test.true in
    let gap = c.is_blank-gap.ensures in
    let begins = begins_here c.loop-b.blank c.is_blank-gap.result b c.from-starts.result gap c.from-starts.ensures in
    let other = other_here _ c.is_blank-gap.result b c.is_ascii_digit-digit.ensures.value gap in
    record {
      few = omega (arith, was.few, begins, starts_few c.loop-b.blank (b ∷ []));
      starts = more_starts _ (b ∷ []) after here c.loop-b.starts _ _ c.loop-b.blank _ begins gap was.starts;
      other = more_other _ (b ∷ []) after here c.loop-b.other _ _ other was.other;
      blank = ap (λ t. ends_blank t after) gap ∙ sym (ap (ends_blank c.loop-b.blank) here) ∙ was.blank;
    }

pub returns : goal.returns
returns c =
    let none = drop_all c.loop-b.b-index c.args.piece.now c.loop-b-test.false in
    let begun : c.loop-b.starts ≡ starts c.args.before c.args.piece.now = omega (arith, rw none at c.loop-b.invariant.starts) in
    let found : c.loop-b.other ≡ has_other c.args.piece.now = or_none c.loop-b.other ∙ rw none at c.loop-b.invariant.other in
    let ended : c.loop-b.blank ≡ ends_blank c.args.before c.args.piece.now = rw none at c.loop-b.invariant.blank in
    λ i. record { starts = begun i; other = found i; blank = ended i }
