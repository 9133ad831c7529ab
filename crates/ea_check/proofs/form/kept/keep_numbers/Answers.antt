use Rattle.std.proofs.Common.{◌∙◌, ◌+◌, ◌++◌, ◌∷◌, [], ap, append_assoc, sym, List, ℕ}
use Rattle.ea_check.specs.Runs.{numbers}
use Rattle.ea_check.proofs.KeptLines.{numbers_more}
use Rattle.ea_check.proofs.form.kept.keep_numbers.Goals as goal

pub loop-place-preserved : goal.loop-place-preserved
loop-place-preserved c =
    let old = c.args.lines.now.items in
    let here = numbers c.args.number c.loop-place.place in
    let last = c.args.number + c.loop-place.place in
    c.in_ok-push.ensures.items ∙ ap (λ (l : List ℕ). l ++ last ∷ []) c.loop-place.invariant ∙ append_assoc old here (last ∷ []) ∙ ap (λ (l : List ℕ). old ++ l) (sym (numbers_more c.args.number c.loop-place.place))
