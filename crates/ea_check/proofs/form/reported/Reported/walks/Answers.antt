use Rattle.std.proofs.Common.{◌∙◌, [], sym, ap, List, length, arith}
use Rattle.ea_check.specs.Verdicts.{Said}
use Rattle.ea_check.proofs.KeptLines.{length_from}
use Rattle.ea_check.proofs.form.reported.Reported.walks.Goals as goal

pub returns : goal.returns
returns c =
    let kept = c.self.inside.kept in
    let size = sym (length_from [] kept.own.items kept.walks.items kept.lines.items kept.table.items c.self.invariant.times) ∙ ap (λ (r : List Said). length r) c.self.view_is in
    omega (arith, size, c.self.invariant.few, c.loop-walk.invariant, c.loop-walk.auto.walk-index-end, c.deref-walk-items.ensures.len, kept.walks.ok.0)
