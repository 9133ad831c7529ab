use Rattle.std.proofs.Common.{◌∙◌, [], sym, ap, List}
use Rattle.ea_check.specs.Verdicts.{Said, times_of}
use Rattle.ea_check.proofs.KeptLines.{times_from}
use Rattle.ea_check.proofs.form.reported.Reported.table.Goals as goal

pub returns : goal.returns
returns c =
    let kept = c.self.inside.kept in
    c.deref.ensures.value ∙ sym (times_from [] kept.own.items kept.walks.items kept.lines.items kept.table.items c.self.invariant.times) ∙ ap (λ (r : List Said). times_of r) c.self.view_is
