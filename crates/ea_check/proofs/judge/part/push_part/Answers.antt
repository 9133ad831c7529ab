use Rattle.std.proofs.Common.{◌∙◌, ap, refl, List, length}
use Rattle.std.proofs.lemmas.List.{length-replicate}
use Rattle.std.specs.Prelude.{Bool}
use Rattle.ea_check.proofs.judge.part.push_part.Goals as goal

pub returns : goal.returns
returns c =
    (record { arcs = c.args.arcs; lowest = 0; marks = c.in_ok-marks.marks }, c.in_ok-push.ensures.items, refl, ap (λ (l : List Bool). length l) c.in_ok-marks.ensures ∙ length-replicate _ _ ∙ c.nodes.ensures.nodes)
