use Rattle.std.proofs.Common.{◌≡◌, ◌-◌, [], sym, List, subst, arith}
use Rattle.std.specs.Prelude.{Option, Some, slice_get}
use Rattle.ea_check.specs.declared.form.kept.KeptWalk.{KeptWalk}
use Rattle.ea_check.specs.Verdicts.{Said}
use Rattle.ea_check.specs.Views.{said_from}
use Rattle.ea_check.proofs.KeptLines.{no_items, no_walk_from}
use Rattle.ea_check.proofs.form.reported.Reported.has_no_walks.Goals as goal

pub returns : goal.returns
returns c = λ yes node said is_said.
    let kept = c.self.inside.kept in
    let none = no_items kept.walks.items (omega (arith, kept.walks.ok.0)) in
    no_walk_from [] kept.own.items kept.lines.items kept.table.items (node - 1) said
    (subst (λ (ws : List (Option KeptWalk)). slice_get (said_from [] kept.own.items ws kept.lines.items kept.table.items) (node - 1) ≡ Some said) none
    (subst (λ (r : List Said). slice_get r (node - 1) ≡ Some said) (sym c.self.view_is) is_said.1))
