use Rattle.std.proofs.Common.{◌<◌, ◌≤◌, IfSome, length, sym, ap, ◌∙◌, subst}
use Rattle.ea_road.specs.Labels.{label_of, limit}
use Rattle.ea_search.proofs.Places.{bound_of_read}
use Rattle.ea_search.proofs.finishing_pass.latest.Goals as goal

pub label-requires : goal.label-requires
label-requires g c = subst (λ target. IfSome target (λ node. (0 < node) × (node ≤ length (g.L.Table.labels c.args.table.now)))) c.in-Some.is c.requires

pub returns-in-Some : goal.returns-in-Some
returns-in-Some g c =
    let table = g.L.Table.labels c.args.table.now in
    let inside = subst (λ target. IfSome target (λ node. (0 < node) × (node ≤ length table))) c.in-Some.is c.requires in
    c.label.ensures ∙ sym (bound_of_read table c.in-Some.node inside.0 inside.1) ∙ ap (λ o. limit o (label_of table)) (sym c.in-Some.is)
