use Rattle.std.proofs.Common.{◌≡◌, ◌∙◌, [], ◌-◌, sym, ap, List, length, get_or, arith, subst}
use Rattle.std.proofs.lemmas.List.{get_or_read}
use Rattle.std.specs.Prelude.{Some, slice_get}
use Rattle.ea_check.specs.Verdicts.{Said}
use Rattle.ea_check.proofs.KeptLines.{length_from, lines_from}
use Rattle.ea_check.proofs.form.reported.Reported.line.Goals as goal

pub index-requires : goal.index-requires
index-requires c =
    let kept = c.self.inside.kept in
    let same : length kept.lines.items ≡ length c.args.self.now = sym (length_from [] kept.own.items kept.walks.items kept.lines.items kept.table.items c.self.invariant.times) ∙ ap (λ (r : List Said). length r) c.self.view_is in
    let few = c.requires.to_last in
    let some = c.requires.from_one in
    omega (arith, same, few, some, kept.lines.ok.0)

pub returns : goal.returns
returns c =
    let kept = c.self.inside.kept in
    let same : length kept.lines.items ≡ length c.args.self.now = sym (length_from [] kept.own.items kept.walks.items kept.lines.items kept.table.items c.self.invariant.times) ∙ ap (λ (r : List Said). length r) c.self.view_is in
    let few = c.requires.to_last in
    let some = c.requires.from_one in
    let read : c.index.result.now ≡ get_or kept.lines.items (c.args.node - 1) 0 = get_or_read kept.lines.items (c.args.node - 1) c.index.result.now (omega arith) c.index.ensures 0 in
    λ said is_said. read ∙ lines_from [] kept.own.items kept.walks.items kept.lines.items kept.table.items (c.args.node - 1) said (subst (λ (r : List Said). slice_get r (c.args.node - 1) ≡ Some said) (sym c.self.view_is) is_said.1)
