use Rattle.std.proofs.Common.{◌≡◌, ◌∙◌, [], ℕ, ◌-◌, sym, ap, List, length, get_or, arith}
use Rattle.std.proofs.lemmas.List.{get_or_read}
use Rattle.ea_check.specs.Verdicts.{Said, times_of}
use Rattle.ea_check.proofs.KeptLines.{length_from, times_from}
use Rattle.ea_check.proofs.form.reported.Reported.time.Goals as goal

pub index-requires : goal.index-requires
index-requires c =
    let kept = c.self.inside.kept in
    let same : length kept.table.items ≡ length c.args.self.now = c.self.invariant.times ∙ sym (length_from [] kept.own.items kept.walks.items kept.lines.items kept.table.items c.self.invariant.times) ∙ ap (λ (r : List Said). length r) c.self.view_is in
    let few = c.requires.to_last in
    let some = c.requires.from_one in
    omega (arith, same, few, some, kept.table.ok.0)

pub returns : goal.returns
returns c =
    let kept = c.self.inside.kept in
    let same : length kept.table.items ≡ length c.args.self.now = c.self.invariant.times ∙ sym (length_from [] kept.own.items kept.walks.items kept.lines.items kept.table.items c.self.invariant.times) ∙ ap (λ (r : List Said). length r) c.self.view_is in
    let few = c.requires.to_last in
    let some = c.requires.from_one in
    let read : c.index.result.now ≡ get_or kept.table.items (c.args.node - 1) 0 = get_or_read kept.table.items (c.args.node - 1) c.index.result.now (omega arith) c.index.ensures 0 in
    let table = sym (times_from [] kept.own.items kept.walks.items kept.lines.items kept.table.items c.self.invariant.times) ∙ ap (λ (r : List Said). times_of r) c.self.view_is in
    read ∙ ap (λ (t : List ℕ). get_or t (c.args.node - 1) 0) table
