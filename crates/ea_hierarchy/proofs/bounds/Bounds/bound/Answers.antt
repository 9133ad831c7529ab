use Rattle.std.proofs.Common.{ap, arith, length, subst, sym, ◌-◌, ◌≡◌, ◌∙◌, ℕ}
use Rattle.ea_hierarchy.specs.Bounds.{bound_of, told}
use Rattle.ea_hierarchy.specs.Cells.{reach_of, worth_of}
use Rattle.ea_hierarchy.specs.Hierarchies.{Hierarchy}
use Rattle.ea_hierarchy.specs.declared.cells.Aim.{Aim}
use Rattle.ea_hierarchy.proofs.Bounding.{potential_same}
use Rattle.ea_hierarchy.proofs.bounds.Bounds.bound.Goals as goal

pub returns-clause-bound : goal.returns-clause-bound
returns-clause-bound c =
    let firsts = c.prepared.inside.upward.firsts.items in
    let heads = c.prepared.inside.upward.heads.items in
    let ups = c.prepared.inside.numbers.ups.items in
    let before = c.args.self.now.cells in
    let after = c.descend.new.self in
    let rank = c.of-rank.result in
    let many = ap (λ (h : Hierarchy). length h.ranks) c.prepared.view_is in
    let ranks = c.prepared.invariant.0.ranks in
    let below = ranks.below (c.args.node - 1) (omega (arith, many, ranks.count, c.requires.from_one, c.requires.to_last)) in
    let final = c.descend.ensures.found.final rank (omega (arith, below, c.of-rank.ensures)) (c.descend.ensures.from rank c.climb.ensures.from) in
    let reach = subst (λ (aim : Aim). (other : ℕ) → reach_of aim after.list.items other ≡ reach_of before.aim before.list.items other) (sym c.descend.ensures.aim) c.descend.ensures.finds.reach in
    let same = potential_same firsts heads ups (reach_of after.aim after.list.items) (reach_of before.aim before.list.items) reach (length firsts - 1) rank in
    let worth = c.bound.ensures ∙ final ∙ same ∙ ap (worth_of firsts heads ups before.aim before.list.items) c.of-rank.ensures in
    subst (λ (h : Hierarchy). c.tell.result ≡ told (bound_of h c.args.self.now c.args.node)) c.prepared.view_is (c.tell.ensures ∙ ap told worth)
