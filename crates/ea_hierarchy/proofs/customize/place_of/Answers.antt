use Rattle.std.proofs.Common.{subst, sym, ℕ}
use Rattle.ea_hierarchy.specs.Hierarchies.{Joins}
use Rattle.ea_hierarchy.proofs.customize.place_of.Goals as goal

pub returns : goal.returns
returns c =
    let firsts = c.args.upward.now.firsts.items in
    let heads = c.args.upward.now.heads.items in
    let place = c.requires.arc.0 in
    subst (λ (n : ℕ). Joins firsts heads c.args.low c.args.high n) (sym (c.seek.ensures.is place c.requires.arc.1)) c.requires.arc.1
