use Rattle.std.proofs.Common.{subst, arith, length}
use Rattle.std.specs.Prelude.{slice_index, ◌+◌}
use Rattle.ea_hierarchy.specs.Cells.{RelaxesLinks}
use Rattle.ea_hierarchy.proofs.Reaching.{relaxes_all, relaxes_none}
use Rattle.ea_hierarchy.proofs.cells.Cells.relax.Goals as goal

pub relax_links-requires-clause-links : goal.relax_links-requires-clause-links
relax_links-requires-clause-links c = λ link there.
    let trimmed = c.in-Some.ensures c.args.upward.now.firsts.items c.args.upward.now.heads.items c.args.numbers.now.downs.items c.requires.trimmed in
    let arc = trimmed.arcs link there in
    let up = c.requires.upward.upward c.args.rank arc.place c.requires.rank arc.is_from in
    omega (arith, up.1, arc.head, c.requires.count)

pub returns-in-Some-clause-relaxes : goal.returns-in-Some-clause-relaxes
returns-in-Some-clause-relaxes c =
    let firsts = c.args.upward.now.firsts.items in
    let heads = c.args.upward.now.heads.items in
    let downs = c.args.numbers.now.downs.items in
    let aim = c.args.self.now.aim in
    let list = c.args.self.now.list.items in
    let after = c.relax_links.new.self.list.items in
    let links = c.in-Some.links.now in
    let trimmed = c.in-Some.ensures firsts heads downs c.requires.trimmed in
    relaxes_all firsts heads downs aim list after c.args.rank c.relax_links.result links trimmed (subst (λ n. RelaxesLinks aim list after links n (length links) c.relax_links.result) c.reach-reach.ensures c.relax_links.ensures.relaxes)

pub returns-then-reach-self-clause-relaxes : goal.returns-then-reach-self-clause-relaxes
returns-then-reach-self-clause-relaxes c =
    let firsts = c.args.upward.now.firsts.items in
    relaxes_none firsts c.args.upward.now.heads.items c.args.numbers.now.downs.items c.args.self.now.aim c.args.self.now.list.items c.args.rank (slice_index firsts (c.args.rank + 1)) 0 (omega (arith, c.ranges)) c.requires.within (omega (arith, c.if-reach-self.true, c.reach-reach.ensures))
