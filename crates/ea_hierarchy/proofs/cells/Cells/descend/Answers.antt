use Rattle.std.proofs.Common.{subst, sym, ◌∙◌}
use Rattle.std.specs.Prelude.{slice_index}
use Rattle.ea_hierarchy.specs.Cells.{AreFound, FindsMore, IsFinal}
use Rattle.ea_hierarchy.proofs.Paths.{finds_then, heads_found, last_below, parent_found, path_shrinks, top_next, way_next}
use Rattle.ea_hierarchy.proofs.cells.Cells.descend.Goals as goal

pub evaluate-requires-clause-heads : goal.evaluate-requires-clause-heads
evaluate-requires-clause-heads c = λ place is.
    let firsts = c.args.upward.now.firsts.items in
    let heads = c.args.upward.now.heads.items in
    let ups = c.args.numbers.now.ups.items in
    let so_far = c.loop-rank.invariant in
    let list = c.loop-rank.self.list.items in
    let path = c.loop-rank.path.items in
    let rest = c.pop.new.self.items in
    let rank = c.in-Some.rank in
    let aim = c.args.self.now.aim in
    let popped = c.in-Some.ensures.items in
    let found = heads_found firsts heads ups aim list rank c.requires.upward so_far.found (last_below firsts heads path rest rank popped so_far.path_is) (parent_found firsts heads path rest rank popped aim list so_far.top) place is in
    subst (λ s. IsFinal s list (slice_index heads place)) (sym so_far.aim) found

pub loop-rank-preserved : goal.loop-rank-preserved
loop-rank-preserved c =
    let firsts = c.args.upward.now.firsts.items in
    let heads = c.args.upward.now.heads.items in
    let ups = c.args.numbers.now.ups.items in
    let so_far = c.loop-rank.invariant in
    let first = c.args.self.now.list.items in
    let list = c.loop-rank.self.list.items in
    let after = c.evaluate.new.self.list.items in
    let path = c.loop-rank.path.items in
    let rest = c.pop.new.self.items in
    let last = c.in-Some.rank in
    let aim = c.args.self.now.aim in
    let popped = c.in-Some.ensures.items in
    let same = c.evaluate.ensures.aim ∙ so_far.aim in
    let here : IsFinal aim after last = subst (λ s. IsFinal s after last) same c.evaluate.ensures.here in
    let finds : FindsMore aim list after = subst (λ s. FindsMore s list after) so_far.aim c.evaluate.ensures.finds in
    record {
      aim = same;
      room = c.in-Some.ensures.capacity ∙ so_far.room;
      found = subst (λ s. AreFound firsts heads ups s after) same c.evaluate.ensures.found;
      finds = finds_then aim first list after so_far.finds finds;
      path_is = path_shrinks firsts heads path rest last popped so_far.path_is;
      top = top_next firsts heads path rest last popped aim after so_far.path_is here;
      way = λ rank from. way_next firsts heads path rest last popped aim list after rank finds here (so_far.way rank from);
    }
