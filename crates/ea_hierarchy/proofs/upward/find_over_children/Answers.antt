use Rattle.std.proofs.Common.{arith, length, refl, ◌∙◌, ◌-◌, ◌≡◌}
use Rattle.std.proofs.lemmas.List.{get_or_default}
use Rattle.std.specs.Prelude.{slice_index}
use Rattle.ea_hierarchy.proofs.Listing.{heads_all, heads_more}
use Rattle.ea_hierarchy.proofs.upward.find_over_children.Goals as goal

pub loop-number-preserved : goal.loop-number-preserved
loop-number-preserved c =
    let it = c.args.growing.now in
    let earlier = it.children.earlier.items in
    let place = c.loop-number.number - 1 in
    let next : c.index-number-in-loop-number.result.now ≡ slice_index earlier place = c.index-number-in-loop-number.ensures ∙ get_or_default earlier place c.index-number-in-loop-number.result.now 0 (omega (arith, c.loop-number.invariant.walked.to)) in
    rw (next, c.in_ok-copy_heads.ensures)
    (heads_more (length it.children.newest.items) (length earlier) it.upward.firsts.items it.upward.heads.items it.upward.parents.items it.children.newest.items earlier c.args.found.now.items c.args.rank c.requires.growing.above refl c.requires.growing.waiting c.requires.rank
    c.loop-number.found.items c.loop-number.number (omega arith) c.loop-number.invariant)

pub returns : goal.returns
returns c =
    let it = c.args.growing.now in
    heads_all (length it.children.newest.items) (length it.children.earlier.items) it.upward.firsts.items it.upward.heads.items it.upward.parents.items it.children.newest.items it.children.earlier.items c.args.found.now.items c.args.rank c.requires.growing.above refl c.requires.growing.waiting c.requires.rank
    c.loop-number.found.items c.loop-number.number (omega arith) (omega (arith, c.requires.growing.parents.count, c.requires.growing.above.count)) c.loop-number.invariant
