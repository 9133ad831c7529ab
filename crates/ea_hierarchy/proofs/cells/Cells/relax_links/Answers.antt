use Rattle.std.proofs.Common.{ℕ, ap, sym, subst, ◌∙◌, arith}
use Rattle.std.specs.Prelude.{slice_index_or}
use Rattle.std.proofs.lemmas.List.{get_or_default}
use Rattle.ea_hierarchy.specs.Cells.{AreWithin, IsSameAbove, LowersReach}
use Rattle.ea_hierarchy.specs.Numbers.{plus}
use Rattle.ea_hierarchy.specs.declared.cells.Aim.{Aim}
use Rattle.ea_hierarchy.specs.declared.trimmed.Link.{Link}
use Rattle.ea_hierarchy.proofs.Reaching.{links_end, links_more}
use Rattle.ea_hierarchy.proofs.cells.Cells.relax_links.Goals as goal

abbrev none : Link
none = record { head = 0; number = 0 }

pub lower_within-highest-requires-clause-rank : goal.lower_within-highest-requires-clause-rank
lower_within-highest-requires-clause-rank c =
    let link : Link = slice_index_or c.args.links.now c.loop-link.link-index none in
    let inside = c.requires.links link (c.loop-link.link-index, c.loop-link-test.true, get_or_default c.args.links.now c.loop-link.link-index link none c.loop-link-test.true) in
    omega (arith, inside, c.loop-link.invariant.relaxes.count_is)

pub lower_within-highest-requires-clause-within : goal.lower_within-highest-requires-clause-within
lower_within-highest-requires-clause-within c =
    subst (λ (a : Aim). AreWithin a c.loop-link.self.list.items) (sym c.loop-link.invariant.aim) (λ rank. omega (arith, c.loop-link.invariant.relaxes.fall rank, c.requires.within rank))

pub loop-link-preserved : goal.loop-link-preserved
loop-link-preserved c =
    let links = c.args.links.now in
    let k : ℕ = c.loop-link.link-index in
    let link : Link = slice_index_or links k none in
    let so_far = c.loop-link.invariant in
    let aim = c.args.self.now.aim in
    let middle = c.loop-link.self.list.items in
    let after = c.lower_within-highest.new.self.list.items in
    let highest = c.loop-link.highest in
    let higher = c.lower_within-highest.result in
    let at = get_or_default links k link none c.loop-link-test.true in
    let lowers : LowersReach aim middle after link.head (plus link.number c.args.reach) =
    subst (λ (s : Aim). LowersReach s middle after link.head (plus link.number c.args.reach)) so_far.aim (subst (λ n. LowersReach c.loop-link.self.aim middle after link.head n) c.plus-sum.ensures c.lower_within-highest.ensures.lowers) in
    let same = subst (λ (s : Aim). IsSameAbove s middle after highest higher) so_far.aim c.lower_within-highest.ensures.above in
    record {
      aim = c.lower_within-highest.ensures.aim ∙ so_far.aim;
      relaxes = links_more aim c.args.self.now.list.items middle after links c.args.reach k highest higher link c.loop-link-test.true at same so_far.relaxes lowers;
    }

pub returns-then-sum-self-clause-relaxes : goal.returns-then-sum-self-clause-relaxes
returns-then-sum-self-clause-relaxes c =
    let links = c.args.links.now in
    let k : ℕ = c.loop-link.link-index in
    let link : Link = slice_index_or links k none in
    let so_far = c.loop-link.invariant in
    let aim = c.args.self.now.aim in
    let at = get_or_default links k link none c.loop-link-test.true in
    links_end aim c.args.self.now.list.items c.loop-link.self.list.items links c.args.reach k c.loop-link.highest link c.requires.ascending c.requires.within c.loop-link-test.true at (omega (arith, c.if-sum-self.true, c.plus-sum.ensures, ap (λ (s : Aim). s.far) so_far.aim)) so_far.relaxes
