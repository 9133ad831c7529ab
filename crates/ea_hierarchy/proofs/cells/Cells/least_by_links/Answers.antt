use Rattle.std.proofs.Common.{◌≡◌, ℕ, ◌+◌, sym, subst, ap, ◌∙◌, arith}
use Rattle.std.specs.Prelude.{slice_index_or}
use Rattle.std.proofs.lemmas.List.{get_or_default}
use Rattle.ea_hierarchy.specs.Cells.{bound_at}
use Rattle.ea_hierarchy.specs.Numbers.{plus}
use Rattle.ea_hierarchy.specs.declared.trimmed.Link.{Link}
use Rattle.ea_hierarchy.proofs.Trimming.{IsLeastSoFar, least_of, so_far_ends, so_far_more}
use Rattle.ea_hierarchy.proofs.cells.Cells.least_by_links.Goals as goal

abbrev none : Link
none = record { head = 0; number = 0 }

pub bound-requires : goal.bound-requires
bound-requires c =
    let link : Link = slice_index_or c.args.links.now c.loop-link.link-index none in
    c.requires.links link (c.loop-link.link-index, c.loop-link-test.true, get_or_default c.args.links.now c.loop-link.link-index link none c.loop-link-test.true)

pub loop-link-preserved : goal.loop-link-preserved
loop-link-preserved c =
    let links = c.args.links.now in
    let k : ℕ = c.loop-link.link-index in
    let link : Link = slice_index_or links k none in
    let bounds : ℕ → ℕ = bound_at c.args.self.now.aim c.args.self.now.list.items in
    let at = get_or_default links k link none c.loop-link-test.true in
    let value : c.plus.result ≡ plus link.number (bounds link.head) = c.plus.ensures ∙ ap (plus link.number) c.bound.ensures in
    let more = so_far_more bounds links c.args.reach c.loop-link.bound k c.plus.result link c.loop-link-test.true at value c.loop-link.invariant in
    subst (λ n. IsLeastSoFar bounds links c.args.reach n (k + 1)) (sym c.min-bound.ensures) more

pub returns-then-link-bound : goal.returns-then-link-bound
returns-then-link-bound c =
    let links = c.args.links.now in
    let k : ℕ = c.loop-link.link-index in
    let link : Link = slice_index_or links k none in
    let bounds : ℕ → ℕ = bound_at c.args.self.now.aim c.args.self.now.list.items in
    let at = get_or_default links k link none c.loop-link-test.true in
    least_of bounds links c.args.reach c.loop-link.bound (so_far_ends bounds links c.args.reach c.loop-link.bound k link c.requires.ascending c.loop-link-test.true at (omega (arith, c.loop-link.invariant.to_reach, c.ranges.reach)) c.if-link-bound.true c.loop-link.invariant)
