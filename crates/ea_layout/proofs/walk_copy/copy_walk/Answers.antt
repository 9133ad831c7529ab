use Rattle.std.proofs.Common.{◌≡◌, ◌<◌, inl, refl, subst, sym, arith, ap, length}
use Rattle.ea_road.specs.Roads.{IsNode}
use Rattle.ea_search.specs.declared.link.Link.{Link}
use Rattle.ea_search.specs.Links.{link}
use Rattle.ea_search.specs.Listings.{IsListed}
use Rattle.ea_layout.specs.Renamed.{number_of}
use Rattle.ea_layout.proofs.Places.{read_link, read_number}
use Rattle.ea_layout.proofs.Walking.{all_copied, listed_after, nothing_copied, one_further}
use Rattle.ea_layout.proofs.walk_copy.copy_walk.Goals as goal

pub loop-at-init : goal.loop-at-init
loop-at-init c =
    let can = c.requires.can in
    let target = c.requires.target in
    let reverse = can.can.reverse in
    let places = c.args.layout.now.places.items in
    let is = subst (λ n. IsNode n c.args.target) (sym reverse.there_length) target.is_node in
    let read : c.index-at.result.now ≡ number_of places c.args.target = read_number places c.args.target c.index-at.result.now is c.index-at.ensures in
    record {
      copied = rw read (nothing_copied (length c.args.laid.now) places c.args.layout.now.nodes.items reverse c.args.laid.now refl can.followable c.args.target c.requires.target.is_node c.args.links.now can.can.places c.requires.none target.level);
      listed = λ node. inl (c.requires.none node);
      kept = λ node there. there;
    }

pub loop-at-smaller : goal.loop-at-smaller
loop-at-smaller c =
    let none : Link = record { level = 0; arc = 0; from = 0 } in
    let inv = c.loop-at.invariant.copied in
    let read = read_link c.args.laid.now c.loop-at.at none inv.at_node in
    let some : 0 < (link c.args.laid.now c.loop-at.at).level = subst (λ (l : Link). 0 < l.level) read c.loop-at-test.true in
    let below = c.requires.can.followable c.loop-at.at some inv.level in
    rw read (omega (arith, below.1))

pub loop-at-preserved : goal.loop-at-preserved
loop-at-preserved c =
    let none : Link = record { level = 0; arc = 0; from = 0 } in
    let inv = c.loop-at.invariant in
    let read = read_link c.args.laid.now c.loop-at.at none inv.copied.at_node in
    let some : 0 < (link c.args.laid.now c.loop-at.at).level = subst (λ (l : Link). 0 < l.level) read c.loop-at-test.true in
    let places = c.args.layout.now.places.items in
    let nodes = c.args.layout.now.nodes.items in
    let step = c.copy_link.ensures in
    record {
      copied = rw read (one_further (length c.args.laid.now) places nodes c.requires.can.can.reverse c.args.laid.now refl c.requires.can.followable c.args.target c.requires.target.is_node c.loop-at.links c.copy_link.new.links c.loop-at.at inv.copied step.places step.copied step.others some);
      listed = listed_after c.loop-at.links c.copy_link.new.links (number_of nodes c.loop-at.at) (IsListed c.loop-at.listed) (IsListed c.copy_link.new.listed) inv.listed step.others step.there step.kept;
      kept = λ node there. step.kept node (inv.kept node there);
    }

pub returns : goal.returns
returns c =
    let none : Link = record { level = 0; arc = 0; from = 0 } in
    let inv = c.loop-at.invariant in
    let read = read_link c.args.laid.now c.loop-at.at none inv.copied.at_node in
    let ended = c.loop-at-test.false in
    let level : (link c.args.laid.now c.loop-at.at).level ≡ 0 = omega (arith, ap (λ (l : Link). l.level) read, ended) in
    let places = c.args.layout.now.places.items in
    let nodes = c.args.layout.now.nodes.items in
    let step = c.copy_link-2.ensures in
    let all = all_copied (length c.args.laid.now) places nodes c.requires.can.can.reverse c.args.laid.now refl c.requires.can.followable c.args.target c.requires.target.is_node c.loop-at.links c.copy_link-2.new.links c.loop-at.at inv.copied step.places step.copied step.others level in
    record {
      copied = all.0;
      of_target = all.1;
      listed = listed_after c.loop-at.links c.copy_link-2.new.links (number_of nodes c.loop-at.at) (IsListed c.loop-at.listed) (IsListed c.copy_link-2.new.listed) inv.listed step.others step.there step.kept;
      kept = λ node there. step.kept node (inv.kept node there);
    }
