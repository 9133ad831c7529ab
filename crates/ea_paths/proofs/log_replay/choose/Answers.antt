use Rattle.std.proofs.Common.{◌≡◌, ◌∙◌, ap, sym, inl, inr, arith}
use Rattle.ea_search.specs.declared.link.Link.{Link}
use Rattle.ea_search.specs.Links.{link}
use Rattle.ea_search.specs.Scans.{number_at}
use Rattle.ea_paths.proofs.Linkings.{link_read}
use Rattle.ea_paths.proofs.Replayings.{IsReachedAgain-kept, IsReachedAgain-taken}
use Rattle.ea_paths.proofs.log_replay.choose.Goals as goal

pub returns-then-new-old-clause-reached : goal.returns-then-new-old-clause-reached
returns-then-new-old-clause-reached c = λ yes ties ties' listed tied other.
    let read = ap (λ (l : Link). l.level) (link_read c.args.links.now c.args.node c.requires.place.is_node.from_one (omega arith)) in
    IsReachedAgain-taken c.args.network.now c.args.node c.args.new _ _ _ ties ties' c.requires.place.is_node.from_one (omega arith) (λ _. c.add.ensures.inside) c.add.ensures.kept (inl (omega arith)) listed c.requires.level tied other

pub returns-then-number-other-clause-reached : goal.returns-then-number-other-clause-reached
returns-then-number-other-clause-reached c = λ yes ties ties' listed tied other.
    let read = link_read c.args.links.now c.args.node c.requires.place.is_node.from_one (omega arith) in
    let level = ap (λ (l : Link). l.level) read in
    let number : c.in-Some.number ≡ number_at c.args.network.now c.args.new.from c.args.new.arc = sym c.in-Some.ensures.1 in
    let second : c.in-Some-number_of.other ≡ number_at c.args.network.now (link c.args.links.now c.args.node).from (link c.args.links.now c.args.node).arc = sym c.in-Some-number_of.ensures.1 ∙ ap (λ (l : Link). number_at c.args.network.now l.from l.arc) read in
    IsReachedAgain-taken c.args.network.now c.args.node c.args.new _ _ _ ties ties' c.requires.place.is_node.from_one (omega arith) (λ less. absurd (omega arith)) (λ v there. there) (inr (omega arith, omega (arith, number, second, c.if-number-other.true))) listed c.requires.level tied other

pub returns-else-number-other-clause-reached : goal.returns-else-number-other-clause-reached
returns-else-number-other-clause-reached c = λ yes ties ties' listed tied other.
    let read = link_read c.args.links.now c.args.node c.requires.place.is_node.from_one (omega arith) in
    let level = ap (λ (l : Link). l.level) read in
    let number : c.in-Some.number ≡ number_at c.args.network.now c.args.new.from c.args.new.arc = sym c.in-Some.ensures.1 in
    let second : c.in-Some-number_of.other ≡ number_at c.args.network.now (link c.args.links.now c.args.node).from (link c.args.links.now c.args.node).arc = sym c.in-Some-number_of.ensures.1 ∙ ap (λ (l : Link). number_at c.args.network.now l.from l.arc) read in
    IsReachedAgain-kept c.args.network.now c.args.node c.args.new _ _ ties ties' (λ room better. elim better [ inl less ↦ omega arith | inr same ↦ omega (arith, same.1, number, second, c.if-number-other.false) ]) listed (inr (c.requires.level, (tied, other)))

pub returns-else-new-old-2-clause-reached : goal.returns-else-new-old-2-clause-reached
returns-else-new-old-2-clause-reached c = λ yes ties ties' listed tied other.
    let read = link_read c.args.links.now c.args.node c.requires.place.is_node.from_one (omega arith) in
    let level = ap (λ (l : Link). l.level) read in
    IsReachedAgain-kept c.args.network.now c.args.node c.args.new _ _ ties ties' (λ room better. elim better [
      | inl less ↦ omega arith
      | inr same ↦ elim c.else-new-old-2.either [ inl high ↦ omega (arith, high.1) | inr most ↦ omega (arith, same.0, most) ]
    ]) listed (inr (c.requires.level, (tied, other)))
