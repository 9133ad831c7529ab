use Rattle.std.proofs.Common.{◌≡◌, ◌≢◌, ◌==◌, ◌-◌, ◌++◌, ℕ, Some, None, Bool, true, false, List, reverse, refl, sym, ◌∙◌, ap, subst, arith, eqb-true}
use Rattle.std.specs.Prelude.{if◌then◌else◌}
use Rattle.std.proofs.lemmas.List.{append-nil, get_or_read}
use Rattle.ea_road.specs.declared.TheConstants.{NONE}
use Rattle.ea_road.specs.Labels.{label_of}
use Rattle.ea_road.specs.Queries.{IsAskedBy}
use Rattle.ea_search.specs.declared.link.Link.{Link}
use Rattle.ea_search.specs.Answers.{Answered}
use Rattle.ea_search.specs.Links.{link, linked_walk, walk_along}
use Rattle.ea_paths.proofs.Linkings.{link_item}
use Rattle.ea_paths.proofs.Followed.{along-zero, along-back, linked-walk}
use Rattle.ea_paths.proofs.answer.Answer.walk.Goals as goal

-- a node with a label has the walk along its links
some_walk : (label : ℕ) (walk : List ℕ) → label ≢ NONE → (if label == NONE then None else Some walk) ≡ Some walk
some_walk label walk some = by_test (label == NONE) refl
  where
    by_test : (b : Bool) → (label == NONE) ≡ b → (if b then None else Some walk) ≡ Some walk
    by_test true same = absurd (some (eqb-true _ _ same))
    by_test false differs = refl

pub back-init : goal.back-init
back-init c =
    let inside = c.self.inside in
    let nodes = ap (λ (a : Answered). a.nodes) c.self.view_is in
    let walks = ap (λ (a : Answered). a.walks) c.self.view_is ∙ c.requires.walks in
    let target = ap (λ (a : Answered). a.target) c.self.view_is in
    let stored = c.self.invariant in
    let read : c.index.result.now ≡ label_of inside.table.items c.args.node = get_or_read inside.table.items (c.args.node - 1) c.index.result.now (omega (arith, stored.labels)) c.index.ensures 0 in
    let asked : IsAskedBy inside.target c.args.node = subst (λ o. IsAskedBy o c.args.node) (sym target) c.requires.asked in
    record {
      above = c.requires.node.from_one;
      within = omega (arith, stored.links walks, c.requires.node.to_last);
      linked = stored.linked walks c.args.node (record { from_one = c.requires.node.from_one; to_last = omega (arith, c.requires.node.to_last) }) asked (λ none. c.if-index.false (read ∙ none));
      followed = rw c.in_ok-walk.ensures.items (append-nil (walk_along inside.links.items (link inside.links.items c.args.node).level c.args.node) ∙ sym (linked-walk inside.links.items c.args.node));
    }

pub back-smaller : goal.back-smaller
back-smaller c =
    let links = c.self.inside.links.items in
    let walks = ap (λ (a : Answered). a.walks) c.self.view_is ∙ c.requires.walks in
    let inv = c.back.invariant in
    let test : c.index-in-back.result.now ≡ link links c.back.at = link_item links c.back.at c.index-in-back.result.now inv.above inv.within c.index-in-back.ensures in
    let end : c.index-end.result.now ≡ link links c.back.at = link_item links c.back.at c.index-end.result.now inv.above inv.within c.index-end.ensures in
    let level = ap (λ (l : Link). l.level) test in
    let below = c.self.invariant.followable walks c.back.at (omega arith) inv.linked in
    rw end (omega (arith, below.1))

pub back-preserved : goal.back-preserved
back-preserved c =
    let links = c.self.inside.links.items in
    let walks = ap (λ (a : Answered). a.walks) c.self.view_is ∙ c.requires.walks in
    let inv = c.back.invariant in
    let test : c.index-in-back.result.now ≡ link links c.back.at = link_item links c.back.at c.index-in-back.result.now inv.above inv.within c.index-in-back.ensures in
    let end : c.index-end.result.now ≡ link links c.back.at = link_item links c.back.at c.index-end.result.now inv.above inv.within c.index-end.ensures in
    let level = ap (λ (l : Link). l.level) test in
    let below = c.self.invariant.followable walks c.back.at (omega arith) inv.linked in
    record {
      above = rw end below.0.from_one;
      within = rw end below.0.to_last;
      linked = rw end (omega (arith, below.1, inv.linked));
      followed = rw (c.in_ok-push.ensures.items, end) (along-back links c.back.at c.back.walk.items below.1 ∙ inv.followed);
    }

pub returns : goal.returns
returns c =
    let inside = c.self.inside in
    let links = inside.links.items in
    let inv = c.back.invariant in
    let stored = c.self.invariant in
    let nodes = ap (λ (a : Answered). a.nodes) c.self.view_is in
    let read : c.index.result.now ≡ label_of inside.table.items c.args.node = get_or_read inside.table.items (c.args.node - 1) c.index.result.now (omega (arith, stored.labels)) c.index.ensures 0 in
    let test : c.index-in-back.result.now ≡ link links c.back.at = link_item links c.back.at c.index-in-back.result.now inv.above inv.within c.index-in-back.ensures in
    let level = ap (λ (l : Link). l.level) test in
    let no_more = along-zero links (link links c.back.at).level c.back.at (omega arith) in
    let all : reverse c.back.walk.items ≡ linked_walk links c.args.node = ap (λ (xs : List ℕ). xs ++ reverse c.back.walk.items) (sym no_more) ∙ inv.followed in
    rw (← c.self.view_is, c.reverse.ensures.items, all) (some_walk (label_of inside.table.items c.args.node) (linked_walk links c.args.node) (λ none. c.if-index.false (read ∙ none)))
