use Rattle.std.proofs.Common.{ℕ, ◌-◌, List, set, ap, sym, subst, arith}
use Rattle.ea_search.specs.declared.link.Link.{Link}
use Rattle.ea_paths.specs.Replayed.{IsReachedAgain}
use Rattle.ea_paths.proofs.Linkings.{link_read}
use Rattle.ea_paths.proofs.Replayings.{IsReachedAgain-moved}
use Rattle.ea_paths.proofs.log_replay.relevel.Goals as goal

pub returns-then-level-new-clause-reached : goal.returns-then-level-new-clause-reached
returns-then-level-new-clause-reached c = λ yes roads.
    let node = c.args.node in
    let links = c.args.links.now in
    let ties = c.args.ties.now.list.items in
    let read = ap (λ (l : Link). l.level) (link_read links node c.requires.node.place.is_node.from_one (omega arith)) in
    let P : List (ℕ × ℕ) → Type 0 = λ xs. IsReachedAgain roads node c.args.new links c.args.waiting.now.waiting ties (set links (node - 1) c.args.new) c.rise.new.waiting.waiting xs in
    subst P (sym c.rise.ensures.list) (IsReachedAgain-moved roads node c.args.new links _ _ ties ties c.requires.node.place.is_node.from_one (omega arith) (λ less. absurd (omega arith)) c.rise.ensures.woken.kept c.requires.node.level c.requires.same (λ risen. c.rise.ensures.woken.woken yes))

pub returns-then-new-level-clause-reached : goal.returns-then-new-level-clause-reached
returns-then-new-level-clause-reached c = λ yes roads.
    let node = c.args.node in
    let links = c.args.links.now in
    let ties = c.args.ties.now.list.items in
    let read = ap (λ (l : Link). l.level) (link_read links node c.requires.node.place.is_node.from_one (omega arith)) in
    let P : List (ℕ × ℕ) → Type 0 = λ xs. IsReachedAgain roads node c.args.new links c.args.waiting.now.waiting ties (set links (node - 1) c.args.new) c.add.new.self.waiting xs in
    subst P (sym c.fall.ensures) (IsReachedAgain-moved roads node c.args.new links _ _ ties ties c.requires.node.place.is_node.from_one (omega arith) (λ _. c.add.ensures.inside) c.add.ensures.kept c.requires.node.level c.requires.same (λ risen. absurd (omega arith)))

pub returns-clause-reached : goal.returns-clause-reached
returns-clause-reached c = λ yes roads.
    let node = c.args.node in
    let links = c.args.links.now in
    let ties = c.args.ties.now.list.items in
    let read = ap (λ (l : Link). l.level) (link_read links node c.requires.node.place.is_node.from_one (omega arith)) in
    IsReachedAgain-moved roads node c.args.new links _ _ ties ties c.requires.node.place.is_node.from_one (omega arith) (λ less. absurd (omega arith)) (λ v there. there) c.requires.node.level c.requires.same (λ risen. absurd (omega arith))
