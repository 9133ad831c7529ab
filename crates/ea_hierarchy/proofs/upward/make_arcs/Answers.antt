use Rattle.std.proofs.Common.{arith, length, subst, [], ◌∷◌, ◌++◌, ◌≡◌, ◌∙◌, ℕ, List}
use Rattle.std.specs.Prelude.{slice_index}
use Rattle.std.proofs.lemmas.List.{get_or_append_left, get_or_push}
use Rattle.ea_hierarchy.specs.Hierarchies.{IsParent}
use Rattle.ea_hierarchy.specs.Waiting.{Appends, AreWaiting, higher_ends, lower_ends}
use Rattle.ea_hierarchy.proofs.Growing.{above_more, made_more, parents_more}
use Rattle.ea_hierarchy.proofs.Listing.{waits_among}
use Rattle.ea_hierarchy.proofs.upward.make_arcs.Goals as goal

pub lowest_head-parent-requires-clause-heads : goal.lowest_head-parent-requires-clause-heads
lowest_head-parent-requires-clause-heads c =
    let rank = c.args.rank in
    let nodes = c.args.network.now.nodes in
    let firsts = c.args.growing.now.upward.firsts.items in
    let heads = c.args.growing.now.upward.heads.items in
    let found = c.find_heads.new.found.items in
    let grown = c.append_once.new.heads.items in
    let last : c.len-2.result ≡ length grown = omega (arith, c.len-2.ensures) in
    let pushed : c.push.new.self.items ≡ firsts ++ length grown ∷ [] = subst (λ n. c.push.new.self.items ≡ firsts ++ n ∷ []) last c.in_ok-push.ensures.items in
    let appends : Appends found rank heads grown = subst (λ (xs : List ℕ). Appends xs rank heads grown) c.deref.ensures.value c.in_ok-append_once.ensures in
    let above = above_more nodes rank firsts heads found grown c.requires.growing.above c.requires.rank c.in_ok-find_heads.ensures.below appends in
    rw (c.deref-2.ensures.value, c.deref-3.ensures.value, pushed)
    (λ some.
    let up = above.upward rank (slice_index (firsts ++ length grown ∷ []) rank) (omega arith) (record { from = omega arith; before = some }) in
    omega (arith, up.1, c.keeps_limits.ensures.nodes_limit))

pub add-requires : goal.add-requires
add-requires c = omega (arith, c.requires.growing.count, c.keeps_limits.ensures.nodes_limit)

pub returns-clause-growing : goal.returns-clause-growing
returns-clause-growing c = λ more.
    let rank = c.args.rank in
    let nodes = c.args.network.now.nodes in
    let firsts = c.args.growing.now.upward.firsts.items in
    let heads = c.args.growing.now.upward.heads.items in
    let parents = c.args.growing.now.upward.parents.items in
    let earlier = c.args.growing.now.children.earlier.items in
    let found = c.find_heads.new.found.items in
    let grown = c.append_once.new.heads.items in
    let parent = c.lowest_head-parent.result in
    let last : c.len-2.result ≡ length grown = omega (arith, c.len-2.ensures) in
    let pushed : c.push.new.self.items ≡ firsts ++ length grown ∷ [] = subst (λ n. c.push.new.self.items ≡ firsts ++ n ∷ []) last c.in_ok-push.ensures.items in
    let appends : Appends found rank heads grown = subst (λ (xs : List ℕ). Appends xs rank heads grown) c.deref.ensures.value c.in_ok-append_once.ensures in
    let above = above_more nodes rank firsts heads found grown c.requires.growing.above c.requires.rank c.in_ok-find_heads.ensures.below appends in
    let count : length parents ≡ rank = omega (arith, c.requires.growing.parents.count, c.requires.growing.above.count) in
    let is_parent : IsParent (firsts ++ length grown ∷ []) grown rank parent = subst (λ (xs : List ℕ). IsParent xs grown rank parent) (c.deref-2.ensures.value ∙ pushed) (subst (λ (xs : List ℕ). IsParent c.deref-2.result.now xs rank parent) c.deref-3.ensures.value c.lowest_head-parent.ensures) in
    let are_parents = parents_more nodes rank firsts heads found grown c.requires.growing.above c.requires.rank c.in_ok-find_heads.ensures.below appends parents c.requires.growing.parents parent is_parent in
    let waiting : AreWaiting (parents ++ parent ∷ []) c.args.growing.now.children.newest.items earlier =
    waits_among parents (parents ++ parent ∷ []) c.args.growing.now.children.newest.items earlier (λ place inside. get_or_append_left parents (parent ∷ []) 0 place (omega (arith, inside, count, c.requires.growing.count))) c.requires.growing.waiting in
    let at : slice_index (parents ++ parent ∷ []) (length earlier) ≡ parent = get_or_push parents parent 0 (length earlier) (omega (arith, count, c.requires.growing.count)) in
    record {
      above = rw pushed above;
      parents = rw (pushed, c.in_ok-push-2.ensures.items) are_parents;
      room = c.in_ok-add.ensures.ranks ∙ c.requires.growing.room;
      count = omega (arith, c.in_ok-add.ensures.count, c.requires.growing.count);
      waiting = rw c.in_ok-push-2.ensures.items (c.in_ok-add.ensures.waiting (parents ++ parent ∷ []) waiting at);
    }

pub returns-clause-made : goal.returns-clause-made
returns-clause-made c = λ more.
    let rank = c.args.rank in
    let roads = c.args.network.now in
    let ranks = c.args.ranks.now in
    let firsts = c.args.growing.now.upward.firsts.items in
    let heads = c.args.growing.now.upward.heads.items in
    let parents = c.args.growing.now.upward.parents.items in
    let found = c.find_heads.new.found.items in
    let grown = c.append_once.new.heads.items in
    let last : c.len-2.result ≡ length grown = omega (arith, c.len-2.ensures) in
    let pushed : c.push.new.self.items ≡ firsts ++ length grown ∷ [] = subst (λ n. c.push.new.self.items ≡ firsts ++ n ∷ []) last c.in_ok-push.ensures.items in
    let appends : Appends found rank heads grown = subst (λ (xs : List ℕ). Appends xs rank heads grown) c.deref.ensures.value c.in_ok-append_once.ensures in
    rw pushed
    (made_more roads.nodes rank firsts heads found grown c.requires.growing.above c.requires.rank c.in_ok-find_heads.ensures.below appends parents c.requires.growing.parents
    (lower_ends ranks roads.arcs) (higher_ends ranks roads.arcs) c.requires.made c.in_ok-find_heads.ensures.arcs c.in_ok-find_heads.ensures.children)
