-- Following links back beside a written walk.
use Rattle.std.proofs.Common.{◌≡◌, ◌≢◌, ◌∙◌, refl, ℕ, zero, suc, ◌+◌, ◌-◌, ◌<◌, ◌≤◌, List, [], ◌∷◌, ◌++◌, length, take, get_or, arith, ap, sym, subst}
use Rattle.std.proofs.lemmas.List.{same_from_push, take_more, take_all}
use Rattle.std.specs.Prelude.{◌↔◌}
use Rattle.ea_road.specs.declared.source.Source.{Source}
use Rattle.ea_road.specs.Roads.{Roads, IsNode, IsNetwork}
use Rattle.ea_road.proofs.Canonical.{same_level}
use Rattle.ea_search.specs.declared.link.Link.{Link}
use Rattle.ea_search.specs.declared.link.TheConstants.{NO_LEVEL}
use Rattle.ea_search.specs.Links.{AreLinks, link, linked_walk, walk_along}
use Rattle.ea_paths.specs.Stored.{AreFollowable}
use Rattle.ea_paths.proofs.Followed.{linked-walk, linked_length}
use Rattle.ea_paths.proofs.Linkings.{link-node}

-- one more link
along_more : (links : List Link) (count node : ℕ) → 0 < count → walk_along links count node ≡ walk_along links (count - 1) (link links node).from ++ (link links node).arc ∷ []
unfolding walk_along
along_more links zero node some = absurd (omega arith)
along_more links (suc count) node some = let e : suc count - 1 ≡ count = omega arith in rw e refl

along_none : (links : List Link) (count node : ℕ) → count ≤ 0 → walk_along links count node ≡ []
unfolding walk_along
along_none links zero node none = refl
along_none links (suc count) node none = absurd (omega arith)

-- as many arcs as links
pub as_many : (links : List Link) (node : ℕ) (arcs : List ℕ) → arcs ≡ linked_walk links node → length arcs ≡ (link links node).level
as_many links node arcs same = ap (λ (xs : List ℕ). length xs) same ∙ linked_length links node

taken : (arcs : List ℕ) (left : ℕ) → 0 < left → left ≤ length arcs → take left arcs ≡ take (left - 1) arcs ++ get_or arcs (left - 1) 0 ∷ []
taken arcs left some few =
    let same : left - 1 + 1 ≡ left = omega arith in
    subst (λ n. take n arcs ≡ take (left - 1) arcs ++ get_or arcs (left - 1) 0 ∷ []) same (take_more arcs (left - 1) 0 (omega arith))

module _ (links : List Link) (at : ℕ) (arcs : List ℕ) (left : ℕ) where
  -- what is left is the walk from here
  abbrev IsRest : Type 0
  IsRest = take left arcs ≡ walk_along links left at

  pub goes_back : 0 < left → left ≤ length arcs → (link links at).arc ≡ get_or arcs (left - 1) 0 → IsRest ↔ (take (left - 1) arcs ≡ walk_along links (left - 1) (link links at).from)
  goes_back some few same = (
    λ whole. (same_from_push (take (left - 1) arcs) (walk_along links (left - 1) (link links at).from) (get_or arcs (left - 1) 0) (link links at).arc (sym (taken arcs left some few) ∙ whole ∙ along_more links left at some)).0,
    λ part. taken arcs left some few ∙ ap (λ (xs : List ℕ). xs ++ get_or arcs (left - 1) 0 ∷ []) part ∙ ap (λ n. walk_along links (left - 1) (link links at).from ++ n ∷ []) (sym same) ∙ sym (along_more links left at some),
  )

  pub refuses : 0 < left → left ≤ length arcs → (link links at).arc ≢ get_or arcs (left - 1) 0 → IsRest → ⊥
  refuses some few differs whole =
      differs (sym (same_from_push (take (left - 1) arcs) (walk_along links (left - 1) (link links at).from) (get_or arcs (left - 1) 0) (link links at).arc (sym (taken arcs left some few) ∙ whole ∙ along_more links left at some)).1)

  pub ends : left ≤ 0 → IsRest
  ends none = none_left left none ∙ sym (along_none links left at none)
    where
      none_left : (left : ℕ) → left ≤ 0 → take left arcs ≡ []
      none_left zero few = refl
      none_left (suc left) few = absurd (omega arith)

pub starts : (links : List Link) (node : ℕ) (arcs : List ℕ) (left : ℕ) → left ≡ length arcs → left ≡ (link links node).level → (arcs ≡ linked_walk links node) ↔ (take left arcs ≡ walk_along links left node)
starts links node arcs left size level =
    let whole : take left arcs ≡ arcs = take_all left arcs (omega arith) in
    let walk : linked_walk links node ≡ walk_along links left node = linked-walk links node ∙ ap (λ n. walk_along links n node) (sym level) in
    (λ same. whole ∙ same ∙ walk, λ rest. sym whole ∙ rest ∙ sym walk)

-- each link above level 0 leads to a node one level below
pub followable : (roads : Roads) (answers : ℕ → ℕ → ℕ → ℕ → Type 0) (sources : List Source) (times : ℕ → ℕ → Type 0) (links : List Link) → IsNetwork roads → AreLinks roads answers sources times links → AreFollowable links
followable roads answers sources times links network are node high there =
    let at = link-node links node there in
    let is_node : IsNode roads.nodes node = record { from_one = at.0; to_last = omega (arith, at.1, are.places) } in
    let each = are.each node is_node in
    let some : (link links node).level ≢ NO_LEVEL = omega arith in
    let tight = each.tight some high in
    let from : IsNode roads.nodes (link links node).from = subst (λ n. IsNode roads.nodes n) tight.is_tail (network.each_fits (link links node).arc tight.arc tight.is_arc).tail in
    let below = each.below some high in
    let before = are.each (link links node).from from in
    let has : (link links (link links node).from).level ≢ NO_LEVEL = λ none. before.without none ((link links node).level - 1) below.chain in
    let same = same_level roads answers sources times (link links node).from (link links (link links node).from).level ((link links node).level - 1) (before.level has) below in
    let to_last = from.to_last in
    let count = are.places in
    (record { from_one = from.from_one; to_last = omega arith }, omega arith)
