-- Following links back.
use Rattle.std.proofs.Common.{◌≡◌, ℕ, zero, suc, ◌+◌, List, [], ◌∷◌, ◌++◌, length, reverse, refl, sym, ◌∙◌, ap, arith, length-append}
use Rattle.std.proofs.lemmas.List.{append_assoc, reverse-append}
use Rattle.ea_search.specs.declared.link.Link.{Link}
use Rattle.ea_search.specs.Links.{link, linked_walk, walk_along}

pub along-zero : (links : List Link) (count node : ℕ) → count ≡ 0 → walk_along links count node ≡ []
unfolding walk_along
along-zero links zero node same = refl
along-zero links (suc count) node same = absurd (omega arith)

along-suc : (links : List Link) (level count node : ℕ) → count + 1 ≡ level → walk_along links level node ≡ walk_along links count (link links node).from ++ (link links node).arc ∷ []
unfolding walk_along
along-suc links zero count node same = absurd (omega arith)
along-suc links (suc level) count node same = let e : level ≡ count = omega arith in ap (λ n. walk_along links n (link links node).from ++ (link links node).arc ∷ []) e

-- one link further back
pub along-back : (links : List Link) (node : ℕ) (walk : List ℕ) → (link links (link links node).from).level + 1 ≡ (link links node).level → walk_along links (link links (link links node).from).level (link links node).from ++ reverse (walk ++ (link links node).arc ∷ []) ≡ walk_along links (link links node).level node ++ reverse walk
along-back links node walk below =
    let arc = (link links node).arc in
    let front = walk_along links (link links (link links node).from).level (link links node).from in
    let step = along-suc links (link links node).level (link links (link links node).from).level node below in
    ap (λ (xs : List ℕ). front ++ xs) (reverse-append walk (arc ∷ [])) ∙ sym (append_assoc front (arc ∷ []) (reverse walk)) ∙ ap (λ (xs : List ℕ). xs ++ reverse walk) (sym step)

pub linked-walk : (links : List Link) (node : ℕ) → linked_walk links node ≡ walk_along links (link links node).level node
unfolding linked_walk
linked-walk links node = refl

-- as many arcs as links
along_length : (links : List Link) (count node : ℕ) → length (walk_along links count node) ≡ count
unfolding walk_along
along_length links zero node = refl
along_length links (suc count) node =
    let front = along_length links count (link links node).from in
    omega (arith, length-append (walk_along links count (link links node).from) ((link links node).arc ∷ []), front)

pub linked_length : (links : List Link) (node : ℕ) → length (linked_walk links node) ≡ (link links node).level
linked_length links node = ap (λ (xs : List ℕ). length xs) (linked-walk links node) ∙ along_length links (link links node).level node
