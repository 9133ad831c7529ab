-- The last arc of a canonical walk, for any times of nodes.
use Rattle.std.proofs.Common.{◌≡◌, refl, ℕ, suc, ◌+◌, ◌≤◌, List, [], ◌∷◌, ◌++◌, arith, subst}
use Rattle.std.proofs.lemmas.List.{same_from_push}
use Rattle.ea_road.specs.declared.source.Source.{Source}
use Rattle.ea_road.specs.Roads.{Roads}
use Rattle.ea_road.specs.Levels.{IsTight, IsLevel, IsCanonical, at_source, by_arc}
use Rattle.ea_road.proofs.Canonical.{same_level}

module _
    (roads : Roads)
    (answers : ℕ → ℕ → ℕ → ℕ → Type 0)
    (sources : List Source)
    (times : ℕ → ℕ → Type 0)
  where
    lowest_of : {node : ℕ} {whole : List ℕ} (walk : List ℕ) (number other from level : ℕ) → whole ≡ walk ++ number ∷ [] → IsCanonical roads answers sources times node whole → IsLevel roads answers sources times node (level + 1) → IsLevel roads answers sources times from level → IsTight roads answers times other from node → number ≤ other
    lowest_of walk number other from level same (at_source {node} none) above below tight =
        absurd (omega (arith, same_level roads answers sources times node 0 (level + 1) none above))
    lowest_of walk number other from level same (by_arc {head} {number = last} {level = count} {walk = front} before lower upper close lowest) above below tight =
        let levels = same_level roads answers sources times head (suc count) (level + 1) upper above in
        let level_is : level ≡ count = omega arith in
        let ends = same_from_push front walk last number same in
        let bound = lowest other from tight (subst (λ n. IsLevel roads answers sources times from n) level_is below) in
        omega (arith, ends.1)

    -- it has the lowest number of the tight arcs from a node one level below
    pub last_lowest : (node level from number other : ℕ) (walk : List ℕ) → IsCanonical roads answers sources times node (walk ++ number ∷ []) → IsLevel roads answers sources times node (level + 1) → IsLevel roads answers sources times from level → IsTight roads answers times other from node → number ≤ other
    last_lowest node level from number other walk canonical above below tight =
        lowest_of walk number other from level refl canonical above below tight
