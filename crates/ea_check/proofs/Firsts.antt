-- The first line with a fault.
use Rattle.std.proofs.Common.{◌≡◌, ℕ, ◌<◌, ◌≤◌, List, inl, inr, arith, ap, sym, subst}
use Rattle.std.proofs.lemmas.Bool.Decides.{eqb_tells, leb_tells}
use Rattle.std.specs.Prelude.{Some}
use Rattle.ea_road.specs.declared.source.Source.{Source}
use Rattle.ea_road.specs.Roads.{Roads}
use Rattle.ea_road.specs.Levels.{HasChain}
use Rattle.ea_check.specs.Verdicts.{WrittenWalk, Said, IsSaid, IsReported, IsNotAttained, no_level, astray, IsNotCanonical, other_walk, IsNotLeast, improved, IsAttained, IsCanonicalAt, IsLineOf, time_line, walk_line, IsWellFormed, IsFirst}

pub one_said : (reported : List Said) (node : ℕ) (said other : Said) → IsSaid reported node said → IsSaid reported node other → said ≡ other
one_said reported node said other this that = let a = this.1 in let b = that.1 in cc

pub one_walk : (said other : Said) (walk next : WrittenWalk) → said ≡ other → said.walk ≡ Some walk → other.walk ≡ Some next → walk ≡ next
one_walk said other walk next same this that = let e = ap (λ (s : Said). s.walk) same in cc

-- the first fault of a node is the first of all if no node before has any
pub first_at : (IsFault : ℕ → ℕ → Type 0) (nodes : ℕ) (reported : List Said) → IsWellFormed nodes reported → ((node line : ℕ) → IsFault node line → IsLineOf reported node line) → (node line : ℕ) → IsFault node line → ((next : ℕ) → IsFault node next → line ≤ next) → ((before next : ℕ) → before < node → IsFault before next → ⊥) → IsFirst IsFault line
first_at IsFault nodes reported formed is_line node line fault here none = record {
  node = node;
  fault = fault;
  first = λ other next also.
      elim (leb_tells node other) [
        | inr before ↦ absurd (none other next (omega (arith, before.1)) also)
        | inl after ↦ elim (eqb_tells node other) [
          | inl same ↦ here next (subst (λ n. IsFault n next) (sym same.1) also)
          | inr differs ↦
              let later : node < other = omega (arith, after.1, differs.1) in
              let order = formed.in_order node other line next later (is_line node line fault) (is_line other next also) in
              omega arith
        ]
      ];
}

module _
    (roads : Roads)
    (answers : ℕ → ℕ → ℕ → ℕ → Type 0)
    (sources : List Source)
    (reported : List Said)
  where
    pub line_not_attained : (node line : ℕ) → IsNotAttained roads answers sources reported node line → IsLineOf reported node line
    line_not_attained node line (no_level is_said has_time none) = time_line is_said
    line_not_attained node line (astray is_said written none) = walk_line is_said written

    pub line_not_canonical : (node line : ℕ) → IsNotCanonical roads answers sources reported node line → IsLineOf reported node line
    line_not_canonical node line (other_walk is_said written none) = walk_line is_said written

    pub line_not_least : (node line : ℕ) → IsNotLeast roads answers sources reported node line → IsLineOf reported node line
    line_not_least node line (improved is_said improves) = time_line is_said

    pub attained_no_fault : (node line : ℕ) → IsAttained roads answers sources reported node → IsNotAttained roads answers sources reported node line → ⊥
    attained_no_fault node line attained (no_level {said} is_said has_time none) =
        let chain = attained.level said is_said has_time in
        none chain.0 chain.1
    attained_no_fault node line attained (astray {said} {walk} is_said written none) = none (attained.walk said walk is_said written)

    pub canonical_no_fault : (node line : ℕ) → IsCanonicalAt roads answers sources reported node → IsNotCanonical roads answers sources reported node line → ⊥
    canonical_no_fault node line canonical (other_walk {said} {walk} is_said written none) = none (canonical said walk is_said written)

    -- the first line of a node that is not attained is its `d` line if it has no level
    pub first_no_level : (nodes node : ℕ) (said : Said) → IsWellFormed nodes reported → IsSaid reported node said → (next : ℕ) → IsNotAttained roads answers sources reported node next → said.line ≤ next
    first_no_level nodes node said formed is_said next (no_level {said = other} also has_time none) =
        let same = ap (λ (s : Said). s.line) (one_said reported node said other is_said also) in
        omega arith
    first_no_level nodes node said formed is_said next (astray {said = other} {walk} also written none) =
        let same = ap (λ (s : Said). s.line) (one_said reported node said other is_said also) in
        let order = (formed.walks node other walk also written).1 in
        omega arith

    -- and otherwise its `w` line
    pub first_astray : (node count : ℕ) (said : Said) (walk : WrittenWalk) → HasChain roads answers sources (IsReported reported) node count → IsSaid reported node said → said.walk ≡ Some walk → (next : ℕ) → IsNotAttained roads answers sources reported node next → walk.line ≤ next
    first_astray node count said walk chain is_said written next (no_level also has_time none) = absurd (none count chain)
    first_astray node count said walk chain is_said written next (astray {said = other} {walk = path} also writes none) =
        let same = ap (λ (w : WrittenWalk). w.line) (one_walk said other walk path (one_said reported node said other is_said also) written writes) in
        omega arith

    pub first_other_walk : (node : ℕ) (said : Said) (walk : WrittenWalk) → IsSaid reported node said → said.walk ≡ Some walk → (next : ℕ) → IsNotCanonical roads answers sources reported node next → walk.line ≤ next
    first_other_walk node said walk is_said written next (other_walk {said = other} {walk = path} also writes none) =
        let same = ap (λ (w : WrittenWalk). w.line) (one_walk said other walk path (one_said reported node said other is_said also) written writes) in
        omega arith

    pub first_not_least : (node : ℕ) (said : Said) → IsSaid reported node said → (next : ℕ) → IsNotLeast roads answers sources reported node next → said.line ≤ next
    first_not_least node said is_said next (improved {said = other} also improves) =
        let same = ap (λ (s : Said). s.line) (one_said reported node said other is_said also) in
        omega arith
