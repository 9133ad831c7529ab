-- What remains after one more line.
use Rattle.std.proofs.Common.{◌≡◌, ◌∙◌, ℕ, suc, ◌+◌, ◌≤◌, List, [], ◌∷◌, inl, inr, arith, ap, refl, sym}
use Rattle.std.proofs.lemmas.List.{reverse-reverse}
use Rattle.std.specs.Prelude.{◌≢◌, Some, None, codes}
use Rattle.ea_base.specs.declared.direction.Direction.{Direction}
use Rattle.ea_base.specs.declared.direction.Direction.TheVariants.{Forward, Turned}
use Rattle.ea_base.specs.declared.limits.TheConstants.{HORIZON}
use Rattle.ea_bytes.specs.Text.{number_of}
use Rattle.ea_road.specs.declared.TheConstants.{NONE}
use Rattle.ea_road.specs.declared.source.Source.{Source}
use Rattle.ea_check.specs.Form.{Line, IsWalkLine, SaysSource, SaysTime, SaysWalk, none_word, start_word, told_time, told_walk}
use Rattle.ea_check.specs.Places.{Remains, problem_begins, source_line, inf_line, time_line, no_walk, walk_line}
use Rattle.ea_check.specs.Reads.{NoWalkNext}

some_some : (a b : ℕ) → Some a ≡ Some b → a ≡ b
some_some a b same = cc

-- a word in place of a time is no number
no_number : (way : Direction) {n : ℕ} → number_of (none_word way) ≡ Some n → ⊥
no_number Forward same = cc
no_number Turned same = cc

-- one time is written in this way
one_told : (way : Direction) (time other : ℕ) → time ≤ HORIZON → other ≤ HORIZON → told_time way time ≡ told_time way other → time ≡ other
one_told Forward time other this that same = same
one_told Turned time other this that same = omega (arith, same)

-- a line says at most one time
pub one_time : (way : Direction) (fields : List (List ℕ)) (node time other : ℕ) → SaysTime way fields node time → SaysTime way fields node other → time ≡ other
one_time way [] node time other this that = absurd this
one_time way (word ∷ []) node time other this that = absurd this
one_time way (word ∷ place ∷ []) node time other this that = absurd this
one_time way (word ∷ place ∷ field ∷ []) node time other this that =
    elim this.2 [
      | inl none ↦ elim that.2 [
        | inl also ↦ none.1 ∙ sym also.1
        | inr number ↦ absurd (no_number way (sym (ap number_of none.0) ∙ number.0))
      ]
      | inr some ↦ elim that.2 [
        | inl none ↦ absurd (no_number way (sym (ap number_of none.0) ∙ some.0))
        | inr number ↦ one_told way time other some.1 number.1 (some_some (told_time way time) (told_time way other) (sym some.0 ∙ number.0))
      ]
    ]
one_time way (word ∷ place ∷ field ∷ more ∷ rest) node time other this that = absurd this

head_of : {a b : ℕ} {xs ys : List ℕ} → a ∷ xs ≡ b ∷ ys → a ≡ b
head_of same = cc

pub d_is_not_w : codes "d" ≡ codes "w" → ⊥
d_is_not_w same = let e = head_of same in omega arith

start_is_not_w : (way : Direction) → start_word way ≡ codes "w" → ⊥
start_is_not_w Forward same = let e = head_of same in omega arith
start_is_not_w Turned same = let e = head_of same in omega arith

-- the line of a source does not begin with `w`
source_no_walk : (way : Direction) (fields : List (List ℕ)) (node departure : ℕ) → SaysSource way fields node departure → IsWalkLine fields → ⊥
source_no_walk way [] node departure says walk = says
source_no_walk way (word ∷ []) node departure says walk = says
source_no_walk way (word ∷ place ∷ []) node departure says walk = says
source_no_walk way (word ∷ place ∷ field ∷ []) node departure says walk = start_is_not_w way (sym says.0 ∙ walk)
source_no_walk way (word ∷ place ∷ field ∷ more ∷ rest) node departure says walk = says

-- nor does the line of a time
pub time_no_walk : (way : Direction) (fields : List (List ℕ)) (node time : ℕ) → SaysTime way fields node time → IsWalkLine fields → ⊥
time_no_walk way [] node time says walk = says
time_no_walk way (word ∷ []) node time says walk = says
time_no_walk way (word ∷ place ∷ []) node time says walk = says
time_no_walk way (word ∷ place ∷ field ∷ []) node time says walk = d_is_not_w (sym says.0 ∙ walk)
time_no_walk way (word ∷ place ∷ field ∷ more ∷ rest) node time says walk = says

-- but that of a walk does
pub walk_begins : (way : Direction) (fields : List (List ℕ)) (node : ℕ) (arcs : List ℕ) → SaysWalk way fields node arcs → IsWalkLine fields
walk_begins way [] node arcs says = says
walk_begins way (word ∷ []) node arcs says = absurd says
walk_begins way (word ∷ place ∷ []) node arcs says = absurd says
walk_begins way (word ∷ place ∷ count ∷ numbers) node arcs says = says.0

module _ (nodes : ℕ) (line : Line) where
  pub after_source : {source : Source} {sources : List Source} {node count : ℕ} {more : List (List Source)} {rest : List Line} → Remains nodes None (source ∷ sources) node count more (line ∷ rest) → Remains nodes None sources node count more rest
  after_source (source_line says rest) = rest

  pub after_inf : {node count : ℕ} {more : List (List Source)} {rest : List Line} → SaysTime line.way line.fields node NONE → Remains nodes None [] node (suc count) more (line ∷ rest) → Remains nodes None [] (node + 1) count more rest
  after_inf says (inf_line also rest) = rest
  after_inf {node} says (time_line time also has rest) = absurd (has (one_time line.way line.fields node time NONE also says))

  pub after_time : {node count : ℕ} {more : List (List Source)} {rest : List Line} (time : ℕ) → SaysTime line.way line.fields node time → time ≢ NONE → Remains nodes None [] node (suc count) more (line ∷ rest) → Remains nodes (Some node) [] (node + 1) count more rest
  after_time {node} time says has (inf_line also rest) = absurd (has (one_time line.way line.fields node time NONE says also))
  after_time time says has (time_line other also has_too rest) = rest

  -- a line that begins with `w` is at no other place
  pub no_other_walk : {sources : List Source} {node count : ℕ} {more : List (List Source)} {rest : List Line} → IsWalkLine line.fields → Remains nodes None sources node count more (line ∷ rest) → ⊥
  no_other_walk walk (problem_begins ends) = no_other_walk walk ends
  no_other_walk walk (source_line {source} says ends) = source_no_walk line.way line.fields source.node source.departure says walk
  no_other_walk walk (inf_line {node} says ends) = time_no_walk line.way line.fields node NONE says walk
  no_other_walk walk (time_line {node} time says has ends) = time_no_walk line.way line.fields node time says walk

  pub after_walk : {walked node count : ℕ} {more : List (List Source)} {rest : List Line} → IsWalkLine line.fields → Remains nodes (Some walked) [] node count more (line ∷ rest) → Remains nodes None [] node count more rest
  after_walk walk (walk_line other says ends) = ends
  after_walk walk (no_walk ends) = absurd (no_other_walk walk ends)

  pub asks_walk : {walked node count : ℕ} {more : List (List Source)} {rest : List Line} → IsWalkLine line.fields → Remains nodes (Some walked) [] node count more (line ∷ rest) → (arcs : List ℕ) × SaysWalk line.way line.fields walked arcs
  asks_walk walk (walk_line arcs says ends) = (arcs, says)
  asks_walk walk (no_walk ends) = absurd (no_other_walk walk ends)

-- without a line that begins with `w` there is no walk
pub without_walk_line : {nodes walked node count : ℕ} {more : List (List Source)} (lines : List Line) → NoWalkNext lines → Remains nodes (Some walked) [] node count more lines → Remains nodes None [] node count more lines
without_walk_line lines none (no_walk ends) = ends
without_walk_line lines none (walk_line {walked} {line} arcs says ends) = absurd (none (walk_begins line.way line.fields walked arcs says))

-- a walk written twice is the walk itself
pub told_twice : (way : Direction) (arcs : List ℕ) → told_walk way (told_walk way arcs) ≡ arcs
told_twice Forward arcs = refl
told_twice Turned arcs = reverse-reverse arcs
