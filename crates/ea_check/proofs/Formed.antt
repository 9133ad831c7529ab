-- What lines of right form say is well formed.
use Rattle.std.proofs.Common.{◌≡◌, refl, ℕ, zero, suc, ◌-◌, ◌<◌, ◌≤◌, List, [], ◌∷◌, ◌++◌, ◌⊎◌, inl, inr, arith, ap, sym, subst}
use Rattle.std.specs.Prelude.{◌≢◌, Option, Some, None, slice_get}
use Rattle.ea_base.specs.declared.direction.Direction.{Direction}
use Rattle.ea_base.specs.declared.limits.TheConstants.{HORIZON}
use Rattle.ea_road.specs.declared.TheConstants.{NONE}
use Rattle.ea_road.specs.declared.source.Source.{Source}
use Rattle.ea_check.specs.Verdicts.{WrittenWalk, Said, IsLineOf, time_line, walk_line, IsWellFormed}
use Rattle.ea_check.specs.Form.{Line, SaysTime, SaysNode, alone, with_walk, SaysNodes, no_node, next_node, SaysSources, SaysProblem, IsAfter, AreInOrder}

time_within : (way : Direction) (fields : List (List ℕ)) (node time : ℕ) → SaysTime way fields node time → time ≢ NONE → time ≤ HORIZON
time_within way [] node time says has_time = absurd says
time_within way (word ∷ []) node time says has_time = absurd says
time_within way (word ∷ place ∷ []) node time says has_time = absurd says
time_within way (word ∷ place ∷ arrival ∷ []) node time says has_time =
    elim says.2 [ inl none ↦ absurd (has_time none.1) | inr some ↦ some.1 ]
time_within way (word ∷ place ∷ arrival ∷ other ∷ rest) node time says has_time = absurd says

-- a line on a node
abbrev OfSaid : Said → ℕ → Type 0
OfSaid said line = (line ≡ said.line) ⊎ ((walk : WrittenWalk) × (said.walk ≡ Some walk) × (line ≡ walk.line))

some_none : {A : Type 0} (option : Option A) (value : A) → option ≡ None → option ≡ Some value → ⊥
some_none option value none some = cc

same_some : {A : Type 0} (option : Option A) (value other : A) → option ≡ Some value → option ≡ Some other → value ≡ other
same_some option value other this that = cc

-- the place of a node's lines among lines whose numbers ascend
record Lies (said : Said) (number : ℕ) (others : List Line) : Type 0 where
  pub last : ℕ
  pub after : IsAfter last others
  pub lower : (line : ℕ) → OfSaid said line → number < line
  pub upper : (line : ℕ) → OfSaid said line → line ≤ last

lies : {node : ℕ} {said : Said} {lines : List Line} (others : List Line) (number : ℕ) → SaysNode node said lines → IsAfter number (lines ++ others) → Lies said number others
lies {said} others number (alone {line} says same none) ascend =
    let up : number < line.number = ascend.0 in
    record {
      last = line.number;
      after = ascend.1;
      lower = λ other of. elim of [ inl at ↦ omega arith | inr walk ↦ absurd (some_none said.walk walk.0 none walk.1) ];
      upper = λ other of. elim of [ inl at ↦ omega arith | inr walk ↦ absurd (some_none said.walk walk.0 none walk.1) ];
    }
lies {said} others number (with_walk {line} {next} {walk} says has_time same some at_next walks) ascend =
    let up : number < line.number = ascend.0 in
    let on : line.number < next.number = ascend.1.0 in
    record {
      last = next.number;
      after = ascend.1.1;
      lower = λ other of. elim of [
        | inl at ↦ omega arith
        | inr path ↦ let e = ap (λ (w : WrittenWalk). w.line) (same_some said.walk path.0 walk path.1 some) in omega (arith, path.2)
      ];
      upper = λ other of. elim of [
        | inl at ↦ omega arith
        | inr path ↦ let e = ap (λ (w : WrittenWalk). w.line) (same_some said.walk path.0 walk path.1 some) in omega (arith, path.2)
      ];
    }

lower_all : {start : ℕ} {reported : List Said} {lines : List Line} (number : ℕ) → SaysNodes start reported lines → IsAfter number lines → (place : ℕ) (said : Said) → slice_get reported place ≡ Some said → (line : ℕ) → OfSaid said line → number < line
lower_all number no_node ascend place said found line of = cc
lower_all number (next_node {said = first} {rest} {lines} {others} here later) ascend zero said found line of =
    let same : first ≡ said = cc in
    (lies others number here ascend).lower line (subst (λ (s : Said). OfSaid s line) (sym same) of)
lower_all number (next_node {said = first} {rest} {lines} {others} here later) ascend (suc place) said found line of =
    let part = lies others number here ascend in
    let low = part.lower first.line (inl refl) in
    let high = part.upper first.line (inl refl) in
    let beyond = lower_all part.last later part.after place said found line of in
    omega arith

order_all : {start : ℕ} {reported : List Said} {lines : List Line} (number : ℕ) → SaysNodes start reported lines → IsAfter number lines → (place other : ℕ) (said next : Said) → place < other → slice_get reported place ≡ Some said → slice_get reported other ≡ Some next → (line at : ℕ) → OfSaid said line → OfSaid next at → line < at
order_all number no_node ascend place other said next less found also line at of also_of = cc
order_all number (next_node {said = first} {rest} {lines} {others} here later) ascend place zero said next less found also line at of also_of = absurd (omega arith)
order_all number (next_node {said = first} {rest} {lines} {others} here later) ascend zero (suc other) said next less found also line at of also_of =
    let same : first ≡ said = cc in
    let part = lies others number here ascend in
    let high = part.upper line (subst (λ (s : Said). OfSaid s line) (sym same) of) in
    let beyond = lower_all part.last later part.after other next also at also_of in
    omega arith
order_all number (next_node {said = first} {rest} {lines} {others} here later) ascend (suc place) (suc other) said next less found also line at of also_of =
    order_all (lies others number here ascend).last later (lies others number here ascend).after place other said next (omega arith) found also line at of also_of

times_all : {start : ℕ} {reported : List Said} {lines : List Line} → SaysNodes start reported lines → (place : ℕ) (said : Said) → slice_get reported place ≡ Some said → said.time ≢ NONE → said.time ≤ HORIZON
times_all no_node place said found has_time = cc
times_all (next_node {node} {said = first} here later) zero said found has_time =
    let same : first ≡ said = cc in
    let P : Said → Type 0 = λ s. s.time ≢ NONE → s.time ≤ HORIZON in
    subst P same (of_node here) has_time
  where
    of_node : {node : ℕ} {said : Said} {lines : List Line} → SaysNode node said lines → said.time ≢ NONE → said.time ≤ HORIZON
    of_node {node} {said} (alone {line} says number none) has = time_within line.way line.fields node said.time says has
    of_node {node} {said} (with_walk {line} says has number some at walks) also = time_within line.way line.fields node said.time says also
times_all (next_node here later) (suc place) said found has_time = times_all later place said found has_time

walks_all : {start : ℕ} {reported : List Said} {lines : List Line} (number : ℕ) → SaysNodes start reported lines → IsAfter number lines → (place : ℕ) (said : Said) (walk : WrittenWalk) → slice_get reported place ≡ Some said → said.walk ≡ Some walk → (said.time ≢ NONE) × (said.line < walk.line)
walks_all number no_node ascend place said walk found written = cc
walks_all number (next_node {said = first} {others} here later) ascend zero said walk found written =
    let same : first ≡ said = cc in
    let P : Said → Type 0 = λ s. s.walk ≡ Some walk → (s.time ≢ NONE) × (s.line < walk.line) in
    subst P same (of_node here ascend) written
  where
    of_node : {node : ℕ} {said : Said} {lines : List Line} → SaysNode node said lines → IsAfter number (lines ++ others) → said.walk ≡ Some walk → (said.time ≢ NONE) × (said.line < walk.line)
    of_node {said} (alone says at none) ascend some = absurd (some_none said.walk walk none some)
    of_node {said} (with_walk {line} {next} {walk = path} says has at has_walk at_next walks) ascend some =
        let on : line.number < next.number = ascend.1.0 in
        let e = ap (λ (w : WrittenWalk). w.line) (same_some said.walk walk path some has_walk) in
        (has, omega arith)
walks_all number (next_node {said = first} {others} here later) ascend (suc place) said walk found written =
    walks_all (lies others number here ascend).last later (lies others number here ascend).after place said walk found written

of_line : (reported : List Said) {node line : ℕ} → IsLineOf reported node line → (said : Said) × (0 < node) × (slice_get reported (node - 1) ≡ Some said) × OfSaid said line
of_line reported (time_line {said} is_said) = (said, is_said.0, is_said.1, inl refl)
of_line reported (walk_line {said} {walk} is_said written) = (said, is_said.0, is_said.1, inr (walk, written, refl))

-- the lines behind those of the sources
behind : (sources : List Source) (first others : List Line) (number : ℕ) → SaysSources sources first → IsAfter number (first ++ others) → (last : ℕ) × IsAfter last others
behind [] [] others number says ascend = (number, ascend)
behind [] (line ∷ first) others number says ascend = absurd says
behind (source ∷ sources) [] others number says ascend = absurd says
behind (source ∷ sources) (line ∷ first) others number says ascend = behind sources first others line.number says.1 ascend.1

pub well_formed : (nodes : ℕ) (sources : List Source) (reported : List Said) (lines : List Line) → AreInOrder lines → SaysProblem nodes sources reported lines → IsWellFormed nodes reported
well_formed nodes sources reported lines ascend says =
    let rest = behind sources says.first says.others 0 says.of_sources (subst AreInOrder says.cut ascend) in
    record {
      each_node = says.each_node;
      times = λ node said is_said has_time. times_all says.of_nodes (node - 1) said is_said.1 has_time;
      walks = λ node said walk is_said written. walks_all rest.0 says.of_nodes rest.1 (node - 1) said walk is_said.1 written;
      in_order = λ node later line next less this that.
          let a = of_line reported this in
          let b = of_line reported that in
          let some = a.1 in
          order_all rest.0 says.of_nodes rest.1 (node - 1) (later - 1) a.0 b.0 (omega arith) a.2 b.2 line next a.3 b.3;
    }
