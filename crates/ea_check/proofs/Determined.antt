-- Lines are read in one way.
use Rattle.std.proofs.Common.{◌≡◌, ◌∙◌, refl, ℕ, ◌+◌, List, [], ◌∷◌, length, arith, ap, reverse, sym, subst}
use Rattle.std.proofs.lemmas.List.{reverse-reverse}
use Rattle.std.specs.Prelude.{Some}
use Rattle.ea_base.specs.declared.direction.Direction.{Direction}
use Rattle.ea_base.specs.declared.direction.Direction.TheVariants.{Forward, Turned}
use Rattle.ea_road.specs.declared.source.Source.{Source}
use Rattle.ea_check.specs.Verdicts.{WrittenWalk, Said}
use Rattle.ea_check.specs.Form.{Line, SaysWalk, IsArcNumber, AreArcNumbers, arc_number, told_walk}
use Rattle.ea_check.specs.Reads.{ReadsSources, ReadsNode, without_walk, and_walk, ReadsNodes, no_more, one_more, ReadsProblem}
use Rattle.ea_check.proofs.Steps.{one_time, walk_begins}

same_number : (field : List ℕ) (arc other : ℕ) → IsArcNumber field arc → IsArcNumber field other → arc ≡ other
same_number field arc other this that =
    let numbers = some_some this.0 that.0 (sym this.1 ∙ that.1) in
    this.2 ∙ ap arc_number numbers ∙ sym that.2
  where
    some_some : (a b : ℕ) → Some a ≡ Some b → a ≡ b
    some_some a b same = cc

same_arcs : (fields : List (List ℕ)) (arcs others : List ℕ) → AreArcNumbers fields arcs → AreArcNumbers fields others → arcs ≡ others
same_arcs [] [] [] this that = refl
same_arcs [] [] (other ∷ others) this that = absurd that
same_arcs [] (arc ∷ arcs) others this that = absurd this
same_arcs (field ∷ fields) [] others this that = absurd this
same_arcs (field ∷ fields) (arc ∷ arcs) [] this that = absurd that
same_arcs (field ∷ fields) (arc ∷ arcs) (other ∷ others) this that =
    ap (λ n. n ∷ arcs) (same_number field arc other this.0 that.0) ∙ ap (λ (xs : List ℕ). other ∷ xs) (same_arcs fields arcs others this.1 that.1)

one_walk_told : (way : Direction) (arcs others : List ℕ) → told_walk way arcs ≡ told_walk way others → arcs ≡ others
one_walk_told Forward arcs others same = same
one_walk_told Turned arcs others same = sym (reverse-reverse arcs) ∙ ap (λ (xs : List ℕ). reverse xs) same ∙ reverse-reverse others

same_walk : (way : Direction) (fields : List (List ℕ)) (node : ℕ) (arcs others : List ℕ) → SaysWalk way fields node arcs → SaysWalk way fields node others → arcs ≡ others
same_walk way [] node arcs others this that = absurd this
same_walk way (word ∷ []) node arcs others this that = absurd this
same_walk way (word ∷ place ∷ []) node arcs others this that = absurd this
same_walk way (word ∷ place ∷ count ∷ numbers) node arcs others this that = one_walk_told way arcs others (same_arcs numbers (told_walk way arcs) (told_walk way others) this.3 that.3)

same_said : (this that : Said) → this.line ≡ that.line → this.time ≡ that.time → this.walk ≡ that.walk → this ≡ that
same_said this that lines times walks =
    ap (λ n. record { line = n; time = this.time; walk = this.walk }) lines
    ∙ ap (λ n. record { line = that.line; time = n; walk = this.walk }) times
    ∙ ap (λ w. record { line = that.line; time = that.time; walk = w }) walks

same_written : (this that : WrittenWalk) → this.line ≡ that.line → this.arcs ≡ that.arcs → this ≡ that
same_written this that lines arcs =
    ap (λ n. record { line = n; arcs = this.arcs }) lines ∙ ap (λ (xs : List ℕ). record { line = that.line; arcs = xs }) arcs

one_rest : (sources : List Source) (lines others rest : List Line) → ReadsSources sources lines others → ReadsSources sources lines rest → others ≡ rest
one_rest [] lines others rest this that = sym this ∙ that
one_rest (source ∷ sources) [] others rest this that = absurd this
one_rest (source ∷ sources) (line ∷ lines) others rest this that = one_rest sources lines others rest this.1 that.1

one_node : (node : ℕ) (said other : Said) {lines others rest : List Line} → ReadsNode node said lines others → ReadsNode node other lines rest → (said ≡ other) × (others ≡ rest)
one_node node said other (without_walk {line} says at none quiet) (without_walk also here without hushed) =
    (same_said said other (at ∙ sym here) (one_time line.way line.fields node said.time other.time says also) (none ∙ sym without), refl)
one_node node said other (without_walk {line} says at none quiet) (and_walk {next} {walk} also has here some at_next walks) =
    let times = one_time line.way line.fields node said.time other.time says also in
    absurd (quiet (λ inf. has (sym times ∙ inf)) (walk_begins next.way next.fields node walk.arcs walks))
one_node node said other (and_walk {line} {next} {walk} says has at some at_next walks) (without_walk also here without hushed) =
    let times = one_time line.way line.fields node said.time other.time says also in
    absurd (hushed (λ inf. has (times ∙ inf)) (walk_begins next.way next.fields node walk.arcs walks))
one_node node said other (and_walk {line} {next} {walk} says has at some at_next walks) (and_walk {walk = path} also too here more near paths) =
    let written = same_written walk path (at_next ∙ sym near) (same_walk next.way next.fields node walk.arcs path.arcs walks paths) in
    (same_said said other (at ∙ sym here) (one_time line.way line.fields node said.time other.time says also) (some ∙ ap (λ w. Some w) written ∙ sym more), refl)

one_way : {node : ℕ} {reported told : List Said} {lines others rest : List Line} → length reported ≡ length told → ReadsNodes node reported lines others → ReadsNodes node told lines rest → (reported ≡ told) × (others ≡ rest)
one_way sizes no_more no_more = (refl, refl)
one_way sizes no_more (one_more here on) = absurd (omega arith)
one_way sizes (one_more here on) no_more = absurd (omega arith)
one_way sizes (one_more {node} {said} {later} {middle} here on) (one_more {said = other} {later = after} {middle = between} {others = rest} there also) =
    let first = one_node node said other here there in
    let moved : ReadsNodes (node + 1) after middle rest = subst (λ (ls : List Line). ReadsNodes (node + 1) after ls rest) (sym first.1) also in
    let behind = one_way (omega arith) on moved in
    (ap (λ (s : Said). s ∷ later) first.0 ∙ ap (λ (ss : List Said). other ∷ ss) behind.0, behind.1)

pub one_problem : {nodes : ℕ} {sources : List Source} {reported told : List Said} {lines others rest : List Line} → ReadsProblem nodes sources reported lines others → ReadsProblem nodes sources told lines rest → (reported ≡ told) × (others ≡ rest)
one_problem {nodes} {sources} {reported} {told} {lines} {others} {rest} this that =
    let middles = one_rest sources lines this.middle that.middle this.of_sources that.of_sources in
    let moved = subst (λ (ls : List Line). ReadsNodes 1 told ls rest) (sym middles) that.of_nodes in
    one_way (this.each_node ∙ sym that.each_node) this.of_nodes moved
