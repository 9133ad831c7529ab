-- A graph's text, line by line, by its checks.
use Rattle.std.proofs.Common.{◌≡◌, inl, inr, ℕ, ◌+◌, ◌<◌, ◌^◌, true, false, cond, refl, ap, ap₂, sym, ◌∙◌, ◌||◌, subst, List, [], ◌∷◌, ◌++◌, length, length-append, ltb, arith, tests}
use Rattle.std.specs.Prelude.{Option, Some, None, Ok, Err, codes, ◌==◌, find, count_by}
use Rattle.std.specs.Option.{option_map}
use Rattle.std.specs.Str.{bytes_eq}
use Rattle.ea_blocks.specs.Fault.{◌>>=◌}
use Rattle.ea_input.specs.Graph.{Graph, IsProblemLine, IsArcLine, GraphRead, no_graph, with_line, size_of, size_read, problem_of, problem_line, arc_of, arc_read, arc_line, graph_line, graph_step, after_said, graph_end}
use Rattle.ea_input.specs.Checks.{Line, Before, before_of, begins_with, run_of_lines, value_of, line_fault, end_fault}
use Rattle.ea_input.specs.StepLines.{Run, no_run}
use Rattle.ea_input.specs.Formats.{graph_format, graph_nodes, graph_arcs}
use Rattle.ea_input.proofs.Numbered.{bind_ok}
use Rattle.ea_input.proofs.Said.{Says, graph_line_says, same_word, is_word}
use Rattle.ea_blocks.proofs.Cuts.{two_ways}
use Rattle.ea_input.proofs.Faults.{Matches, Follows}
use Rattle.ea_input.proofs.Forms.{size_form, arc_form}
use Rattle.ea_input.proofs.Matching.{bind_matches, kind_matches, count_matches, numbers_match, item_matches, few_matches, found_before, found_now, counted_before, counted_now, silent_word, some_is, none_mapped, some_mapped, number_is}
use Rattle.ea_bytes.specs.Text.{is_comment, is_silent}
use Rattle.ea_blocks.specs.declared.fault.FaultKind.TheVariants.{TooManyLines, TooFewLines}
use Rattle.ea_base.specs.declared.graph.RawArc.{RawArc}
use Rattle.ea_input.specs.declared.graph.GraphSize.{GraphSize}
use Rattle.ea_input.specs.declared.graph.GraphLine.{GraphLine}
use Rattle.ea_input.specs.declared.graph.GraphLine.TheVariants.{Silent, Problem, Arc}

abbrev pub size_said : Line → GraphSize
size_said line = record { nodes = graph_nodes line; arcs = graph_arcs line }

abbrev arc_said : Line → RawArc
arc_said (u ∷ v ∷ w ∷ []) = record { tail = value_of u; head = value_of v; weight = value_of w }
arc_said _ = record { tail = 0; head = 0; weight = 0 }

abbrev came : Option Line → (List ℕ → ℕ) → Run → Before
came problem count run = record { problem = problem; count = count; run = run }

problem_matches : (count : List ℕ → ℕ) (run : Run) (n : ℕ) (problem : Option Line) (size : Option GraphSize) (fields : Line) → size ≡ option_map size_said problem → Matches (line_fault graph_format (came problem count run) (codes "p" ∷ fields)) (graph_line size n (codes "p" ∷ fields)) (Problem (size_said (codes "p" ∷ fields)))
unfolding line_fault graph_line problem_line problem_of size_of
problem_matches count run n (Some old) (Some size) fields e = refl
problem_matches count run n (Some old) None fields e = cc
problem_matches count run n None (Some size) fields e = cc
problem_matches count run n None None [] e = refl
problem_matches count run n None None (kind ∷ []) e = kind_matches (bytes_eq kind (codes "sp")) _ _ _ _ refl
problem_matches count run n None None (kind ∷ x ∷ []) e = kind_matches (bytes_eq kind (codes "sp")) _ _ _ _ refl
problem_matches count run n None None (kind ∷ x ∷ y ∷ []) e = kind_matches (bytes_eq kind (codes "sp")) _ _ _ _ (numbers_match _ _ (size_read x y) _ Problem (size_form x y))
problem_matches count run n None None (kind ∷ x ∷ y ∷ z ∷ rest) e =
    let long : (length (codes "p" ∷ kind ∷ x ∷ y ∷ z ∷ rest) == 4) ≡ false = grind (arith, tests) in
    kind_matches (bytes_eq kind (codes "sp")) _ _ _ _ (count_matches _ _ _ long)

arc_matches : (count : List ℕ → ℕ) (run : Run) (problem : Option Line) (size : Option GraphSize) (fields : Line) → size ≡ option_map size_said problem → ((line : Line) → problem ≡ Some line → graph_nodes line < 2 ^ 64)
    → Matches (line_fault graph_format (came problem count run) (codes "a" ∷ fields)) (graph_line size (count (codes "a")) (codes "a" ∷ fields)) (Arc (arc_said fields))
unfolding line_fault graph_line arc_line arc_of
arc_matches count run None None fields e small = refl
arc_matches count run None (Some size) fields e small = cc
arc_matches count run (Some line) None fields e small = cc
arc_matches count run (Some line) (Some size) [] e small = refl
arc_matches count run (Some line) (Some size) (u ∷ []) e small = refl
arc_matches count run (Some line) (Some size) (u ∷ v ∷ []) e small = refl
arc_matches count run (Some line) (Some size) (u ∷ v ∷ w ∷ []) e small =
    let same : size_said line ≡ size = cc in
    subst (λ (s : GraphSize). Matches (line_fault graph_format (came (Some line) count run) (codes "a" ∷ u ∷ v ∷ w ∷ [])) (arc_of s.nodes (u ∷ v ∷ w ∷ []) >>= λ arc. cond (ltb (count (codes "a")) s.arcs) (Ok (Arc arc)) (Err TooManyLines)) (Arc (arc_said (u ∷ v ∷ w ∷ [])))) same
    (item_matches _ _ (graph_arcs line) (count (codes "a")) (arc_read (graph_nodes line) u v w) _ Arc (arc_form (graph_nodes line) u v w (small line refl)))
arc_matches count run (Some line) (Some size) (u ∷ v ∷ w ∷ x ∷ rest) e small =
    let long : (length (codes "a" ∷ u ∷ v ∷ w ∷ x ∷ rest) == 4) ≡ false = grind (arith, tests) in
    count_matches _ _ _ long

-- A line of another word.
other_matches : (before : Before) (size : Option GraphSize) (n : ℕ) (word : List ℕ) (fields : Line) → is_comment word ≡ false → bytes_eq word (codes "p") ≡ false → bytes_eq word (codes "a") ≡ false → Matches (line_fault graph_format before (word ∷ fields)) (graph_line size n (word ∷ fields)) Silent
unfolding line_fault graph_line
other_matches before size n word fields c p a = rw (c, p, a) refl

silent_matches : (before : Before) (size : Option GraphSize) (n : ℕ) (line : Line) → is_silent line ≡ true → Matches (line_fault graph_format before line) (graph_line size n line) Silent
unfolding line_fault graph_line
silent_matches before size n [] e = refl
silent_matches before size n (word ∷ fields) e = rw e refl

-- ---- states

pub record Stands (read : GraphRead) (lines : List Line) : Type 0 where
  pub size : read.size ≡ option_map size_said (find (begins_with (codes "p")) lines)
  pub count : length read.arcs ≡ count_by (begins_with (codes "a")) lines
  pub small : (line : Line) → find (begins_with (codes "p")) lines ≡ Some line → graph_nodes line < 2 ^ 64

-- ---- reading one more line

problem_facts : (line : Line) (new : GraphSize) → IsProblemLine line new.nodes new.arcs → (begins_with (codes "p") line ≡ true) × (begins_with (codes "a") line ≡ false) × (size_said line ≡ new) × (graph_nodes line < 2 ^ 64)
problem_facts [] new is = absurd is
problem_facts (word ∷ []) new is = absurd is
problem_facts (word ∷ kind ∷ []) new is = absurd is
problem_facts (word ∷ kind ∷ n ∷ []) new is = absurd is
problem_facts (word ∷ kind ∷ n ∷ m ∷ []) new is =
    let nodes : value_of n ≡ new.nodes = number_is 1 67108864 n new.nodes is.2 in
    let arcs : value_of m ≡ new.arcs = number_is 0 268435456 m new.arcs is.3 in
    (is_word word (codes "p") is.0, ap (λ (w : List ℕ). bytes_eq w (codes "a")) is.0, ap₂ (λ (a b : ℕ). record { nodes = a; arcs = b }) nodes arcs, omega (arith, nodes, is.2.2))
problem_facts (word ∷ kind ∷ n ∷ m ∷ x ∷ rest) new is = absurd is

arc_facts : (nodes : ℕ) (line : Line) (arc : RawArc) → IsArcLine nodes line arc → (begins_with (codes "a") line ≡ true) × (begins_with (codes "p") line ≡ false)
arc_facts nodes [] arc is = absurd is
arc_facts nodes (word ∷ []) arc is = absurd is
arc_facts nodes (word ∷ u ∷ []) arc is = absurd is
arc_facts nodes (word ∷ u ∷ v ∷ []) arc is = absurd is
arc_facts nodes (word ∷ u ∷ v ∷ w ∷ []) arc is = (is_word word (codes "a") is.0, ap (λ (x : List ℕ). bytes_eq x (codes "p")) is.0)
arc_facts nodes (word ∷ u ∷ v ∷ w ∷ x ∷ rest) arc is = absurd is

stands_after : (read : GraphRead) (lines : List Line) (line : Line) (said : GraphLine) → Stands read lines → Says read.size (length read.arcs) line said → Stands (with_line read said) (lines ++ line ∷ [])
stands_after read lines line Silent stands says =
    let same = found_before (begins_with (codes "p")) lines line (silent_word (codes "p") line refl says) in
    record {
      size = stands.size ∙ ap (option_map size_said) (sym same);
      count = stands.count ∙ sym (counted_before (begins_with (codes "a")) lines line (silent_word (codes "a") line refl says));
      small = λ l h. stands.small l (sym same ∙ h);
    }
stands_after read lines line (Problem new) stands says =
    let facts = problem_facts line new says.2 in
    let none : find (begins_with (codes "p")) lines ≡ None = none_mapped size_said _ (sym says.1 ∙ stands.size) in
    let now = found_now (begins_with (codes "p")) lines line none facts.0 in
    record {
      size = ap (λ (s : GraphSize). Some s) (sym facts.2) ∙ ap (option_map size_said) (sym now);
      count = stands.count ∙ sym (counted_before (begins_with (codes "a")) lines line facts.1);
      small = λ l h. subst (λ (x : Line). graph_nodes x < 2 ^ 64) (some_is line l (sym now ∙ h)) facts.3;
    }
stands_after read lines line (Arc arc) stands says =
    let old = says.1.0 in
    let found = some_mapped size_said _ old (sym says.1.1 ∙ stands.size) in
    let small : old.nodes < 2 ^ 64 = subst (λ (s : GraphSize). s.nodes < 2 ^ 64) found.2 (stands.small found.0 found.1) in
    let facts = arc_facts old.nodes line arc (says.1.3 small) in
    let same = found_before (begins_with (codes "p")) lines line facts.1 in
    record {
      size = stands.size ∙ ap (option_map size_said) (sym same);
      count = length-append read.arcs (arc ∷ []) ∙ ap (λ k. k + 1) stands.count ∙ sym (counted_now (begins_with (codes "a")) lines line facts.0);
      small = λ l h. stands.small l (sym same ∙ h);
    }

goes_on : (read next : GraphRead) (lines : List Line) (line : Line) → Stands read lines → graph_step read line ≡ Ok next → Stands next (lines ++ line ∷ [])
unfolding graph_step after_said
goes_on read next lines line stands e =
    let said = bind_ok (graph_line read.size (length read.arcs) line) (λ s. Ok (with_line read s)) next e in
    let same : with_line read said.0 ≡ next = cc (said.2) in
    subst (λ (r : GraphRead). Stands r (lines ++ line ∷ [])) same (stands_after read lines line said.0 stands (graph_line_says read.size (length read.arcs) line said.0 said.1))

abbrev Reads : GraphRead → List Line → Line → Type 0
Reads read lines line = (next : GraphRead) × Matches (line_fault graph_format (before_of lines) line) (graph_step read line) next

said_reads : (read : GraphRead) (lines : List Line) (line : Line) (said : GraphLine) → Matches (line_fault graph_format (before_of lines) line) (graph_line read.size (length read.arcs) line) said → Reads read lines line
unfolding graph_step after_said
said_reads read lines line said h = (with_line read said, bind_matches _ (graph_line read.size (length read.arcs) line) said (with_line read) h)

problem_reads : (read : GraphRead) (lines : List Line) (word : List ℕ) (fields : Line) → Stands read lines → word ≡ codes "p" → Reads read lines (word ∷ fields)
problem_reads read lines word fields stands e =
    subst (λ (w : List ℕ). Reads read lines (w ∷ fields)) (sym e) (said_reads read lines (codes "p" ∷ fields) (Problem (size_said (codes "p" ∷ fields))) (problem_matches (λ w. count_by (begins_with w) lines) (run_of_lines no_run lines) (length read.arcs) (find (begins_with (codes "p")) lines) read.size fields stands.size))

arc_reads : (read : GraphRead) (lines : List Line) (word : List ℕ) (fields : Line) → Stands read lines → word ≡ codes "a" → Reads read lines (word ∷ fields)
arc_reads read lines word fields stands e =
    let matched = arc_matches (λ w. count_by (begins_with w) lines) (run_of_lines no_run lines) (find (begins_with (codes "p")) lines) read.size fields stands.size stands.small in
    subst (λ (w : List ℕ). Reads read lines (w ∷ fields)) (sym e) (said_reads read lines (codes "a" ∷ fields) (Arc (arc_said fields))
    (subst (λ (n : ℕ). Matches (line_fault graph_format (before_of lines) (codes "a" ∷ fields)) (graph_line read.size n (codes "a" ∷ fields)) (Arc (arc_said fields))) (sym stands.count) matched))

reads : (read : GraphRead) (lines : List Line) (line : Line) → Stands read lines → Reads read lines line
reads read lines [] stands = said_reads read lines [] Silent (silent_matches (before_of lines) read.size (length read.arcs) [] refl)
reads read lines (word ∷ fields) stands = elim (two_ways (is_comment word)) [
  | inl comment ↦ said_reads read lines (word ∷ fields) Silent (silent_matches (before_of lines) read.size (length read.arcs) (word ∷ fields) comment)
  | inr plain ↦ elim (two_ways (bytes_eq word (codes "p"))) [
    | inl p ↦ problem_reads read lines word fields stands (same_word word (codes "p") p)
    | inr no_p ↦ elim (two_ways (bytes_eq word (codes "a"))) [
      | inl a ↦ arc_reads read lines word fields stands (same_word word (codes "a") a)
      | inr no_a ↦ said_reads read lines (word ∷ fields) Silent (other_matches (before_of lines) read.size (length read.arcs) word fields plain no_p no_a)
    ]
  ]
]

-- ---- the end

end_matches : (problem : Option Line) (count : List ℕ → ℕ) (run : Run) (size : Option GraphSize) (arcs : List RawArc) → size ≡ option_map size_said problem → length arcs ≡ count (codes "a") → (g : Graph) × Matches (end_fault graph_format (came problem count run)) (graph_end (record { size = size; arcs = arcs })) g
unfolding graph_end end_fault
end_matches None count run None arcs e h = (record { nodes = 0; arcs = [] }, refl)
end_matches None count run (Some size) arcs e h = cc
end_matches (Some line) count run None arcs e h = cc
end_matches (Some line) count run (Some size) arcs e h =
    let same : size ≡ size_said line = cc in
    let g : Graph = record { nodes = size.nodes; arcs = arcs } in (
      g,
      subst (λ (s : GraphSize). Matches (cond (ltb (count (codes "a")) s.arcs || false) (Some TooFewLines) None) (cond (ltb (length arcs) size.arcs) (Err TooFewLines) (Ok g)) g) same
          (subst (λ (n : ℕ). Matches (cond (ltb n size.arcs || false) (Some TooFewLines) None) (cond (ltb (length arcs) size.arcs) (Err TooFewLines) (Ok g)) g) h (few_matches (ltb (length arcs) size.arcs) g)),
    )

nothing_stands : Stands no_graph []
nothing_stands = record { size = refl; count = refl; small = λ line h. cc }

-- Reading a graph follows its checks.
pub graph_follows : Follows graph_format graph_step graph_end no_graph
graph_follows = record {
  Stands = Stands;
  starts = nothing_stands;
  reads = reads;
  goes_on = goes_on;
  ends = λ read lines stands. end_matches (find (begins_with (codes "p")) lines) (λ w. count_by (begins_with w) lines) (run_of_lines no_run lines) read.size read.arcs stands.size stands.count;
}
