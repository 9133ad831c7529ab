-- A text denotes a graph exactly if it is read as one.
use Rattle.std.proofs.Common.{◌≡◌, ◌⊎◌, inl, inr, ℕ, ◌+◌, ◌<◌, ◌≤◌, ◌^◌, Bool, true, false, cond, refl, ap, sym, ◌∙◌, subst, arith, List, [], ◌∷◌, ◌++◌, length, ltb, append-nil, append_assoc, length-append}
use Rattle.std.specs.Prelude.{Option, Some, None, Result, Ok, Err, not}
use Rattle.std.proofs.lemmas.Bool.{ltb-false, le-ltb}
use Rattle.ea_bytes.specs.Text.{is_silent, speaking}
use Rattle.ea_blocks.specs.Fault.{◌>>=◌}
use Rattle.ea_input.specs.Graph.{Graph, IsProblemLine, IsArcLine, AreArcLines, DenotesGraph, GraphRead, with_line, after_said, graph_step, graph_line, graph_end, graph_of}
use Rattle.ea_blocks.specs.Reading.{text_after}
use Rattle.ea_blocks.proofs.Cuts.{two_ways}
use Rattle.ea_input.proofs.Numbered.{bind_ok}
use Rattle.ea_input.proofs.OneByOne.{rest_of, one_line, next_line, no_line, at_end}
use Rattle.ea_input.proofs.Said.{Says, graph_line_says, silent_line, problem_line_of, arc_line_of}
use Rattle.ea_blocks.specs.declared.fault.FaultKind.TheVariants.{TooFewLines}
use Rattle.ea_blocks.specs.declared.fault.InputFault.{InputFault}
use Rattle.ea_base.specs.declared.graph.RawArc.{RawArc}
use Rattle.ea_input.specs.declared.graph.GraphSize.{GraphSize}
use Rattle.ea_input.specs.declared.graph.GraphLine.{GraphLine}
use Rattle.ea_input.specs.declared.graph.GraphLine.TheVariants.{Silent, Problem, Arc}

abbrev reader : Option GraphSize → List RawArc → GraphRead
reader size arcs = record { size = size; arcs = arcs }

abbrev rest : ℕ → GraphRead → List (List (List ℕ)) → Result Graph InputFault
rest n read lines = rest_of graph_step graph_end n read lines

-- A line that is read says something, and the rest is read after it.
said_line : (n : ℕ) (read : GraphRead) (line : List (List ℕ)) (lines : List (List (List ℕ))) (g : Graph) → rest n read (line ∷ lines) ≡ Ok g → (said : GraphLine) × (graph_line read.size (length read.arcs) line ≡ Ok said) × (rest (n + 1) (with_line read said) lines ≡ Ok g)
unfolding graph_step after_said
said_line n read line lines g e =
    let one = one_line graph_step graph_end n read line lines g e in
    let said = bind_ok (graph_line read.size (length read.arcs) line) (λ s. Ok (with_line read s)) one.0 one.1 in
    let same : with_line read said.0 ≡ one.0 = cc (said.2) in
    (said.0, said.1, subst (λ (s : GraphRead). rest (n + 1) s lines ≡ Ok g) (sym same) one.2)

-- The same the other way.
line_said : (n : ℕ) (read : GraphRead) (line : List (List ℕ)) (lines : List (List (List ℕ))) (said : GraphLine) → graph_line read.size (length read.arcs) line ≡ Ok said → rest n read (line ∷ lines) ≡ rest (n + 1) (with_line read said) lines
unfolding graph_step after_said
line_said n read line lines said e = next_line graph_step graph_end n read (with_line read said) line lines (ap (λ r. r >>= λ s. Ok (with_line read s)) e)

nodes_small : (line : List (List ℕ)) (nodes arcs : ℕ) → IsProblemLine line nodes arcs → nodes < 2 ^ 64
nodes_small [] nodes arcs is = absurd is
nodes_small (word ∷ []) nodes arcs is = absurd is
nodes_small (word ∷ kind ∷ []) nodes arcs is = absurd is
nodes_small (word ∷ kind ∷ n ∷ []) nodes arcs is = absurd is
nodes_small (word ∷ kind ∷ n ∷ m ∷ []) nodes arcs is = omega (arith, is.2.2)
nodes_small (word ∷ kind ∷ n ∷ m ∷ x ∷ rest) nodes arcs is = absurd is

-- ---- after the problem line

pub record Rest (size : GraphSize) (arcs : List RawArc) (lines : List (List (List ℕ))) (g : Graph) : Type 0 where
  pub more : List RawArc
  pub all : g.arcs ≡ arcs ++ more
  pub lists : AreArcLines size.nodes (speaking lines) more
  pub nodes : g.nodes ≡ size.nodes
  pub count : length g.arcs ≡ size.arcs

pub speaking_silent : (line : List (List ℕ)) (lines : List (List (List ℕ))) → is_silent line ≡ true → speaking (line ∷ lines) ≡ speaking lines
speaking_silent line lines e = ap (λ b. cond (not b) (line ∷ speaking lines) (speaking lines)) e

pub speaking_loud : (line : List (List ℕ)) (lines : List (List (List ℕ))) → is_silent line ≡ false → speaking (line ∷ lines) ≡ line ∷ speaking lines
speaking_loud line lines e = ap (λ b. cond (not b) (line ∷ speaking lines) (speaking lines)) e

-- A test that failed.
pub unless_ok : {A E : Type 0} (b : Bool) (x y : A) (k : E) → cond b (Err k) (Ok x) ≡ Ok y → (b ≡ false) × (x ≡ y)
unless_ok true x y k e = cc
unless_ok false x y k e = (refl, cc)

ended : (n : ℕ) (size : GraphSize) (arcs : List RawArc) (g : Graph) → length arcs ≤ size.arcs → rest n (reader (Some size) arcs) [] ≡ Ok g → Rest size arcs [] g
unfolding graph_end
ended n size arcs g few e =
    let last = no_line graph_step graph_end n (reader (Some size) arcs) g e in
    let end : Graph = record { nodes = size.nodes; arcs = arcs } in
    let passed = unless_ok (ltb (length arcs) size.arcs) end g TooFewLines last in
    let enough = ltb-false (length arcs) size.arcs passed.0 in
    let arcs_are : g.arcs ≡ arcs = ap (λ (x : Graph). x.arcs) (sym passed.1) in
    let nodes_are : g.nodes ≡ size.nodes = ap (λ (x : Graph). x.nodes) (sym passed.1) in
    let count_is : length arcs ≡ size.arcs = omega arith in
    record { more = []; all = arcs_are ∙ sym (append-nil arcs); lists = tt; nodes = nodes_are; count = ap length arcs_are ∙ count_is }

some_line : (size : GraphSize) (arcs : List RawArc) (line : List (List ℕ)) (lines : List (List (List ℕ))) (g : Graph) (n : ℕ) (said : GraphLine) → size.nodes < 2 ^ 64 → length arcs ≤ size.arcs
    → Says (Some size) (length arcs) line said → rest (n + 1) (with_line (reader (Some size) arcs) said) lines ≡ Ok g
    → ((m : ℕ) (known : List RawArc) → length known ≤ size.arcs → rest m (reader (Some size) known) lines ≡ Ok g → Rest size known lines g) → Rest size arcs (line ∷ lines) g
some_line size arcs line lines g n Silent small few says e rest =
    let r = rest (n + 1) arcs few e in
    let P : List (List (List ℕ)) → Type 0 = λ ls. AreArcLines size.nodes ls r.more in
    record { more = r.more; all = r.all; lists = subst P (sym (speaking_silent line lines says)) r.lists; nodes = r.nodes; count = r.count }
some_line size arcs line lines g n (Problem new) small few says e rest = cc (says.1)
some_line size arcs line lines g n (Arc arc) small few says e rest =
    let old = says.1.0 in
    let same : old ≡ size = cc (says.1.1) in
    let room : length arcs < size.arcs = subst (λ (s : GraphSize). length arcs < s.arcs) same says.1.2 in
    let is : size.nodes < 2 ^ 64 → IsArcLine size.nodes line arc = subst (λ (s : GraphSize). s.nodes < 2 ^ 64 → IsArcLine s.nodes line arc) same says.1.3 in
    let r = rest (n + 1) (arcs ++ arc ∷ []) (rw (length-append arcs (arc ∷ [])) (omega arith)) e in
    let P : List (List (List ℕ)) → Type 0 = λ ls. AreArcLines size.nodes ls (arc ∷ r.more) in
    record { more = arc ∷ r.more; all = r.all ∙ append_assoc arcs (arc ∷ []) r.more; lists = subst P (sym (speaking_loud line lines says.0)) (is small, r.lists); nodes = r.nodes; count = r.count }

after_some : (lines : List (List (List ℕ))) (n : ℕ) (size : GraphSize) (arcs : List RawArc) (g : Graph) → size.nodes < 2 ^ 64 → length arcs ≤ size.arcs → rest n (reader (Some size) arcs) lines ≡ Ok g → Rest size arcs lines g
after_some [] n size arcs g small few e = ended n size arcs g few e
after_some (line ∷ lines) n size arcs g small few e =
    let one = said_line n (reader (Some size) arcs) line lines g e in
    some_line size arcs line lines g n one.0 small few (graph_line_says (Some size) (length arcs) line one.0 one.1) one.2 (λ m known ok h. after_some lines m size known g small ok h)

-- ---- before the problem line

none_line : (line : List (List ℕ)) (lines : List (List (List ℕ))) (g : Graph) (n : ℕ) (said : GraphLine) → Says None 0 line said → rest (n + 1) (with_line (reader None []) said) lines ≡ Ok g
    → ((m : ℕ) → rest m (reader None []) lines ≡ Ok g → DenotesGraph lines g) → DenotesGraph (line ∷ lines) g
none_line line lines g n Silent says e rest =
    let r = rest (n + 1) e in
    record { problem = r.problem; others = r.others; speaks = speaking_silent line lines says ∙ r.speaks; announces = r.announces; lists = r.lists }
none_line line lines g n (Problem size) says e rest =
    let small : size.nodes < 2 ^ 64 = nodes_small line size.nodes size.arcs says.2 in
    let r = after_some lines (n + 1) size [] g small (omega arith) e in
    let P : List RawArc → Type 0 = λ arcs. AreArcLines size.nodes (speaking lines) arcs in
    let Q : ℕ → Type 0 = λ nodes. AreArcLines nodes (speaking lines) g.arcs in
    let R : ℕ → Type 0 = λ nodes. IsProblemLine line nodes (length g.arcs) in
    let S : ℕ → Type 0 = λ count. IsProblemLine line size.nodes count in
    record {
      problem = line;
      others = speaking lines;
      speaks = speaking_loud line lines says.0;
      announces = subst R (sym r.nodes) (subst S (sym r.count) says.2);
      lists = subst Q (sym r.nodes) (subst P (sym r.all) r.lists);
    }
none_line line lines g n (Arc arc) says e rest = cc (says.1.1)

none_end : (n : ℕ) (g : Graph) → rest n (reader None []) [] ≡ Ok g → DenotesGraph [] g
unfolding graph_end
none_end n g e = let last = no_line graph_step graph_end n (reader None []) g e in cc

after_none : (lines : List (List (List ℕ))) (n : ℕ) (g : Graph) → rest n (reader None []) lines ≡ Ok g → DenotesGraph lines g
after_none [] n g e = none_end n g e
after_none (line ∷ lines) n g e =
    let one = said_line n (reader None []) line lines g e in
    none_line line lines g n one.0 (graph_line_says None 0 line one.0 one.1) one.2 (λ m h. after_none lines m g h)

-- What is read is denoted.
pub denoted : (lines : List (List (List ℕ))) (g : Graph) → graph_of lines ≡ Ok g → DenotesGraph lines g
unfolding text_after
denoted lines g e = after_none lines 0 g e

-- ---- and back

end_of : (n : ℕ) (size : GraphSize) (arcs more : List RawArc) → length (arcs ++ more) ≡ size.arcs → AreArcLines size.nodes [] more → rest n (reader (Some size) arcs) [] ≡ Ok (record { nodes = size.nodes; arcs = arcs ++ more })
unfolding graph_end
end_of n size arcs [] count lists =
    let enough : ltb (length arcs) size.arcs ≡ false = le-ltb (length arcs) size.arcs (omega (arith, count, length-append arcs [])) in
    let end : Graph = record { nodes = size.nodes; arcs = arcs } in
    at_end graph_step graph_end n (reader (Some size) arcs) end (ap (λ b. cond b (Err TooFewLines) (Ok end)) enough) ∙ ap (λ (known : List RawArc). Ok (record { nodes = size.nodes; arcs = known })) (sym (append-nil arcs))
end_of n size arcs (arc ∷ more) count lists = absurd lists

after_arc : (line : List (List ℕ)) (lines : List (List (List ℕ))) (n : ℕ) (size : GraphSize) (arcs more : List RawArc) → size.nodes < 2 ^ 64 → length (arcs ++ more) ≡ size.arcs → AreArcLines size.nodes (line ∷ speaking lines) more
    → ((m : ℕ) (known more : List RawArc) → length (known ++ more) ≡ size.arcs → AreArcLines size.nodes (speaking lines) more → rest m (reader (Some size) known) lines ≡ Ok (record { nodes = size.nodes; arcs = known ++ more }))
    → rest n (reader (Some size) arcs) (line ∷ lines) ≡ Ok (record { nodes = size.nodes; arcs = arcs ++ more })
after_arc line lines n size arcs [] small count lists rest = absurd lists
after_arc line lines n size arcs (arc ∷ more) small count lists rest =
    let joined : (arcs ++ arc ∷ []) ++ more ≡ arcs ++ arc ∷ more = append_assoc arcs (arc ∷ []) more in
    let room : length arcs < size.arcs = omega (arith, count, length-append arcs (arc ∷ more)) in
    line_said n (reader (Some size) arcs) line lines (Arc arc) (arc_line_of size (length arcs) line arc small room lists.0)
    ∙ rest (n + 1) (arcs ++ arc ∷ []) more (ap length joined ∙ count) lists.1
    ∙ ap (λ (known : List RawArc). Ok (record { nodes = size.nodes; arcs = known })) joined

pub some_of : (lines : List (List (List ℕ))) (n : ℕ) (size : GraphSize) (arcs more : List RawArc) → size.nodes < 2 ^ 64 → length (arcs ++ more) ≡ size.arcs → AreArcLines size.nodes (speaking lines) more → rest n (reader (Some size) arcs) lines ≡ Ok (record { nodes = size.nodes; arcs = arcs ++ more })
some_of [] n size arcs more small count lists = end_of n size arcs more count lists
some_of (line ∷ lines) n size arcs more small count lists =
    let P : List (List (List ℕ)) → Type 0 = λ ls. AreArcLines size.nodes ls more in
    elim (two_ways (is_silent line)) [
      | inl silent ↦ line_said n (reader (Some size) arcs) line lines Silent (silent_line (Some size) (length arcs) line silent) ∙ some_of lines (n + 1) size arcs more small count (subst P (speaking_silent line lines silent) lists)
      | inr loud ↦ after_arc line lines n size arcs more small count (subst P (speaking_loud line lines loud) lists) (λ m known others c l. some_of lines m size known others small c l)
    ]

none_of : (lines : List (List (List ℕ))) (n : ℕ) (g : Graph) (problem : List (List ℕ)) (others : List (List (List ℕ))) → speaking lines ≡ problem ∷ others → IsProblemLine problem g.nodes (length g.arcs) → AreArcLines g.nodes others g.arcs → rest n (reader None []) lines ≡ Ok g
none_of [] n g problem others spoken announces lists = cc
none_of (line ∷ lines) n g problem others spoken announces lists = elim (two_ways (is_silent line)) [
  | inl silent ↦ line_said n (reader None []) line lines Silent (silent_line None 0 line silent) ∙ none_of lines (n + 1) g problem others (sym (speaking_silent line lines silent) ∙ spoken) announces lists
  | inr loud ↦
      let both : line ∷ speaking lines ≡ problem ∷ others = sym (speaking_loud line lines loud) ∙ spoken in
      let head : problem ≡ line = cc in
      let tail : others ≡ speaking lines = cc in
      let size : GraphSize = record { nodes = g.nodes; arcs = length g.arcs } in
      let is : IsProblemLine line g.nodes (length g.arcs) = subst (λ (p : List (List ℕ)). IsProblemLine p g.nodes (length g.arcs)) head announces in
      let are : AreArcLines g.nodes (speaking lines) g.arcs = subst (λ (ls : List (List (List ℕ))). AreArcLines g.nodes ls g.arcs) tail lists in
      line_said n (reader None []) line lines (Problem size) (problem_line_of 0 line size is) ∙ some_of lines (n + 1) size [] g.arcs (nodes_small line g.nodes (length g.arcs) is) refl are
]

-- What is denoted is read.
pub read_of_denoted : (lines : List (List (List ℕ))) (g : Graph) → DenotesGraph lines g → graph_of lines ≡ Ok g
unfolding text_after
read_of_denoted lines g is = none_of lines 0 g is.problem is.others is.speaks is.announces is.lists
