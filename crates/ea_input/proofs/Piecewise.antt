-- The text of a graph, read in pieces.
use Rattle.std.proofs.Common.{◌≡◌, ℕ, ◌+◌, ◌<◌, ◌≤◌, ◌^◌, Bool, true, false, ap, sym, ◌∙◌, subst, inl, inr, List, [], ◌∷◌, ◌++◌, length, length-append, append-nil, append_assoc, arith}
use Rattle.std.specs.Prelude.{Some, Ok}
use Rattle.ea_bytes.specs.Text.{is_silent, speaking}
use Rattle.ea_blocks.specs.Fault.{◌>>=◌, in_line}
use Rattle.ea_input.specs.Graph.{IsArcLine, AreArcLines, GraphRead, with_line, after_said, graph_step, graph_line}
use Rattle.ea_input.specs.GraphPieces.{BeginsAside, IsAppended}
use Rattle.ea_blocks.specs.Pieces.{IsTakenUp}
use Rattle.ea_blocks.specs.Reading.{lines_after}
use Rattle.ea_input.proofs.Denoted.{speaking_loud, speaking_silent}
use Rattle.ea_blocks.proofs.Cuts.{two_ways}
use Rattle.ea_input.proofs.Numbered.{bind_ok}
use Rattle.ea_input.proofs.OneByOne.{in_line_ok}
use Rattle.ea_input.proofs.Said.{Says, arc_line_of, graph_line_says, silent_line}
use Rattle.ea_base.specs.declared.graph.RawArc.{RawArc}
use Rattle.ea_input.specs.declared.graph.GraphSize.{GraphSize}
use Rattle.ea_input.specs.declared.graph.GraphLine.{GraphLine}
use Rattle.ea_input.specs.declared.graph.GraphLine.TheVariants.{Silent, Problem, Arc}

abbrev reader : GraphSize → List RawArc → GraphRead
reader size arcs = record { size = Some size; arcs = arcs }

-- ---- one piece

-- What lines said that were read after the problem line: arcs.
pub record AreRead (size : GraphSize) (arcs : List RawArc) (lines : List (List (List ℕ))) (last : GraphRead) : Type 0 where
  pub more : List RawArc
  pub sized : last.size ≡ Some size
  pub all : last.arcs ≡ arcs ++ more
  pub lists : AreArcLines size.nodes (speaking lines) more

some_said : (size : GraphSize) (arcs : List RawArc) (line : List (List ℕ)) (lines : List (List (List ℕ))) (last : GraphRead) (n : ℕ) (said : GraphLine) → size.nodes < 2 ^ 64
    → Says (Some size) (length arcs) line said → lines_after graph_step (n + 1) (with_line (reader size arcs) said) lines ≡ Ok last
    → ((known : List RawArc) → lines_after graph_step (n + 1) (reader size known) lines ≡ Ok last → AreRead size known lines last) → AreRead size arcs (line ∷ lines) last
some_said size arcs line lines last n Silent small says e rest =
    let r = rest arcs e in
    let P : List (List (List ℕ)) → Type 0 = λ ls. AreArcLines size.nodes ls r.more in
    record { more = r.more; sized = r.sized; all = r.all; lists = subst P (sym (speaking_silent line lines says)) r.lists }
some_said size arcs line lines last n (Problem new) small says e rest = cc (says.1)
some_said size arcs line lines last n (Arc arc) small says e rest =
    let old = says.1.0 in
    let same : old ≡ size = cc (says.1.1) in
    let is : size.nodes < 2 ^ 64 → IsArcLine size.nodes line arc = subst (λ (s : GraphSize). s.nodes < 2 ^ 64 → IsArcLine s.nodes line arc) same says.1.3 in
    let r = rest (arcs ++ arc ∷ []) e in
    let P : List (List (List ℕ)) → Type 0 = λ ls. AreArcLines size.nodes ls (arc ∷ r.more) in
    record { more = arc ∷ r.more; sized = r.sized; all = r.all ∙ append_assoc arcs (arc ∷ []) r.more; lists = subst P (sym (speaking_loud line lines says.0)) (is small, r.lists) }

next_said : (n : ℕ) (read : GraphRead) (line : List (List ℕ)) (lines : List (List (List ℕ))) (last : GraphRead) → lines_after graph_step n read (line ∷ lines) ≡ Ok last
    → (said : GraphLine) × (graph_line read.size (length read.arcs) line ≡ Ok said) × (lines_after graph_step (n + 1) (with_line read said) lines ≡ Ok last)
unfolding lines_after graph_step after_said
next_said n read line lines last e =
    let next = bind_ok (in_line (n + 1) (graph_step read line)) (λ next. lines_after graph_step (n + 1) next lines) last e in
    let said = bind_ok (graph_line read.size (length read.arcs) line) (λ s. Ok (with_line read s)) next.0 (in_line_ok (n + 1) (graph_step read line) next.0 next.1) in
    let same : with_line read said.0 ≡ next.0 = cc (said.2) in
    (said.0, said.1, subst (λ (s : GraphRead). lines_after graph_step (n + 1) s lines ≡ Ok last) (sym same) next.2)

none_said : (n : ℕ) (size : GraphSize) (arcs : List RawArc) (last : GraphRead) → lines_after graph_step n (reader size arcs) [] ≡ Ok last → AreRead size arcs [] last
unfolding lines_after
none_said n size arcs last e =
    let same : reader size arcs ≡ last = cc in
    record { more = []; sized = ap (λ (s : GraphRead). s.size) (sym same); all = ap (λ (s : GraphRead). s.arcs) (sym same) ∙ sym (append-nil arcs); lists = tt }

are_read : (lines : List (List (List ℕ))) (n : ℕ) (size : GraphSize) (arcs : List RawArc) (last : GraphRead) → size.nodes < 2 ^ 64 → lines_after graph_step n (reader size arcs) lines ≡ Ok last → AreRead size arcs lines last
are_read [] n size arcs last small e = none_said n size arcs last e
are_read (line ∷ lines) n size arcs last small e =
    let one = next_said n (reader size arcs) line lines last e in
    some_said size arcs line lines last n one.0 small (graph_line_says (Some size) (length arcs) line one.0 one.1) one.2 (λ known h. are_read lines (n + 1) size known last small h)

-- ---- a piece after those before it

-- A line is read, and the rest after it.
read_on : (n : ℕ) (read : GraphRead) (line : List (List ℕ)) (lines : List (List (List ℕ))) (said : GraphLine) → graph_line read.size (length read.arcs) line ≡ Ok said
    → lines_after graph_step n read (line ∷ lines) ≡ lines_after graph_step (n + 1) (with_line read said) lines
unfolding lines_after graph_step after_said
read_on n read line lines said e = ap (λ r. in_line (n + 1) (r >>= λ s. Ok (with_line read s)) >>= λ next. lines_after graph_step (n + 1) next lines) e

none_more : (n : ℕ) (size : GraphSize) (arcs more : List RawArc) → AreArcLines size.nodes [] more → lines_after graph_step n (reader size arcs) [] ≡ Ok (reader size (arcs ++ more))
unfolding lines_after
none_more n size arcs [] lists = ap (λ (known : List RawArc). Ok (reader size known)) (sym (append-nil arcs))
none_more n size arcs (arc ∷ more) lists = absurd lists

arc_more : (line : List (List ℕ)) (lines : List (List (List ℕ))) (n : ℕ) (size : GraphSize) (arcs more : List RawArc) → size.nodes < 2 ^ 64 → length arcs + length more ≤ size.arcs → AreArcLines size.nodes (line ∷ speaking lines) more
    → ((known others : List RawArc) → length known + length others ≤ size.arcs → AreArcLines size.nodes (speaking lines) others → lines_after graph_step (n + 1) (reader size known) lines ≡ Ok (reader size (known ++ others)))
    → lines_after graph_step n (reader size arcs) (line ∷ lines) ≡ Ok (reader size (arcs ++ more))
arc_more line lines n size arcs [] small fits lists rest = absurd lists
arc_more line lines n size arcs (arc ∷ more) small fits lists rest =
    let room : length arcs < size.arcs = omega (arith, fits) in
    read_on n (reader size arcs) line lines (Arc arc) (arc_line_of size (length arcs) line arc small room lists.0)
    ∙ rest (arcs ++ arc ∷ []) more (omega (arith, fits, length-append arcs (arc ∷ []))) lists.1
    ∙ ap (λ (known : List RawArc). Ok (reader size known)) (append_assoc arcs (arc ∷ []) more)

-- The arcs of a piece come behind those before it, if no more are announced.
pub read_behind : (lines : List (List (List ℕ))) (n : ℕ) (size : GraphSize) (arcs more : List RawArc) → size.nodes < 2 ^ 64 → length arcs + length more ≤ size.arcs → AreArcLines size.nodes (speaking lines) more
    → lines_after graph_step n (reader size arcs) lines ≡ Ok (reader size (arcs ++ more))
read_behind [] n size arcs more small fits lists = none_more n size arcs more lists
read_behind (line ∷ lines) n size arcs more small fits lists =
    let P : List (List (List ℕ)) → Type 0 = λ ls. AreArcLines size.nodes ls more in
    elim (two_ways (is_silent line)) [
      | inl silent ↦ read_on n (reader size arcs) line lines Silent (silent_line (Some size) (length arcs) line silent) ∙ read_behind lines (n + 1) size arcs more small fits (subst P (speaking_silent line lines silent) lists)
      | inr loud ↦ arc_more line lines n size arcs more small fits (subst P (speaking_loud line lines loud) lists) (λ known others c l. read_behind lines (n + 1) size known others small c l)
    ]

-- ---- both pieces

-- What a reader aside read is read behind what comes before it.
pub taken_up : {T : Type 0} (view : T → GraphRead) (old beside new : T) (result : Bool) → IsAppended (view old) (view beside) (view new) result
    → IsTakenUp graph_step view (λ reader. BeginsAside (view reader)) old beside new result
taken_up view old beside new false is = is
taken_up view old beside new true (now, size, was, sized, nodes, few, is) = λ begun n m lines begins read.
    let before = view old in
    let aside = view beside in
    let after = view new in
    let start = view begun in
    let from : start ≡ reader begins.size [] = ap (λ o. record { size = o; arcs = start.arcs }) begins.sized ∙ ap (reader begins.size) begins.none in
    let all = are_read lines n begins.size [] aside begins.small (subst (λ (s : GraphRead). lines_after graph_step n s lines ≡ Ok aside) from read) in
    let same : begins.size ≡ size = let e = sym all.sized ∙ sized in cc in
    let of_now : begins.size.nodes ≡ now.nodes = ap (λ (s : GraphSize). s.nodes) same ∙ sym nodes in
    let kept : AreArcLines now.nodes (speaking lines) all.more = subst (λ count. AreArcLines count (speaking lines) all.more) of_now all.lists in
    let tiny : now.nodes < 2 ^ 64 = subst (λ count. count < 2 ^ 64) of_now begins.small in
    let fits : length before.arcs + length all.more ≤ now.arcs = omega (arith, few, ap length all.all) in
    let before_is : before ≡ reader now before.arcs = ap (λ o. record { size = o; arcs = before.arcs }) was in
    let after_is : after ≡ reader now (before.arcs ++ all.more) = is ∙ ap (λ o. record { size = o; arcs = before.arcs ++ aside.arcs }) was ∙ ap (λ known. reader now (before.arcs ++ known)) all.all in
    ap (λ (s : GraphRead). lines_after graph_step m s lines) before_is ∙ read_behind lines m now before.arcs all.more tiny fits kept ∙ ap (λ (s : GraphRead). Ok s) (sym after_is)
