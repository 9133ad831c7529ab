-- A text denotes a timetable exactly if it is read as one.
use Rattle.std.proofs.Common.{◌≡◌, inl, inr, ℕ, ◌+◌, ◌<◌, ◌≤◌, ◌^◌, Bool, true, false, cond, refl, ap, ap₂, sym, ◌∙◌, subst, arith, List, [], ◌∷◌, length, ltb, length-append}
use Rattle.std.specs.Prelude.{Option, Some, None, Result, Ok, Err, IfOk, MatchResult}
use Rattle.std.proofs.lemmas.Bool.{ltb-false, le-ltb}
use Rattle.ea_bytes.specs.Text.{is_silent, speaking}
use Rattle.ea_blocks.specs.Fault.{◌>>=◌, Gives, out_of_memory}
use Rattle.ea_blocks.specs.Reading.{text_after}
use Rattle.ea_input.specs.Table.{Table, IsTableProblem, IsAssignedLine, IsTableAfter, AreTableLines, DenotesTable, nothing, with_kind, with_entry, with_step, run_in, TableRead, with_line, table_line, table_step, table_end, table_of, after_said}
use Rattle.ea_input.proofs.Numbered.{bind_ok}
use Rattle.ea_input.proofs.Denoted.{speaking_silent, speaking_loud}
use Rattle.ea_blocks.proofs.Cuts.{two_ways}
use Rattle.ea_input.proofs.OneByOne.{rest_of, one_line, next_line, no_line, at_end}
use Rattle.ea_input.proofs.TableSaid.{Says, line_says, silent_line, problem_line_of, kind_line_of, assigned_line_of, step_line_of}
use Rattle.ea_input.specs.StepLines.{due}
use Rattle.ea_blocks.specs.declared.fault.FaultKind.TheVariants.{TooFewLines}
use Rattle.ea_blocks.specs.declared.fault.InputFault.{InputFault}
use Rattle.ea_input.specs.declared.timetable.TableSize.{TableSize}
use Rattle.ea_input.specs.declared.timetable.TableLine.{TableLine}
use Rattle.ea_input.specs.declared.timetable.TableLine.TheVariants.{Silent, Problem, Kind, Assigned, Step}

abbrev reader : ℕ → Option TableSize → Table → TableRead
reader arcs size table = record { arcs = arcs; size = size; table = table }

abbrev rest : ℕ → TableRead → List (List (List ℕ)) → Result Table InputFault
rest n read lines = rest_of table_step table_end n read lines

-- A line that is read says something, and the rest is read after it.
said_line : (n : ℕ) (read : TableRead) (line : List (List ℕ)) (lines : List (List (List ℕ))) (t : Table) → read.arcs < 2 ^ 64 → rest n read (line ∷ lines) ≡ Ok t → (said : TableLine) × Says read line said × (rest (n + 1) (with_line read said) lines ≡ Ok t)
unfolding table_step after_said
said_line n read line lines t small e =
    let one = one_line table_step table_end n read line lines t e in
    let said = bind_ok (table_line read line) (λ s. Ok (with_line read s)) one.0 one.1 in
    let same : with_line read said.0 ≡ one.0 = cc (said.2) in
    (said.0, line_says read line said.0 small said.1, subst (λ (s : TableRead). rest (n + 1) s lines ≡ Ok t) (sym same) one.2)

-- The same the other way.
line_said : (n : ℕ) (read : TableRead) (line : List (List ℕ)) (lines : List (List (List ℕ))) (said : TableLine) → table_line read line ≡ Ok said → rest n read (line ∷ lines) ≡ rest (n + 1) (with_line read said) lines
unfolding table_step after_said
line_said n read line lines said e = next_line table_step table_end n read (with_line read said) line lines (ap (λ r. r >>= λ s. Ok (with_line read s)) e)

record Rest (arcs : ℕ) (size : TableSize) (table : Table) (lines : List (List (List ℕ))) (t : Table) : Type 0 where
  lists : AreTableLines arcs size.kinds table (speaking lines) t
  kinds_count : length t.kinds ≡ size.kinds
  assigned_count : length t.assigned ≡ size.assigned

-- Three tests that failed.
all_passed : {A E : Type 0} (a b c : Bool) (x y : A) (k : E) → cond a (Err k) (cond b (Err k) (cond c (Err k) (Ok x))) ≡ Ok y → (a ≡ false) × (b ≡ false) × (c ≡ false) × (x ≡ y)
all_passed true b c x y k e = cc
all_passed false true c x y k e = cc
all_passed false false true x y k e = cc
all_passed false false false x y k e = (refl, refl, refl, cc)

ended : (n arcs : ℕ) (size : TableSize) (table t : Table) → length table.kinds ≤ size.kinds → length table.assigned ≤ size.assigned → rest n (reader arcs (Some size) table) [] ≡ Ok t → Rest arcs size table [] t
unfolding table_end
ended n arcs size table t few less e =
    let last = no_line table_step table_end n (reader arcs (Some size) table) t e in
    let passed = all_passed (ltb (length table.kinds) size.kinds) (ltb (length table.assigned) size.assigned) (ltb 0 (due (run_in table))) table t TooFewLines last in
    let first = ltb-false (length table.kinds) size.kinds passed.0 in
    let second = ltb-false (length table.assigned) size.assigned passed.1 in
    let third = ltb-false 0 (due (run_in table)) passed.2 in
    let kinds_is : length table.kinds ≡ size.kinds = omega arith in
    let assigned_is : length table.assigned ≡ size.assigned = omega arith in
    record {
      lists = (passed.3, omega (arith, third));
      kinds_count = ap (λ (x : Table). length x.kinds) (sym passed.3) ∙ kinds_is;
      assigned_count = ap (λ (x : Table). length x.assigned) (sym passed.3) ∙ assigned_is;
    }

some_line : (n arcs : ℕ) (size : TableSize) (table : Table) (line : List (List ℕ)) (lines : List (List (List ℕ))) (t : Table) (said : TableLine) → size.kinds < 2 ^ 64 → length table.kinds ≤ size.kinds → length table.assigned ≤ size.assigned
    → Says (reader arcs (Some size) table) line said → rest (n + 1) (with_line (reader arcs (Some size) table) said) lines ≡ Ok t
    → ((m : ℕ) (next : Table) → length next.kinds ≤ size.kinds → length next.assigned ≤ size.assigned → rest m (reader arcs (Some size) next) lines ≡ Ok t → Rest arcs size next lines t) → Rest arcs size table (line ∷ lines) t
some_line n arcs size table line lines t Silent small few less says e after =
    let r = after (n + 1) table few less e in
    let P : List (List (List ℕ)) → Type 0 = λ ls. AreTableLines arcs size.kinds table ls t in
    record { lists = subst P (sym (speaking_silent line lines says)) r.lists; kinds_count = r.kinds_count; assigned_count = r.assigned_count }
some_line n arcs size table line lines t (Problem new) small few less says e after = cc (says.1)
some_line n arcs size table line lines t (Kind kind) small few less says e after =
    let same : says.1.0 ≡ size = cc (says.1.1) in
    let next = with_kind table kind in
    let more : length next.kinds ≡ length table.kinds + 1 = length-append table.kinds (kind ∷ []) in
    let room : length table.kinds < size.kinds = subst (λ (s : TableSize). length table.kinds < s.kinds) same says.1.2 in
    let is = says.1.4 (subst (λ (s : TableSize). s.kinds < 2 ^ 64) (sym same) small) in
    let r = after (n + 1) next (omega (arith, more, room)) less e in
    let P : List (List (List ℕ)) → Type 0 = λ ls. AreTableLines arcs size.kinds table ls t in
    record { lists = subst P (sym (speaking_loud line lines says.0)) (next, inl (says.1.3, (kind, is, refl)), r.lists); kinds_count = r.kinds_count; assigned_count = r.assigned_count }
some_line n arcs size table line lines t (Assigned entry) small few less says e after =
    let same : says.1.0 ≡ size = cc (says.1.1) in
    let next = with_entry table entry in
    let more : length next.assigned ≡ length table.assigned + 1 = length-append table.assigned (entry ∷ []) in
    let room : length table.assigned < size.assigned = subst (λ (s : TableSize). length table.assigned < s.assigned) same says.1.2 in
    let is = says.1.4 (subst (λ (s : TableSize). s.kinds < 2 ^ 64) (sym same) small) in
    let here : IsAssignedLine arcs size.kinds line entry = subst (λ (s : TableSize). IsAssignedLine arcs s.kinds line entry) same is in
    let r = after (n + 1) next few (omega (arith, more, room)) e in
    let P : List (List (List ℕ)) → Type 0 = λ ls. AreTableLines arcs size.kinds table ls t in
    record { lists = subst P (sym (speaking_loud line lines says.0)) (next, inr (inl (says.1.3, (entry, here, refl))), r.lists); kinds_count = r.kinds_count; assigned_count = r.assigned_count }
some_line n arcs size table line lines t (Step step) small few less says e after =
    let next = with_step table step in
    let r = after (n + 1) next few less e in
    let P : List (List (List ℕ)) → Type 0 = λ ls. AreTableLines arcs size.kinds table ls t in
    record { lists = subst P (sym (speaking_loud line lines says.0)) (next, inr (inr (says.1.2, (step, says.1.3, refl))), r.lists); kinds_count = r.kinds_count; assigned_count = r.assigned_count }

after_some : (lines : List (List (List ℕ))) (n arcs : ℕ) (size : TableSize) (table t : Table) → arcs < 2 ^ 64 → size.kinds < 2 ^ 64 → length table.kinds ≤ size.kinds → length table.assigned ≤ size.assigned → rest n (reader arcs (Some size) table) lines ≡ Ok t → Rest arcs size table lines t
after_some [] n arcs size table t low small few less e = ended n arcs size table t few less e
after_some (line ∷ lines) n arcs size table t low small few less e =
    let one = said_line n (reader arcs (Some size) table) line lines t low e in
    some_line n arcs size table line lines t one.0 small few less one.1 one.2 (λ m next p q h. after_some lines m arcs size next t low small p q h)

kinds_small : (line : List (List ℕ)) (kinds assigned : ℕ) → IsTableProblem line kinds assigned → kinds < 2 ^ 64
kinds_small [] kinds assigned is = absurd is
kinds_small (word ∷ []) kinds assigned is = absurd is
kinds_small (word ∷ tp ∷ []) kinds assigned is = absurd is
kinds_small (word ∷ tp ∷ k ∷ []) kinds assigned is = absurd is
kinds_small (word ∷ tp ∷ k ∷ t ∷ []) kinds assigned is = omega (arith, is.2.2)
kinds_small (word ∷ tp ∷ k ∷ t ∷ x ∷ rest) kinds assigned is = absurd is

none_line : (n arcs : ℕ) (line : List (List ℕ)) (lines : List (List (List ℕ))) (t : Table) (said : TableLine) → arcs < 2 ^ 64 → Says (reader arcs None nothing) line said → rest (n + 1) (with_line (reader arcs None nothing) said) lines ≡ Ok t
    → ((m : ℕ) → rest m (reader arcs None nothing) lines ≡ Ok t → DenotesTable arcs lines t) → DenotesTable arcs (line ∷ lines) t
none_line n arcs line lines t Silent low says e after =
    let r = after (n + 1) e in
    record { problem = r.problem; others = r.others; speaks = speaking_silent line lines says ∙ r.speaks; announces = r.announces; lists = r.lists }
none_line n arcs line lines t (Problem size) low says e after =
    let small : size.kinds < 2 ^ 64 = kinds_small line size.kinds size.assigned says.2 in
    let r = after_some lines (n + 1) arcs size nothing t low small (omega arith) (omega arith) e in
    let K : ℕ → Type 0 = λ k. IsTableProblem line k size.assigned in
    let A : ℕ → Type 0 = λ a. IsTableProblem line (length t.kinds) a in
    let R : ℕ → Type 0 = λ k. AreTableLines arcs k nothing (speaking lines) t in
    record {
      problem = line;
      others = speaking lines;
      speaks = speaking_loud line lines says.0;
      announces = subst A (sym r.assigned_count) (subst K (sym r.kinds_count) says.2);
      lists = subst R (sym r.kinds_count) r.lists;
    }
none_line n arcs line lines t (Kind kind) low says e after = cc (says.1.1)
none_line n arcs line lines t (Assigned entry) low says e after = cc (says.1.1)
none_line n arcs line lines t (Step step) low says e after = cc (says.1.1)

none_end : (n arcs : ℕ) (t : Table) → rest n (reader arcs None nothing) [] ≡ Ok t → DenotesTable arcs [] t
unfolding table_end
none_end n arcs t e = let last = no_line table_step table_end n (reader arcs None nothing) t e in cc

after_none : (lines : List (List (List ℕ))) (n arcs : ℕ) (t : Table) → arcs < 2 ^ 64 → rest n (reader arcs None nothing) lines ≡ Ok t → DenotesTable arcs lines t
after_none [] n arcs t low e = none_end n arcs t e
after_none (line ∷ lines) n arcs t low e =
    let one = said_line n (reader arcs None nothing) line lines t low e in
    none_line n arcs line lines t one.0 low one.1 one.2 (λ m h. after_none lines m arcs t low h)

-- What is read is denoted.
pub denoted : (arcs : ℕ) (lines : List (List (List ℕ))) (t : Table) → arcs < 2 ^ 64 → table_of arcs lines ≡ Ok t → DenotesTable arcs lines t
unfolding text_after
denoted arcs lines t low e = after_none lines 0 arcs t low e

-- ---- and back

-- What lines add to a timetable only grows.
abbrev Grown : Table → Table → Type 0
Grown table next = (length table.kinds ≤ length next.kinds) × (length table.assigned ≤ length next.assigned)

grown_once : (arcs classes : ℕ) (table next : Table) (line : List (List ℕ)) → IsTableAfter arcs classes table line next → Grown table next
grown_once arcs classes table next line (inl h) = subst (λ (x : Table). Grown table x) (sym h.1.2) (omega (arith, length-append table.kinds (h.1.0 ∷ [])), omega arith)
grown_once arcs classes table next line (inr (inl h)) = subst (λ (x : Table). Grown table x) (sym h.1.2) (omega arith, omega (arith, length-append table.assigned (h.1.0 ∷ [])))
grown_once arcs classes table next line (inr (inr h)) = subst (λ (x : Table). Grown table x) (sym h.1.2) (omega arith, omega arith)

grown : (arcs classes : ℕ) (lines : List (List (List ℕ))) (table whole : Table) → AreTableLines arcs classes table lines whole → Grown table whole
grown arcs classes [] table whole are = subst (λ (x : Table). Grown table x) are.0 (omega arith, omega arith)
grown arcs classes (line ∷ lines) table whole are =
    let one = grown_once arcs classes table are.0 line are.1 in
    let others = grown arcs classes lines are.0 whole are.2 in
    (omega (arith, one.0, others.0), omega (arith, one.1, others.1))

end_of : (n arcs : ℕ) (size : TableSize) (table whole : Table) → length whole.kinds ≡ size.kinds → length whole.assigned ≡ size.assigned → (table ≡ whole) × (due (run_in table) ≡ 0) → rest n (reader arcs (Some size) table) [] ≡ Ok whole
unfolding table_end
end_of n arcs size table whole count number is =
    let few : ltb (length table.kinds) size.kinds ≡ false = le-ltb (length table.kinds) size.kinds (omega (arith, count, ap (λ (x : Table). length x.kinds) is.0)) in
    let less : ltb (length table.assigned) size.assigned ≡ false = le-ltb (length table.assigned) size.assigned (omega (arith, number, ap (λ (x : Table). length x.assigned) is.0)) in
    let told : ltb 0 (due (run_in table)) ≡ false = le-ltb 0 (due (run_in table)) (omega (arith, is.1)) in
    at_end table_step table_end n (reader arcs (Some size) table) table
    (ap₂ (λ a b. cond a (Err TooFewLines) (cond b (Err TooFewLines) (cond (ltb 0 (due (run_in table))) (Err TooFewLines) (Ok table)))) few less ∙ ap (λ c. cond c (Err TooFewLines) (Ok table)) told)
    ∙ ap (λ (x : Table). Ok x) is.0

some_next : (n arcs : ℕ) (size : TableSize) (table next whole : Table) (line : List (List ℕ)) (lines : List (List (List ℕ))) → arcs < 2 ^ 64 → size.kinds < 2 ^ 64 → length next.kinds ≤ size.kinds → length next.assigned ≤ size.assigned
    → IsTableAfter arcs size.kinds table line next → rest (n + 1) (reader arcs (Some size) next) lines ≡ Ok whole → rest n (reader arcs (Some size) table) (line ∷ lines) ≡ Ok whole
some_next n arcs size table next whole line lines low small few less (inl h) e =
    let room : length table.kinds < size.kinds = omega (arith, few, ap (λ (x : Table). length x.kinds) h.1.2, length-append table.kinds (h.1.0 ∷ [])) in
    line_said n (reader arcs (Some size) table) line lines (Kind h.1.0) (kind_line_of arcs size table line h.1.0 small h.0 room h.1.1)
    ∙ subst (λ (x : Table). rest (n + 1) (reader arcs (Some size) x) lines ≡ Ok whole) h.1.2 e
some_next n arcs size table next whole line lines low small few less (inr (inl h)) e =
    let room : length table.assigned < size.assigned = omega (arith, less, ap (λ (x : Table). length x.assigned) h.1.2, length-append table.assigned (h.1.0 ∷ [])) in
    line_said n (reader arcs (Some size) table) line lines (Assigned h.1.0) (assigned_line_of arcs size table line h.1.0 low small h.0 room h.1.1)
    ∙ subst (λ (x : Table). rest (n + 1) (reader arcs (Some size) x) lines ≡ Ok whole) h.1.2 e
some_next n arcs size table next whole line lines low small few less (inr (inr h)) e =
    line_said n (reader arcs (Some size) table) line lines (Step h.1.0) (step_line_of arcs size table line h.1.0 h.0 h.1.1)
    ∙ subst (λ (x : Table). rest (n + 1) (reader arcs (Some size) x) lines ≡ Ok whole) h.1.2 e

some_of : (lines : List (List (List ℕ))) (n arcs : ℕ) (size : TableSize) (table whole : Table) → arcs < 2 ^ 64 → size.kinds < 2 ^ 64 → length whole.kinds ≡ size.kinds → length whole.assigned ≡ size.assigned
    → AreTableLines arcs size.kinds table (speaking lines) whole → rest n (reader arcs (Some size) table) lines ≡ Ok whole
some_of [] n arcs size table whole low small count number are = end_of n arcs size table whole count number are
some_of (line ∷ lines) n arcs size table whole low small count number are =
    let P : List (List (List ℕ)) → Type 0 = λ ls. AreTableLines arcs size.kinds table ls whole in
    elim (two_ways (is_silent line)) [
      | inl silent ↦ line_said n (reader arcs (Some size) table) line lines Silent (silent_line (reader arcs (Some size) table) line silent) ∙ some_of lines (n + 1) arcs size table whole low small count number (subst P (speaking_silent line lines silent) are)
      | inr loud ↦
          let here = subst P (speaking_loud line lines loud) are in
          let grows = grown arcs size.kinds (speaking lines) here.0 whole here.2 in
          some_next n arcs size table here.0 whole line lines low small (omega (arith, grows.0, count)) (omega (arith, grows.1, number)) here.1 (some_of lines (n + 1) arcs size here.0 whole low small count number here.2)
    ]

none_of : (lines : List (List (List ℕ))) (n arcs : ℕ) (t : Table) (problem : List (List ℕ)) (others : List (List (List ℕ))) → arcs < 2 ^ 64 → speaking lines ≡ problem ∷ others → IsTableProblem problem (length t.kinds) (length t.assigned) → AreTableLines arcs (length t.kinds) nothing others t → rest n (reader arcs None nothing) lines ≡ Ok t
none_of [] n arcs t problem others low spoken announces lists = cc
none_of (line ∷ lines) n arcs t problem others low spoken announces lists = elim (two_ways (is_silent line)) [
  | inl silent ↦ line_said n (reader arcs None nothing) line lines Silent (silent_line (reader arcs None nothing) line silent) ∙ none_of lines (n + 1) arcs t problem others low (sym (speaking_silent line lines silent) ∙ spoken) announces lists
  | inr loud ↦
      let both : line ∷ speaking lines ≡ problem ∷ others = sym (speaking_loud line lines loud) ∙ spoken in
      let head : problem ≡ line = cc in
      let tail : others ≡ speaking lines = cc in
      let size : TableSize = record { kinds = length t.kinds; assigned = length t.assigned } in
      let is : IsTableProblem line (length t.kinds) (length t.assigned) = subst (λ (p : List (List ℕ)). IsTableProblem p (length t.kinds) (length t.assigned)) head announces in
      let are : AreTableLines arcs (length t.kinds) nothing (speaking lines) t = subst (λ (ls : List (List (List ℕ))). AreTableLines arcs (length t.kinds) nothing ls t) tail lists in
      line_said n (reader arcs None nothing) line lines (Problem size) (problem_line_of arcs nothing line size is)
      ∙ some_of lines (n + 1) arcs size nothing t low (kinds_small line (length t.kinds) (length t.assigned) is) refl refl are
]

-- What is denoted is read.
pub read_of_denoted : (arcs : ℕ) (lines : List (List (List ℕ))) (t : Table) → arcs < 2 ^ 64 → DenotesTable arcs lines t → table_of arcs lines ≡ Ok t
unfolding text_after
read_of_denoted arcs lines t low is = none_of lines 0 arcs t is.problem is.others low is.speaks is.announces is.lists

-- What read_tp answers, by what a text denotes.
pub gives_denoted : {X : Type 0} (view : X → Table) (r : Result X InputFault) (arcs : ℕ) (lines : List (List (List ℕ))) → arcs < 2 ^ 64 → Gives view r (table_of arcs lines) → IfOk r (λ x. DenotesTable arcs lines (view x))
gives_denoted view (Ok x) arcs lines low h = denoted arcs lines (view x) low h
gives_denoted view (Err fault) arcs lines low h = tt

pub gives_only : {X : Type 0} (view : X → Table) (r : Result X InputFault) (arcs : ℕ) (lines : List (List (List ℕ))) → arcs < 2 ^ 64 → Gives view r (table_of arcs lines) → (t : Table) → DenotesTable arcs lines t → MatchResult r (λ x. view x ≡ t) (λ fault. fault ≡ out_of_memory)
gives_only view (Ok x) arcs lines low h t is = let e = read_of_denoted arcs lines t low is in cc
gives_only view (Err fault) arcs lines low (inl refused) t is = refused
gives_only view (Err fault) arcs lines low (inr said) t is = let e = read_of_denoted arcs lines t low is in cc
