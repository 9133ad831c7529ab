-- The text of a timetable, whose assignments are read in pieces.
use Rattle.std.proofs.Common.{◌≡◌, ℕ, ◌+◌, ◌<◌, ◌≤◌, ◌^◌, Bool, true, false, ap, sym, ◌∙◌, subst, inl, inr, List, [], ◌∷◌, ◌++◌, length, length-append, append-nil, append_assoc, arith}
use Rattle.std.specs.Prelude.{Some, Ok}
use Rattle.ea_bytes.specs.Text.{is_silent, speaking}
use Rattle.ea_blocks.specs.Fault.{◌>>=◌, in_line}
use Rattle.ea_input.specs.Table.{Table, IsAssignedLine, TableRead, nothing, with_line, after_said, table_step, table_line, run_in}
use Rattle.ea_input.specs.StepLines.{due}
use Rattle.ea_input.specs.TablePieces.{BeginsAside, IsAppended}
use Rattle.ea_blocks.specs.Pieces.{IsTakenUp}
use Rattle.ea_blocks.specs.Reading.{lines_after}
use Rattle.ea_input.proofs.Denoted.{speaking_loud, speaking_silent}
use Rattle.ea_blocks.proofs.Cuts.{two_ways}
use Rattle.ea_input.proofs.Numbered.{bind_ok}
use Rattle.ea_input.proofs.OneByOne.{in_line_ok}
use Rattle.ea_input.proofs.TableSaid.{Says, assigned_line_of, line_says, silent_line}
use Rattle.ea_input.specs.declared.timetable.TableSize.{TableSize}
use Rattle.ea_input.specs.declared.timetable.TableLine.{TableLine}
use Rattle.ea_input.specs.declared.timetable.TableLine.TheVariants.{Silent, Problem, Kind, Assigned, Step}

abbrev reader : ℕ → TableSize → Table → TableRead
reader arcs size table = record { arcs = arcs; size = Some size; table = table }

-- A timetable of assignments alone.
abbrev entries : List (ℕ × ℕ) → Table
entries assigned = record { kinds = []; assigned = assigned; steps = [] }

-- A timetable with assignments behind its own.
abbrev more_of : Table → List (ℕ × ℕ) → Table
more_of table more = record table { assigned = table.assigned ++ more }

-- Lines that assign, one each.
abbrev AreAssigned : ℕ → ℕ → List (List (List ℕ)) → List (ℕ × ℕ) → Type 0
AreAssigned arcs kinds [] [] = Unit {0}
AreAssigned arcs kinds [] (entry ∷ more) = ⊥
AreAssigned arcs kinds (line ∷ lines) [] = ⊥
AreAssigned arcs kinds (line ∷ lines) (entry ∷ more) = IsAssignedLine arcs kinds line entry × AreAssigned arcs kinds lines more

-- ---- one piece

-- What a line says that is read, and the rest after it.
next_said : (n : ℕ) (read : TableRead) (line : List (List ℕ)) (lines : List (List (List ℕ))) (last : TableRead) → lines_after table_step n read (line ∷ lines) ≡ Ok last
    → (said : TableLine) × (table_line read line ≡ Ok said) × (lines_after table_step (n + 1) (with_line read said) lines ≡ Ok last)
unfolding lines_after table_step after_said
next_said n read line lines last e =
    let next = bind_ok (in_line (n + 1) (table_step read line)) (λ next. lines_after table_step (n + 1) next lines) last e in
    let said = bind_ok (table_line read line) (λ s. Ok (with_line read s)) next.0 (in_line_ok (n + 1) (table_step read line) next.0 next.1) in
    let same : with_line read said.0 ≡ next.0 = cc (said.2) in
    (said.0, said.1, subst (λ (s : TableRead). lines_after table_step (n + 1) s lines ≡ Ok last) (sym same) next.2)

-- No line takes a kind away.
no_fewer : (read : TableRead) (said : TableLine) → length read.table.kinds ≤ length (with_line read said).table.kinds
no_fewer read Silent = omega arith
no_fewer read (Problem size) = omega arith
no_fewer read (Kind kind) = omega (arith, length-append read.table.kinds (kind ∷ []))
no_fewer read (Assigned entry) = omega arith
no_fewer read (Step step) = omega arith

no_line : (n : ℕ) (read last : TableRead) → lines_after table_step n read [] ≡ Ok last → read ≡ last
unfolding lines_after
no_line n read last e = cc

kinds_stay : (lines : List (List (List ℕ))) (n : ℕ) (read last : TableRead) → lines_after table_step n read lines ≡ Ok last → length read.table.kinds ≤ length last.table.kinds
kinds_stay [] n read last e = omega (arith, ap (λ (s : TableRead). length s.table.kinds) (no_line n read last e))
kinds_stay (line ∷ lines) n read last e =
    let one = next_said n read line lines last e in
    omega (arith, no_fewer read one.0, kinds_stay lines (n + 1) (with_line read one.0) last one.2)

-- What lines said that were read with no kinds: assignments.
record AreRead (arcs : ℕ) (size : TableSize) (known : List (ℕ × ℕ)) (lines : List (List (List ℕ))) (last : TableRead) : Type 0 where
  more : List (ℕ × ℕ)
  is : last ≡ reader arcs size (entries (known ++ more))
  lists : AreAssigned arcs size.kinds (speaking lines) more

some_said : (arcs : ℕ) (size : TableSize) (known : List (ℕ × ℕ)) (line : List (List ℕ)) (lines : List (List (List ℕ))) (last : TableRead) (n : ℕ) (said : TableLine) → size.kinds < 2 ^ 64 → last.table.kinds ≡ []
    → Says (reader arcs size (entries known)) line said → lines_after table_step (n + 1) (with_line (reader arcs size (entries known)) said) lines ≡ Ok last
    → ((others : List (ℕ × ℕ)) → lines_after table_step (n + 1) (reader arcs size (entries others)) lines ≡ Ok last → AreRead arcs size others lines last) → AreRead arcs size known (line ∷ lines) last
some_said arcs size known line lines last n Silent small none says e rest =
    let r = rest known e in
    let P : List (List (List ℕ)) → Type 0 = λ ls. AreAssigned arcs size.kinds ls r.more in
    record { more = r.more; is = r.is; lists = subst P (sym (speaking_silent line lines says)) r.lists }
some_said arcs size known line lines last n (Problem new) small none says e rest = cc (says.1)
some_said arcs size known line lines last n (Kind kind) small none says e rest =
    let some : 1 ≤ 0 = omega (arith, kinds_stay lines (n + 1) (with_line (reader arcs size (entries known)) (Kind kind)) last e, ap length none) in
    absurd (omega (arith, some))
some_said arcs size known line lines last n (Assigned entry) small none says e rest =
    let old = says.1.0 in
    let same : old ≡ size = cc (says.1.1) in
    let is : size.kinds < 2 ^ 64 → IsAssignedLine arcs size.kinds line entry = subst (λ (s : TableSize). s.kinds < 2 ^ 64 → IsAssignedLine arcs s.kinds line entry) same says.1.4 in
    let r = rest (known ++ entry ∷ []) e in
    let P : List (List (List ℕ)) → Type 0 = λ ls. AreAssigned arcs size.kinds ls (entry ∷ r.more) in
    record {
      more = entry ∷ r.more;
      is = r.is ∙ ap (λ all. reader arcs size (entries all)) (append_assoc known (entry ∷ []) r.more);
      lists = subst P (sym (speaking_loud line lines says.0)) (is small, r.lists);
    }
some_said arcs size known line lines last n (Step step) small none says e rest = absurd (omega (arith, says.1.2))

are_read : (lines : List (List (List ℕ))) (n arcs : ℕ) (size : TableSize) (known : List (ℕ × ℕ)) (last : TableRead) → arcs < 2 ^ 64 → size.kinds < 2 ^ 64 → last.table.kinds ≡ []
    → lines_after table_step n (reader arcs size (entries known)) lines ≡ Ok last → AreRead arcs size known lines last
are_read [] n arcs size known last low small none e =
    record { more = []; is = sym (no_line n (reader arcs size (entries known)) last e) ∙ ap (λ all. reader arcs size (entries all)) (sym (append-nil known)); lists = tt }
are_read (line ∷ lines) n arcs size known last low small none e =
    let read = reader arcs size (entries known) in
    let one = next_said n read line lines last e in
    some_said arcs size known line lines last n one.0 small none (line_says read line one.0 low one.1) one.2 (λ others h. are_read lines (n + 1) arcs size others last low small none h)

-- ---- a piece after what comes before it

-- A line is read, and the rest after it.
read_on : (n : ℕ) (read : TableRead) (line : List (List ℕ)) (lines : List (List (List ℕ))) (said : TableLine) → table_line read line ≡ Ok said
    → lines_after table_step n read (line ∷ lines) ≡ lines_after table_step (n + 1) (with_line read said) lines
unfolding lines_after table_step after_said
read_on n read line lines said e = ap (λ r. in_line (n + 1) (r >>= λ s. Ok (with_line read s)) >>= λ next. lines_after table_step (n + 1) next lines) e

none_more : (n arcs : ℕ) (size : TableSize) (table : Table) (more : List (ℕ × ℕ)) → AreAssigned arcs size.kinds [] more → lines_after table_step n (reader arcs size table) [] ≡ Ok (reader arcs size (more_of table more))
unfolding lines_after
none_more n arcs size table [] lists = ap (λ all. Ok (reader arcs size (record table { assigned = all }))) (sym (append-nil table.assigned))
none_more n arcs size table (entry ∷ more) lists = absurd lists

one_more : (line : List (List ℕ)) (lines : List (List (List ℕ))) (n arcs : ℕ) (size : TableSize) (table : Table) (more : List (ℕ × ℕ)) → arcs < 2 ^ 64 → size.kinds < 2 ^ 64 → due (run_in table) ≡ 0 → length table.assigned + length more ≤ size.assigned
    → AreAssigned arcs size.kinds (line ∷ speaking lines) more
    → ((next : Table) (others : List (ℕ × ℕ)) → due (run_in next) ≡ 0 → length next.assigned + length others ≤ size.assigned → AreAssigned arcs size.kinds (speaking lines) others
    → lines_after table_step (n + 1) (reader arcs size next) lines ≡ Ok (reader arcs size (more_of next others)))
    → lines_after table_step n (reader arcs size table) (line ∷ lines) ≡ Ok (reader arcs size (more_of table more))
one_more line lines n arcs size table [] low small none fits lists rest = absurd lists
one_more line lines n arcs size table (entry ∷ more) low small none fits lists rest =
    let room : length table.assigned < size.assigned = omega (arith, fits) in
    read_on n (reader arcs size table) line lines (Assigned entry) (assigned_line_of arcs size table line entry low small none room lists.0)
    ∙ rest (more_of table (entry ∷ [])) more none (omega (arith, fits, length-append table.assigned (entry ∷ []))) lists.1
    ∙ ap (λ all. Ok (reader arcs size (record table { assigned = all }))) (append_assoc table.assigned (entry ∷ []) more)

-- The assignments of a piece come behind those before it, if no more are announced and no step is due.
read_behind : (lines : List (List (List ℕ))) (n arcs : ℕ) (size : TableSize) (table : Table) (more : List (ℕ × ℕ)) → arcs < 2 ^ 64 → size.kinds < 2 ^ 64 → due (run_in table) ≡ 0 → length table.assigned + length more ≤ size.assigned
    → AreAssigned arcs size.kinds (speaking lines) more → lines_after table_step n (reader arcs size table) lines ≡ Ok (reader arcs size (more_of table more))
read_behind [] n arcs size table more low small none fits lists = none_more n arcs size table more lists
read_behind (line ∷ lines) n arcs size table more low small none fits lists =
    let P : List (List (List ℕ)) → Type 0 = λ ls. AreAssigned arcs size.kinds ls more in
    elim (two_ways (is_silent line)) [
      | inl silent ↦ read_on n (reader arcs size table) line lines Silent (silent_line (reader arcs size table) line silent)
          ∙ read_behind lines (n + 1) arcs size table more low small none fits (subst P (speaking_silent line lines silent) lists)
      | inr loud ↦ one_more line lines n arcs size table more low small none fits (subst P (speaking_loud line lines loud) lists)
          (λ next others d c l. read_behind lines (n + 1) arcs size next others low small d c l)
    ]

-- ---- both pieces

-- What a reader aside read is read behind what comes before it.
pub taken_up : {T : Type 0} (view : T → TableRead) (old beside new : T) (result : Bool) → IsAppended (view old) (view beside) (view new) result
    → IsTakenUp table_step view (λ reader. BeginsAside (view reader)) old beside new result
taken_up view old beside new false is = is
taken_up view old beside new true (fits, is) = λ begun n m lines begins read.
    let before = view old in
    let aside = view beside in
    let start = view begun in
    let now = fits.now in
    let from : start ≡ reader start.arcs begins.size nothing =
    ap (λ o. record { arcs = start.arcs; size = o; table = start.table }) begins.sized
    ∙ ap (λ list. reader start.arcs begins.size (record { kinds = list; assigned = start.table.assigned; steps = start.table.steps })) begins.kinds
    ∙ ap (λ list. reader start.arcs begins.size (record { kinds = []; assigned = list; steps = start.table.steps })) begins.assigned
    ∙ ap (λ list. reader start.arcs begins.size (record { kinds = []; assigned = []; steps = list })) begins.steps in
    let all = are_read lines n start.arcs begins.size [] aside begins.low begins.small fits.none (subst (λ (s : TableRead). lines_after table_step n s lines ≡ Ok aside) from read) in
    let sized : Some begins.size ≡ Some fits.size = sym (ap (λ (s : TableRead). s.size) all.is) ∙ fits.sized in
    let same : begins.size ≡ fits.size = cc in
    let kinds : begins.size.kinds ≡ now.kinds = ap (λ (s : TableSize). s.kinds) same ∙ sym fits.kinds in
    let arcs : start.arcs ≡ before.arcs = sym (ap (λ (s : TableRead). s.arcs) all.is) ∙ sym fits.arcs in
    let assigned : aside.table.assigned ≡ all.more = ap (λ (s : TableRead). s.table.assigned) all.is in
    let low : before.arcs < 2 ^ 64 = subst (λ count. count < 2 ^ 64) arcs begins.low in
    let small : now.kinds < 2 ^ 64 = subst (λ count. count < 2 ^ 64) kinds begins.small in
    let lists : AreAssigned before.arcs now.kinds (speaking lines) all.more =
    subst (λ count. AreAssigned before.arcs count (speaking lines) all.more) kinds (subst (λ count. AreAssigned count begins.size.kinds (speaking lines) all.more) arcs all.lists) in
    let few : length before.table.assigned + length all.more ≤ now.assigned = omega (arith, fits.few, ap length assigned) in
    let before_is : before ≡ reader before.arcs now before.table = ap (λ o. record { arcs = before.arcs; size = o; table = before.table }) fits.was in
    let after_is : view new ≡ reader before.arcs now (more_of before.table all.more) =
    is ∙ ap (λ o. record { arcs = before.arcs; size = o; table = more_of before.table aside.table.assigned }) fits.was ∙ ap (λ more. reader before.arcs now (more_of before.table more)) assigned in
    ap (λ (s : TableRead). lines_after table_step m s lines) before_is
    ∙ read_behind lines m before.arcs now before.table all.more low small fits.due few lists
    ∙ ap (λ (s : TableRead). Ok s) (sym after_is)
