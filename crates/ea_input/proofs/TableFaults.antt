-- A timetable's text, line by line, by its checks.
use Rattle.std.proofs.Common.{◌≡◌, inl, inr, ℕ, ◌+◌, ◌<◌, ◌≤◌, ◌^◌, true, false, cond, refl, ap, ap₂, sym, ◌∙◌, ◌||◌, subst, List, [], ◌∷◌, ◌++◌, length, length-append, drop, ltb, leb, Bool, arith, tests}
use Rattle.std.specs.Prelude.{Option, Some, None, Result, Ok, Err, codes, ◌==◌, not, find, count_by}
use Rattle.std.specs.Option.{option_map}
use Rattle.std.specs.Str.{bytes_eq}
use Rattle.ea_bytes.specs.Text.{is_comment, is_silent}
use Rattle.ea_blocks.specs.Fault.{◌>>=◌}
use Rattle.ea_input.specs.Listing.{after_kinds}
use Rattle.ea_input.specs.Table.{Table, IsTableProblem, IsKindLine, IsAssignedLine, TableRead, no_table, with_line, size_read, size_of, problem_line, plain_of, every_of, every_read, closed_of, closed_read, rush_of, rush_read, speeds_of, speeds_read, trips_of, trips_read, points_of, points_read, kind_of, kind_line, assigned_of, assigned_line, step_line, table_line, table_step, table_end, after_said, IsKind, class_of, steps_from, last_kind, run_in, due_in}
use Rattle.ea_input.specs.StepLines as step_lines
use Rattle.ea_input.specs.StepLines.{Run, no_run, due, IsStepLine, least_time, most_time, least_value, most_value, step_of, step_read}
use Rattle.ea_input.specs.Checks.{Line, Before, before_of, begins_with, value_of, line_fault, end_fault, line_checks, first_failing, run_begun, run_told, run_after, run_of_lines}
use Rattle.ea_input.specs.Formats.{table_format, table_kinds, table_assigned}
use Rattle.ea_input.proofs.Numbered.{bind_ok}
use Rattle.ea_input.proofs.Said.{same_word, is_word}
use Rattle.ea_blocks.proofs.Cuts.{two_ways}
use Rattle.ea_input.proofs.TableSaid.{Says, line_says}
use Rattle.ea_input.proofs.Faults.{Matches, Follows}
use Rattle.ea_input.proofs.TableForms.{size_form, plain_form, every_form, closed_form, rush_form, speeds_form, trips_form, points_form, step_form, assigned_form}
use Rattle.ea_input.proofs.LastKind.{last_more}
use Rattle.std.proofs.lemmas.Bool.{le-ltb}
use Rattle.std.proofs.lemmas.List.{drop_all, drop-append-le}
use Rattle.ea_input.proofs.ListFaults.{one_kind_matches}
use Rattle.ea_input.proofs.Matching.{bind_matches, count_matches, numbers_match, item_matches, full, found_before, found_now, counted_before, counted_now, silent_word, some_is, none_mapped, some_mapped, number_is}
use Rattle.ea_blocks.specs.declared.fault.FaultKind.{FaultKind}
use Rattle.ea_blocks.specs.declared.fault.FaultKind.TheVariants.{TooManyLines, TooFewLines}
use Rattle.ea_base.specs.declared.timetable.RawKind.{RawKind}
use Rattle.ea_base.specs.declared.timetable.RawKind.TheVariants.{Plain, Every, Closed, Rush, Speeds, Trips, Points}
use Rattle.ea_input.specs.declared.timetable.TableSize.{TableSize}
use Rattle.ea_input.specs.declared.timetable.TableLine.{TableLine}
use Rattle.ea_input.specs.declared.timetable.TableLine.TheVariants.{Silent, Problem, Kind, Assigned, Step}

abbrev size_said : Line → TableSize
size_said line = record { kinds = table_kinds line; assigned = table_assigned line }

abbrev came : Option Line → (List ℕ → ℕ) → Run → Before
came problem count run = record { problem = problem; count = count; run = run }

abbrev reader : ℕ → Option TableSize → Table → TableRead
reader arcs size table = record { arcs = arcs; size = size; table = table }

-- The checks of a line from its kind word on: the sort of the line was known before, and whether it is due.
abbrev from_kind : ℕ → Before → Line → Option FaultKind
from_kind arcs before line = first_failing (drop 5 (line_checks (table_format arcs) before line))

-- A line that comes while steps are due.
late_matches : {X : Type 0} (late : Bool) (rest : Option FaultKind) (r : Result X FaultKind) (x : X) → Matches rest r x → Matches (cond late (Some TooFewLines) rest) (cond late (Err TooFewLines) r) x
late_matches true rest r x h = refl
late_matches false rest r x h = h

-- No step is due.
idle_matches : {X : Type 0} (due : ℕ) (rest : Option FaultKind) (r : Result X FaultKind) (x : X) → due ≡ 0 → Matches rest r x → Matches (cond (ltb 0 due) (Some TooFewLines) rest) r x
idle_matches due rest r x none h = subst (λ b. Matches (cond b (Some TooFewLines) rest) r x) (sym (le-ltb 0 due (omega (arith, none)))) h

-- A step that comes while none is due.
undue_matches : {X : Type 0} (undue some : Bool) (rest : Option FaultKind) (r : Result X FaultKind) (x : X) → undue ≡ not some → Matches rest r x → Matches (cond undue (Some TooManyLines) rest) (cond some r (Err TooManyLines)) x
undue_matches true true rest r x e h = cc
undue_matches true false rest r x e h = refl
undue_matches false true rest r x e h = h
undue_matches false false rest r x e h = cc

-- ---- the problem line

abbrev size_then : Result (List (List ℕ)) FaultKind → Result TableLine FaultKind
size_then r = r >>= λ numbers. size_of numbers >>= λ size. Ok (Problem size)

first_matches : (arcs : ℕ) (count : List ℕ → ℕ) (run : Run) (fields : Line) → Matches (from_kind arcs (came None count run) (codes "p" ∷ fields)) (problem_line None fields) (Problem (size_said (codes "p" ∷ fields)))
unfolding problem_line after_kinds size_of
first_matches arcs count run [] = refl
first_matches arcs count run (tp ∷ []) = one_kind_matches (bytes_eq tp (codes "tp")) size_then refl _ (Ok []) _ refl
first_matches arcs count run (tp ∷ x ∷ []) = one_kind_matches (bytes_eq tp (codes "tp")) size_then refl _ (Ok (x ∷ [])) _ refl
first_matches arcs count run (tp ∷ x ∷ y ∷ []) = one_kind_matches (bytes_eq tp (codes "tp")) size_then refl _ (Ok (x ∷ y ∷ [])) _ (numbers_match _ _ (size_read x y) _ Problem (size_form x y))
first_matches arcs count run (tp ∷ x ∷ y ∷ z ∷ rest) =
    let long : (length (codes "p" ∷ tp ∷ x ∷ y ∷ z ∷ rest) == 4) ≡ false = grind (arith, tests) in
    one_kind_matches (bytes_eq tp (codes "tp")) size_then refl _ (Ok (x ∷ y ∷ z ∷ rest)) _ (count_matches _ _ _ long)

problem_matches : (arcs : ℕ) (count : List ℕ → ℕ) (run : Run) (problem : Option Line) (size : Option TableSize) (fields : Line) → size ≡ option_map size_said problem → (problem ≡ None → due run ≡ 0)
    → Matches (line_fault (table_format arcs) (came problem count run) (codes "p" ∷ fields)) (problem_line size fields) (Problem (size_said (codes "p" ∷ fields)))
unfolding line_fault problem_line
problem_matches arcs count run (Some old) (Some size) fields e none = refl
problem_matches arcs count run (Some old) None fields e none = cc
problem_matches arcs count run None (Some size) fields e none = cc
problem_matches arcs count run None None fields e none = idle_matches (due run) (from_kind arcs (came None count run) (codes "p" ∷ fields)) _ _ (none refl) (first_matches arcs count run fields)

-- ---- a kind's line, after a problem line

abbrev KindMatches : ℕ → (List ℕ → ℕ) → Run → ℕ → Line → ℕ → Line → Type 0
KindMatches arcs count run before line kinds fields =
    (kind : RawKind) × Matches (from_kind arcs (came (Some line) count run) (codes "k" ∷ fields)) (kind_of (count (codes "k") + 1) before fields >>= λ kind. cond (ltb (count (codes "k")) kinds) (Ok (Kind kind)) (Err TooManyLines)) (Kind kind)

plain_matches : (arcs : ℕ) (count : List ℕ → ℕ) (run : Run) (before : ℕ) (line : Line) (j : List ℕ) (fields : Line) → count (codes "k") + 1 < 2 ^ 64 → KindMatches arcs count run before line (table_kinds line) (j ∷ codes "plain" ∷ fields)
unfolding kind_of plain_of
plain_matches arcs count run before line j [] small = (Plain, item_matches _ _ (table_kinds line) (count (codes "k")) (plain_of (count (codes "k") + 1) j []) _ Kind (plain_form (count (codes "k") + 1) j small))
plain_matches arcs count run before line j (x ∷ rest) small =
    let long : (length (codes "k" ∷ j ∷ codes "plain" ∷ x ∷ rest) == 3) ≡ false = grind (arith, tests) in
    (Plain, count_matches _ _ _ long)

every_matches : (arcs : ℕ) (count : List ℕ → ℕ) (run : Run) (before : ℕ) (line : Line) (j : List ℕ) (fields : Line) → count (codes "k") + 1 < 2 ^ 64 → KindMatches arcs count run before line (table_kinds line) (j ∷ codes "every" ∷ fields)
unfolding kind_of every_of
every_matches arcs count run before line j [] small = (Plain, refl)
every_matches arcs count run before line j (x ∷ []) small = (Plain, refl)
every_matches arcs count run before line j (x ∷ y ∷ []) small = (Every (value_of x) (value_of y), item_matches _ _ (table_kinds line) (count (codes "k")) (every_read (count (codes "k") + 1) j x y) _ Kind (every_form (count (codes "k") + 1) j x y small))
every_matches arcs count run before line j (x ∷ y ∷ z ∷ rest) small =
    let long : (length (codes "k" ∷ j ∷ codes "every" ∷ x ∷ y ∷ z ∷ rest) == 5) ≡ false = grind (arith, tests) in
    (Plain, count_matches _ _ _ long)

closed_matches : (arcs : ℕ) (count : List ℕ → ℕ) (run : Run) (before : ℕ) (line : Line) (j : List ℕ) (fields : Line) → count (codes "k") + 1 < 2 ^ 64 → KindMatches arcs count run before line (table_kinds line) (j ∷ codes "closed" ∷ fields)
unfolding kind_of closed_of
closed_matches arcs count run before line j [] small = (Plain, refl)
closed_matches arcs count run before line j (x ∷ []) small = (Plain, refl)
closed_matches arcs count run before line j (x ∷ y ∷ []) small = (Closed (value_of x) (value_of y), item_matches _ _ (table_kinds line) (count (codes "k")) (closed_read (count (codes "k") + 1) j x y) _ Kind (closed_form (count (codes "k") + 1) j x y small))
closed_matches arcs count run before line j (x ∷ y ∷ z ∷ rest) small =
    let long : (length (codes "k" ∷ j ∷ codes "closed" ∷ x ∷ y ∷ z ∷ rest) == 5) ≡ false = grind (arith, tests) in
    (Plain, count_matches _ _ _ long)

rush_matches : (arcs : ℕ) (count : List ℕ → ℕ) (run : Run) (before : ℕ) (line : Line) (j : List ℕ) (fields : Line) → count (codes "k") + 1 < 2 ^ 64 → KindMatches arcs count run before line (table_kinds line) (j ∷ codes "rush" ∷ fields)
unfolding kind_of rush_of
rush_matches arcs count run before line j [] small = (Plain, refl)
rush_matches arcs count run before line j (x ∷ []) small = (Plain, refl)
rush_matches arcs count run before line j (x ∷ y ∷ []) small = (Plain, refl)
rush_matches arcs count run before line j (x ∷ y ∷ z ∷ []) small = (Rush (value_of x) (value_of y) (value_of z), item_matches _ _ (table_kinds line) (count (codes "k")) (rush_read (count (codes "k") + 1) j x y z) _ Kind (rush_form (count (codes "k") + 1) j x y z small))
rush_matches arcs count run before line j (x ∷ y ∷ z ∷ v ∷ rest) small =
    let long : (length (codes "k" ∷ j ∷ codes "rush" ∷ x ∷ y ∷ z ∷ v ∷ rest) == 6) ≡ false = grind (arith, tests) in
    (Plain, count_matches _ _ _ long)

speeds_matches : (arcs : ℕ) (count : List ℕ → ℕ) (run : Run) (before : ℕ) (line : Line) (j : List ℕ) (fields : Line) → count (codes "k") + 1 < 2 ^ 64 → KindMatches arcs count run before line (table_kinds line) (j ∷ codes "speeds" ∷ fields)
unfolding kind_of speeds_of
speeds_matches arcs count run before line j [] small = (Plain, refl)
speeds_matches arcs count run before line j (x ∷ []) small = (Plain, refl)
speeds_matches arcs count run before line j (x ∷ y ∷ []) small = (Speeds (value_of x) before (value_of y), item_matches _ _ (table_kinds line) (count (codes "k")) (speeds_read (count (codes "k") + 1) before j x y) _ Kind (speeds_form (count (codes "k") + 1) before j x y small))
speeds_matches arcs count run before line j (x ∷ y ∷ z ∷ rest) small =
    let long : (length (codes "k" ∷ j ∷ codes "speeds" ∷ x ∷ y ∷ z ∷ rest) == 5) ≡ false = grind (arith, tests) in
    (Plain, count_matches _ _ _ long)

trips_matches : (arcs : ℕ) (count : List ℕ → ℕ) (run : Run) (before : ℕ) (line : Line) (j : List ℕ) (fields : Line) → count (codes "k") + 1 < 2 ^ 64 → KindMatches arcs count run before line (table_kinds line) (j ∷ codes "trips" ∷ fields)
unfolding kind_of trips_of
trips_matches arcs count run before line j [] small = (Plain, refl)
trips_matches arcs count run before line j (x ∷ []) small = (Plain, refl)
trips_matches arcs count run before line j (x ∷ y ∷ []) small = (Trips (value_of x) before (value_of y), item_matches _ _ (table_kinds line) (count (codes "k")) (trips_read (count (codes "k") + 1) before j x y) _ Kind (trips_form (count (codes "k") + 1) before j x y small))
trips_matches arcs count run before line j (x ∷ y ∷ z ∷ rest) small =
    let long : (length (codes "k" ∷ j ∷ codes "trips" ∷ x ∷ y ∷ z ∷ rest) == 5) ≡ false = grind (arith, tests) in
    (Plain, count_matches _ _ _ long)

points_matches : (arcs : ℕ) (count : List ℕ → ℕ) (run : Run) (before : ℕ) (line : Line) (j : List ℕ) (fields : Line) → count (codes "k") + 1 < 2 ^ 64 → KindMatches arcs count run before line (table_kinds line) (j ∷ codes "points" ∷ fields)
unfolding kind_of points_of
points_matches arcs count run before line j [] small = (Plain, refl)
points_matches arcs count run before line j (x ∷ []) small = (Plain, refl)
points_matches arcs count run before line j (x ∷ y ∷ []) small = (Points (value_of x) before (value_of y), item_matches _ _ (table_kinds line) (count (codes "k")) (points_read (count (codes "k") + 1) before j x y) _ Kind (points_form (count (codes "k") + 1) before j x y small))
points_matches arcs count run before line j (x ∷ y ∷ z ∷ rest) small =
    let long : (length (codes "k" ∷ j ∷ codes "points" ∷ x ∷ y ∷ z ∷ rest) == 5) ≡ false = grind (arith, tests) in
    (Plain, count_matches _ _ _ long)

unnamed_matches : (arcs : ℕ) (count : List ℕ → ℕ) (run : Run) (before : ℕ) (line : Line) (kinds : ℕ) (j name : List ℕ) (fields : Line) → bytes_eq name (codes "plain") ≡ false → bytes_eq name (codes "every") ≡ false → bytes_eq name (codes "closed") ≡ false → bytes_eq name (codes "rush") ≡ false → bytes_eq name (codes "speeds") ≡ false → bytes_eq name (codes "trips") ≡ false → bytes_eq name (codes "points") ≡ false → KindMatches arcs count run before line kinds (j ∷ name ∷ fields)
unfolding kind_of
unnamed_matches arcs count run before line kinds j name fields p e c r s t u = (Plain, rw (p, e, c, r, s, t, u) refl)

kind_matches : (arcs : ℕ) (count : List ℕ → ℕ) (run : Run) (before : ℕ) (line : Line) (fields : Line) → count (codes "k") + 1 < 2 ^ 64 → KindMatches arcs count run before line (table_kinds line) fields
unfolding kind_of
kind_matches arcs count run before line [] small = (Plain, refl)
kind_matches arcs count run before line (j ∷ []) small = (Plain, refl)
kind_matches arcs count run before line (j ∷ name ∷ fields) small =
    let P : List ℕ → Type 0 = λ w. KindMatches arcs count run before line (table_kinds line) (j ∷ w ∷ fields) in
    elim (two_ways (bytes_eq name (codes "plain"))) [
      | inl p ↦ subst P (sym (same_word name (codes "plain") p)) (plain_matches arcs count run before line j fields small)
      | inr no_p ↦ elim (two_ways (bytes_eq name (codes "every"))) [
        | inl e ↦ subst P (sym (same_word name (codes "every") e)) (every_matches arcs count run before line j fields small)
        | inr no_e ↦ elim (two_ways (bytes_eq name (codes "closed"))) [
          | inl c ↦ subst P (sym (same_word name (codes "closed") c)) (closed_matches arcs count run before line j fields small)
          | inr no_c ↦ elim (two_ways (bytes_eq name (codes "rush"))) [
            | inl r ↦ subst P (sym (same_word name (codes "rush") r)) (rush_matches arcs count run before line j fields small)
            | inr no_r ↦ elim (two_ways (bytes_eq name (codes "speeds"))) [
              | inl s ↦ subst P (sym (same_word name (codes "speeds") s)) (speeds_matches arcs count run before line j fields small)
              | inr no_s ↦ elim (two_ways (bytes_eq name (codes "trips"))) [
                | inl t ↦ subst P (sym (same_word name (codes "trips") t)) (trips_matches arcs count run before line j fields small)
                | inr no_t ↦ elim (two_ways (bytes_eq name (codes "points"))) [
                  | inl u ↦ subst P (sym (same_word name (codes "points") u)) (points_matches arcs count run before line j fields small)
                  | inr no_u ↦ unnamed_matches arcs count run before line (table_kinds line) j name fields no_p no_e no_c no_r no_s no_t no_u
                ]
              ]
            ]
          ]
        ]
      ]
    ]

-- ---- a line of any sort

p_line_matches : (read : TableRead) (count : List ℕ → ℕ) (run : Run) (problem : Option Line) (fields : Line) → read.size ≡ option_map size_said problem → (problem ≡ None → due run ≡ 0)
    → Matches (line_fault (table_format read.arcs) (came problem count run) (codes "p" ∷ fields)) (table_line read (codes "p" ∷ fields)) (Problem (size_said (codes "p" ∷ fields)))
unfolding table_line
p_line_matches read count run problem fields e none = problem_matches read.arcs count run problem read.size fields e none

k_line_matches : (arcs : ℕ) (count : List ℕ → ℕ) (run : Run) (before : ℕ) (problem : Option Line) (size : Option TableSize) (fields : Line) → size ≡ option_map size_said problem → ((line : Line) → problem ≡ Some line → count (codes "k") + 1 < 2 ^ 64)
    → (kind : RawKind) × Matches (line_fault (table_format arcs) (came problem count run) (codes "k" ∷ fields)) (kind_line size (due run) (count (codes "k")) before fields) (Kind kind)
unfolding kind_line line_fault
k_line_matches arcs count run before None None fields e small = (Plain, refl)
k_line_matches arcs count run before None (Some size) fields e small = cc
k_line_matches arcs count run before (Some line) None fields e small = cc
k_line_matches arcs count run before (Some line) (Some size) fields e small =
    let same : size_said line ≡ size = cc in
    let matched : KindMatches arcs count run before line size.kinds fields =
    subst (λ (s : TableSize). KindMatches arcs count run before line s.kinds fields) same (kind_matches arcs count run before line fields (small line refl)) in
    (matched.0, late_matches (ltb 0 (due run)) (from_kind arcs (came (Some line) count run) (codes "k" ∷ fields)) _ _ matched.1)

abbrev EntryMatches : ℕ → (List ℕ → ℕ) → Run → Line → TableSize → Line → Type 0
EntryMatches arcs count run line size fields =
    (entry : ℕ × ℕ) × Matches (from_kind arcs (came (Some line) count run) (codes "t" ∷ fields)) (assigned_of arcs size.kinds fields >>= λ entry. cond (ltb (count (codes "t")) size.assigned) (Ok (Assigned entry)) (Err TooManyLines)) (Assigned entry)

entry_matches : (arcs : ℕ) (count : List ℕ → ℕ) (run : Run) (line : Line) (fields : Line) → arcs < 2 ^ 64 → table_kinds line < 2 ^ 64 → EntryMatches arcs count run line (size_said line) fields
unfolding assigned_of
entry_matches arcs count run line [] low small = ((0, 0), refl)
entry_matches arcs count run line (x ∷ []) low small = ((0, 0), refl)
entry_matches arcs count run line (x ∷ y ∷ []) low small =
    ((value_of x, value_of y), item_matches _ _ (table_assigned line) (count (codes "t")) (assigned_of arcs (table_kinds line) (x ∷ y ∷ [])) _ Assigned (assigned_form arcs (table_kinds line) x y low small))
entry_matches arcs count run line (x ∷ y ∷ z ∷ rest) low small =
    let long : (length (codes "t" ∷ x ∷ y ∷ z ∷ rest) == 3) ≡ false = grind (arith, tests) in
    ((0, 0), count_matches _ _ _ long)

t_line_matches : (arcs : ℕ) (count : List ℕ → ℕ) (run : Run) (problem : Option Line) (size : Option TableSize) (fields : Line) → arcs < 2 ^ 64 → size ≡ option_map size_said problem → ((line : Line) → problem ≡ Some line → table_kinds line < 2 ^ 64)
    → (entry : ℕ × ℕ) × Matches (line_fault (table_format arcs) (came problem count run) (codes "t" ∷ fields)) (assigned_line arcs size (due run) (count (codes "t")) fields) (Assigned entry)
unfolding assigned_line line_fault
t_line_matches arcs count run None None fields low e small = ((0, 0), refl)
t_line_matches arcs count run None (Some size) fields low e small = cc
t_line_matches arcs count run (Some line) None fields low e small = cc
t_line_matches arcs count run (Some line) (Some size) fields low e small =
    let same : size_said line ≡ size = cc in
    let matched : EntryMatches arcs count run line size fields =
    subst (λ (s : TableSize). EntryMatches arcs count run line s fields) same (entry_matches arcs count run line fields low (small line refl)) in
    (matched.0, late_matches (ltb 0 (due run)) (from_kind arcs (came (Some line) count run) (codes "t" ∷ fields)) _ _ matched.1)

step_matches : (arcs : ℕ) (count : List ℕ → ℕ) (run : Run) (line : Line) (fields : Line) → (step : ℕ × ℕ) × Matches (from_kind arcs (came (Some line) count run) (codes "v" ∷ fields)) (step_of run fields >>= λ step. Ok (Step step)) (Step step)
unfolding step_of
step_matches arcs count run line [] = ((0, 0), refl)
step_matches arcs count run line (x ∷ []) = ((0, 0), refl)
step_matches arcs count run line (x ∷ y ∷ []) = ((value_of x, value_of y), numbers_match _ _ (step_read run x y) _ Step (step_form run x y))
step_matches arcs count run line (x ∷ y ∷ z ∷ rest) =
    let long : (length (codes "v" ∷ x ∷ y ∷ z ∷ rest) == 3) ≡ false = grind (arith, tests) in
    ((0, 0), count_matches _ _ _ long)

v_line_matches : (arcs : ℕ) (count : List ℕ → ℕ) (run : Run) (problem : Option Line) (size : Option TableSize) (fields : Line) → size ≡ option_map size_said problem
    → (step : ℕ × ℕ) × Matches (line_fault (table_format arcs) (came problem count run) (codes "v" ∷ fields)) (step_line size run fields) (Step step)
unfolding step_line line_fault
v_line_matches arcs count run None None fields e = ((0, 0), refl)
v_line_matches arcs count run None (Some size) fields e = cc
v_line_matches arcs count run (Some line) None fields e = cc
v_line_matches arcs count run (Some line) (Some size) fields e =
    let matched = step_matches arcs count run line fields in
    (matched.0, undue_matches (leb (due run) 0) (ltb 0 (due run)) (from_kind arcs (came (Some line) count run) (codes "v" ∷ fields)) _ _ (full 0 (due run)) matched.1)

other_matches : (arcs : ℕ) (before : Before) (read : TableRead) (word : List ℕ) (fields : Line) → is_comment word ≡ false → bytes_eq word (codes "p") ≡ false → bytes_eq word (codes "k") ≡ false → bytes_eq word (codes "t") ≡ false → bytes_eq word (codes "v") ≡ false
    → Matches (line_fault (table_format arcs) before (word ∷ fields)) (table_line read (word ∷ fields)) Silent
unfolding line_fault table_line
other_matches arcs before read word fields c p k t v = rw (c, p, k, t, v) refl

silent_matches : (arcs : ℕ) (before : Before) (read : TableRead) (line : Line) → is_silent line ≡ true → Matches (line_fault (table_format arcs) before line) (table_line read line) Silent
unfolding line_fault table_line
silent_matches arcs before read [] e = refl
silent_matches arcs before read (word ∷ fields) e = rw e refl

-- ---- the class whose steps are read

run_more : (run : Run) (lines : List Line) (line : Line) → run_of_lines run (lines ++ line ∷ []) ≡ run_after (run_of_lines run lines) line
run_more run [] line = refl
run_more run (first ∷ lines) line = run_more (run_after run first) lines line

-- The place at which a kind's steps begin.
abbrev first_of : RawKind → ℕ
first_of (Speeds period first count) = first
first_of (Trips period first count) = first
first_of (Points period first count) = first
first_of kind = 0

-- What determines a kind, if steps were read.
abbrev kind_run : RawKind → List (ℕ × ℕ) → Run
kind_run kind steps = record { class = class_of kind; steps = steps_from kind steps }

abbrev begun : Bool → ℕ → ℕ → List (ℕ × ℕ) → Run
begun trips period count steps = record { class = record { trips = trips; period = period; count = count }; steps = steps }

same_begun : (trips : Bool) (p q m n first : ℕ) (steps : List (ℕ × ℕ)) → p ≡ q → m ≡ n → length steps ≤ first → begun trips p m [] ≡ begun trips q n (drop first steps)
same_begun trips p q m n first steps e f past = ap₂ (λ a b. begun trips a b []) e f ∙ ap (λ s. begun trips q n s) (sym (drop_all first steps past))

-- What a kind's line begins is what determines the kind.
abbrev Begins : Line → RawKind → List (ℕ × ℕ) → Type 0
Begins line kind steps = (run_begun line ≡ record { class = class_of kind; steps = steps_from kind steps }) × (first_of kind ≤ length steps)

kind_begins : (j : List ℕ) (fields : Line) (kind : RawKind) (steps : List (ℕ × ℕ)) → IsKind (length steps) fields kind → Begins (codes "k" ∷ j ∷ fields) kind steps
kind_begins j [] Plain steps is = absurd is
kind_begins j [] (Every p o) steps is = absurd is
kind_begins j [] (Closed lo hi) steps is = absurd is
kind_begins j [] (Rush lo hi extra) steps is = absurd is
kind_begins j [] (Speeds period first count) steps is = absurd is
kind_begins j [] (Trips period first count) steps is = absurd is
kind_begins j [] (Points period first count) steps is = absurd is
kind_begins j (name ∷ []) Plain steps is = (refl, omega arith)
kind_begins j (name ∷ []) (Every p o) steps is = absurd is
kind_begins j (name ∷ []) (Closed lo hi) steps is = absurd is
kind_begins j (name ∷ []) (Rush lo hi extra) steps is = absurd is
kind_begins j (name ∷ []) (Speeds period first count) steps is = absurd is
kind_begins j (name ∷ []) (Trips period first count) steps is = absurd is
kind_begins j (name ∷ []) (Points period first count) steps is = absurd is
kind_begins j (name ∷ a ∷ []) Plain steps is = absurd is
kind_begins j (name ∷ a ∷ []) (Every p o) steps is = absurd is
kind_begins j (name ∷ a ∷ []) (Closed lo hi) steps is = absurd is
kind_begins j (name ∷ a ∷ []) (Rush lo hi extra) steps is = absurd is
kind_begins j (name ∷ a ∷ []) (Speeds period first count) steps is = absurd is
kind_begins j (name ∷ a ∷ []) (Trips period first count) steps is = absurd is
kind_begins j (name ∷ a ∷ []) (Points period first count) steps is = absurd is
kind_begins j (name ∷ a ∷ b ∷ []) Plain steps is = absurd is
kind_begins j (name ∷ a ∷ b ∷ []) (Every p o) steps is = rw (is.0) (refl, omega arith)
kind_begins j (name ∷ a ∷ b ∷ []) (Closed lo hi) steps is = rw (is.0) (refl, omega arith)
kind_begins j (name ∷ a ∷ b ∷ []) (Rush lo hi extra) steps is = absurd is
kind_begins j (name ∷ a ∷ b ∷ []) (Speeds period first count) steps is =
    rw (is.0) (same_begun false (value_of a) period (value_of b) count first steps (number_is 1 4294967296 a period is.1) (number_is 1 65536 b count is.2) (omega (arith, is.3)), omega (arith, is.3))
kind_begins j (name ∷ a ∷ b ∷ []) (Trips period first count) steps is =
    rw (is.0) (same_begun true (value_of a) period (value_of b) count first steps (number_is 0 4294967296 a period is.1) (number_is 1 65536 b count is.2) (omega (arith, is.3)), omega (arith, is.3))
kind_begins j (name ∷ a ∷ b ∷ []) (Points period first count) steps is =
    rw (is.0) (same_begun true (value_of a) period (value_of b) count first steps (number_is 0 4294967296 a period is.1) (number_is 1 65536 b count is.2) (omega (arith, is.3)), omega (arith, is.3))
kind_begins j (name ∷ a ∷ b ∷ c ∷ []) Plain steps is = absurd is
kind_begins j (name ∷ a ∷ b ∷ c ∷ []) (Every p o) steps is = absurd is
kind_begins j (name ∷ a ∷ b ∷ c ∷ []) (Closed lo hi) steps is = absurd is
kind_begins j (name ∷ a ∷ b ∷ c ∷ []) (Rush lo hi extra) steps is = (refl, omega arith)
kind_begins j (name ∷ a ∷ b ∷ c ∷ []) (Speeds period first count) steps is = absurd is
kind_begins j (name ∷ a ∷ b ∷ c ∷ []) (Trips period first count) steps is = absurd is
kind_begins j (name ∷ a ∷ b ∷ c ∷ []) (Points period first count) steps is = absurd is
kind_begins j (name ∷ a ∷ b ∷ c ∷ d ∷ rest) Plain steps is = absurd is
kind_begins j (name ∷ a ∷ b ∷ c ∷ d ∷ rest) (Every p o) steps is = absurd is
kind_begins j (name ∷ a ∷ b ∷ c ∷ d ∷ rest) (Closed lo hi) steps is = absurd is
kind_begins j (name ∷ a ∷ b ∷ c ∷ d ∷ rest) (Rush lo hi extra) steps is = absurd is
kind_begins j (name ∷ a ∷ b ∷ c ∷ d ∷ rest) (Speeds period first count) steps is = absurd is
kind_begins j (name ∷ a ∷ b ∷ c ∷ d ∷ rest) (Trips period first count) steps is = absurd is
kind_begins j (name ∷ a ∷ b ∷ c ∷ d ∷ rest) (Points period first count) steps is = absurd is

line_begins : (number : ℕ) (line : Line) (kind : RawKind) (steps : List (ℕ × ℕ)) → IsKindLine number (length steps) line kind → Begins line kind steps
line_begins number [] kind steps is = absurd is
line_begins number (word ∷ []) kind steps is = absurd is
line_begins number (word ∷ j ∷ fields) kind steps is = subst (λ (w : List ℕ). Begins (w ∷ j ∷ fields) kind steps) (sym is.0) (kind_begins j fields kind steps is.2)

-- One more step of the last kind.
from_more : (kind : RawKind) (steps : List (ℕ × ℕ)) (step : ℕ × ℕ) → 0 < (class_of kind).count → first_of kind ≤ length steps → steps_from kind (steps ++ step ∷ []) ≡ steps_from kind steps ++ step ∷ []
from_more Plain steps step some low = absurd (omega (arith, some))
from_more (Every period offset) steps step some low = absurd (omega (arith, some))
from_more (Closed lo hi) steps step some low = absurd (omega (arith, some))
from_more (Rush lo hi extra) steps step some low = absurd (omega (arith, some))
from_more (Speeds period first count) steps step some low = drop-append-le first steps (step ∷ []) low
from_more (Trips period first count) steps step some low = drop-append-le first steps (step ∷ []) low
from_more (Points period first count) steps step some low = drop-append-le first steps (step ∷ []) low

some_due : (run : Run) → 0 < due run → 0 < run.class.count
some_due run some = omega arith

-- ---- states

pub record Stands (arcs : ℕ) (read : TableRead) (lines : List Line) : Type 0 where
  pub arcs_are : read.arcs ≡ arcs
  pub size : read.size ≡ option_map size_said (find (begins_with (codes "p")) lines)
  pub kinds : length read.table.kinds ≡ count_by (begins_with (codes "k")) lines
  pub assigned : length read.table.assigned ≡ count_by (begins_with (codes "t")) lines
  pub run : run_of_lines no_run lines ≡ run_in read.table
  pub first : first_of (last_kind read.table.kinds) ≤ length read.table.steps
  pub small : (line : Line) → find (begins_with (codes "p")) lines ≡ Some line → (length read.table.kinds ≤ table_kinds line) × (table_kinds line ≤ 65535)
  pub empty : find (begins_with (codes "p")) lines ≡ None → length read.table.kinds ≡ 0
  pub idle : find (begins_with (codes "p")) lines ≡ None → due_in read ≡ 0

-- ---- reading one more line

abbrev Neither : Line → Type 0
Neither line = (begins_with (codes "k") line ≡ false) × (begins_with (codes "v") line ≡ false)

-- A line of no kind and of no step leaves the class as it is.
run_kept : (lines : List Line) (line : Line) → Neither line → run_of_lines no_run (lines ++ line ∷ []) ≡ run_of_lines no_run lines
run_kept lines line neither = run_more no_run lines line ∙ ap₂ (λ a b. cond a (run_begun line) (cond b (run_told (run_of_lines no_run lines) line) (run_of_lines no_run lines))) neither.0 neither.1

problem_facts : (line : Line) (new : TableSize) → IsTableProblem line new.kinds new.assigned
    → (begins_with (codes "p") line ≡ true) × (begins_with (codes "k") line ≡ false) × (begins_with (codes "t") line ≡ false) × (size_said line ≡ new) × (table_kinds line ≤ 65535) × (begins_with (codes "v") line ≡ false)
problem_facts [] new is = absurd is
problem_facts (word ∷ []) new is = absurd is
problem_facts (word ∷ tp ∷ []) new is = absurd is
problem_facts (word ∷ tp ∷ x ∷ []) new is = absurd is
problem_facts (word ∷ tp ∷ x ∷ y ∷ []) new is =
    let kinds : value_of x ≡ new.kinds = number_is 0 65535 x new.kinds is.2 in
    let assigned : value_of y ≡ new.assigned = number_is 0 268435456 y new.assigned is.3 in
    (is_word word (codes "p") is.0, ap (λ (w : List ℕ). bytes_eq w (codes "k")) is.0, ap (λ (w : List ℕ). bytes_eq w (codes "t")) is.0, ap₂ (λ (a b : ℕ). record { kinds = a; assigned = b }) kinds assigned, omega (arith, kinds, is.2.2), ap (λ (w : List ℕ). bytes_eq w (codes "v")) is.0)
problem_facts (word ∷ tp ∷ x ∷ y ∷ z ∷ rest) new is = absurd is

kind_facts : (number before : ℕ) (line : Line) (kind : RawKind) → IsKindLine number before line kind → (begins_with (codes "k") line ≡ true) × (begins_with (codes "p") line ≡ false) × (begins_with (codes "t") line ≡ false)
kind_facts number before [] kind is = absurd is
kind_facts number before (word ∷ []) kind is = absurd is
kind_facts number before (word ∷ j ∷ fields) kind is = (is_word word (codes "k") is.0, ap (λ (w : List ℕ). bytes_eq w (codes "p")) is.0, ap (λ (w : List ℕ). bytes_eq w (codes "t")) is.0)

entry_facts : (arcs classes : ℕ) (line : Line) (entry : ℕ × ℕ) → IsAssignedLine arcs classes line entry → (begins_with (codes "t") line ≡ true) × (begins_with (codes "p") line ≡ false) × (begins_with (codes "k") line ≡ false) × (begins_with (codes "v") line ≡ false)
entry_facts arcs classes [] entry is = absurd is
entry_facts arcs classes (word ∷ []) entry is = absurd is
entry_facts arcs classes (word ∷ e ∷ []) entry is = absurd is
entry_facts arcs classes (word ∷ e ∷ j ∷ []) entry is = (is_word word (codes "t") is.0, ap (λ (w : List ℕ). bytes_eq w (codes "p")) is.0, ap (λ (w : List ℕ). bytes_eq w (codes "k")) is.0, ap (λ (w : List ℕ). bytes_eq w (codes "v")) is.0)
entry_facts arcs classes (word ∷ e ∷ j ∷ x ∷ rest) entry is = absurd is

step_facts : (run : Run) (line : Line) (step : ℕ × ℕ) → IsStepLine run line step → (begins_with (codes "v") line ≡ true) × (begins_with (codes "p") line ≡ false) × (begins_with (codes "k") line ≡ false) × (begins_with (codes "t") line ≡ false) × (run_told run line ≡ step_lines.with_step run step)
step_facts run [] step is = absurd is
step_facts run (word ∷ []) step is = absurd is
step_facts run (word ∷ t ∷ []) step is = absurd is
step_facts run (word ∷ t ∷ x ∷ []) step is =
    (is_word word (codes "v") is.0, ap (λ (w : List ℕ). bytes_eq w (codes "p")) is.0, ap (λ (w : List ℕ). bytes_eq w (codes "k")) is.0, ap (λ (w : List ℕ). bytes_eq w (codes "t")) is.0, ap₂ (λ (a b : ℕ). step_lines.with_step run (a, b)) (number_is (least_time run) (most_time run) t step.0 is.1) (number_is (least_value run step.0) (most_value run step.0) x step.1 is.2))
step_facts run (word ∷ t ∷ x ∷ y ∷ rest) step is = absurd is

clash : {A : Type 0} (o : Option A) (x : A) → o ≡ None → o ≡ Some x → ⊥
clash o x p q = cc

stands_after : (arcs : ℕ) (read : TableRead) (lines : List Line) (line : Line) (said : TableLine) → Stands arcs read lines → Says read line said → Stands arcs (with_line read said) (lines ++ line ∷ [])
stands_after arcs read lines line Silent stands says =
    let same = found_before (begins_with (codes "p")) lines line (silent_word (codes "p") line refl says) in
    let no_k = silent_word (codes "k") line refl says in
    record {
      arcs_are = stands.arcs_are;
      size = stands.size ∙ ap (option_map size_said) (sym same);
      kinds = stands.kinds ∙ sym (counted_before (begins_with (codes "k")) lines line no_k);
      assigned = stands.assigned ∙ sym (counted_before (begins_with (codes "t")) lines line (silent_word (codes "t") line refl says));
      run = run_kept lines line (no_k, silent_word (codes "v") line refl says) ∙ stands.run;
      first = stands.first;
      small = λ l h. stands.small l (sym same ∙ h);
      empty = λ h. stands.empty (sym same ∙ h);
      idle = λ h. stands.idle (sym same ∙ h);
    }
stands_after arcs read lines line (Problem new) stands says =
    let facts = problem_facts line new says.2 in
    let none : find (begins_with (codes "p")) lines ≡ None = none_mapped size_said _ (sym says.1 ∙ stands.size) in
    let now = found_now (begins_with (codes "p")) lines line none facts.0 in
    record {
      arcs_are = stands.arcs_are;
      size = ap (λ (s : TableSize). Some s) (sym facts.3) ∙ ap (option_map size_said) (sym now);
      kinds = stands.kinds ∙ sym (counted_before (begins_with (codes "k")) lines line facts.1);
      assigned = stands.assigned ∙ sym (counted_before (begins_with (codes "t")) lines line facts.2);
      run = run_kept lines line (facts.1, facts.5) ∙ stands.run;
      first = stands.first;
      small = λ l h. subst (λ (x : Line). (length read.table.kinds ≤ table_kinds x) × (table_kinds x ≤ 65535)) (some_is line l (sym now ∙ h)) (omega (arith, stands.empty none), facts.4);
      empty = λ h. absurd (clash _ line h now);
      idle = λ h. absurd (clash _ line h now);
    }
stands_after arcs read lines line (Kind kind) stands says =
    let old = says.1.0 in
    let found = some_mapped size_said _ old (sym says.1.1 ∙ stands.size) in
    let kinds_are : table_kinds found.0 ≡ old.kinds = ap (λ (s : TableSize). s.kinds) found.2 in
    let bound = stands.small found.0 found.1 in
    let is = says.1.4 (omega (arith, kinds_are, bound.1)) in
    let facts = kind_facts (length read.table.kinds + 1) (length read.table.steps) line kind is in
    let begins = line_begins (length read.table.kinds + 1) line kind read.table.steps is in
    let last = last_more read.table.kinds kind in
    let same = found_before (begins_with (codes "p")) lines line facts.1 in
    let more : length (read.table.kinds ++ kind ∷ []) ≡ length read.table.kinds + 1 = length-append read.table.kinds (kind ∷ []) in
    let room : length (read.table.kinds ++ kind ∷ []) ≤ table_kinds found.0 = omega (arith, more, kinds_are, says.1.2) in
    let told : run_of_lines no_run (lines ++ line ∷ []) ≡ run_begun line = run_more no_run lines line ∙ ap (λ b. cond b (run_begun line) (cond (begins_with (codes "v") line) (run_told (run_of_lines no_run lines) line) (run_of_lines no_run lines))) facts.0 in
    record {
      arcs_are = stands.arcs_are;
      size = stands.size ∙ ap (option_map size_said) (sym same);
      kinds = more ∙ ap (λ n. n + 1) stands.kinds ∙ sym (counted_now (begins_with (codes "k")) lines line facts.0);
      assigned = stands.assigned ∙ sym (counted_before (begins_with (codes "t")) lines line facts.2);
      run = told ∙ begins.0 ∙ ap (λ (k : RawKind). kind_run k read.table.steps) (sym last);
      first = subst (λ (k : RawKind). first_of k ≤ length read.table.steps) (sym last) begins.1;
      small = λ l h. subst (λ (x : Line). (length (read.table.kinds ++ kind ∷ []) ≤ table_kinds x) × (table_kinds x ≤ 65535)) (some_is found.0 l (sym found.1 ∙ sym same ∙ h)) (room, bound.1);
      empty = λ h. absurd (clash _ found.0 (sym same ∙ h) found.1);
      idle = λ h. absurd (clash _ found.0 (sym same ∙ h) found.1);
    }
stands_after arcs read lines line (Assigned entry) stands says =
    let old = says.1.0 in
    let found = some_mapped size_said _ old (sym says.1.1 ∙ stands.size) in
    let kinds_are : table_kinds found.0 ≡ old.kinds = ap (λ (s : TableSize). s.kinds) found.2 in
    let bound = stands.small found.0 found.1 in
    let facts = entry_facts read.arcs old.kinds line entry (says.1.4 (omega (arith, kinds_are, bound.1))) in
    let same = found_before (begins_with (codes "p")) lines line facts.1 in
    record {
      arcs_are = stands.arcs_are;
      size = stands.size ∙ ap (option_map size_said) (sym same);
      kinds = stands.kinds ∙ sym (counted_before (begins_with (codes "k")) lines line facts.2);
      assigned = length-append read.table.assigned (entry ∷ []) ∙ ap (λ n. n + 1) stands.assigned ∙ sym (counted_now (begins_with (codes "t")) lines line facts.0);
      run = run_kept lines line (facts.2, facts.3) ∙ stands.run;
      first = stands.first;
      small = λ l h. stands.small l (sym same ∙ h);
      empty = λ h. stands.empty (sym same ∙ h);
      idle = λ h. stands.idle (sym same ∙ h);
    }
stands_after arcs read lines line (Step step) stands says =
    let old = says.1.0 in
    let found = some_mapped size_said _ old (sym says.1.1 ∙ stands.size) in
    let facts = step_facts (run_in read.table) line step says.1.3 in
    let same = found_before (begins_with (codes "p")) lines line facts.1 in
    let kind = last_kind read.table.kinds in
    let some : 0 < (class_of kind).count = some_due (run_in read.table) says.1.2 in
    let told : run_of_lines no_run (lines ++ line ∷ []) ≡ run_told (run_in read.table) line =
    run_more no_run lines line
    ∙ ap₂ (λ a b. cond a (run_begun line) (cond b (run_told (run_of_lines no_run lines) line) (run_of_lines no_run lines))) facts.2 facts.0
    ∙ ap (λ (r : Run). run_told r line) stands.run in
    record {
      arcs_are = stands.arcs_are;
      size = stands.size ∙ ap (option_map size_said) (sym same);
      kinds = stands.kinds ∙ sym (counted_before (begins_with (codes "k")) lines line facts.2);
      assigned = stands.assigned ∙ sym (counted_before (begins_with (codes "t")) lines line facts.3);
      run = told ∙ facts.4 ∙ ap (λ s. begun (class_of kind).trips (class_of kind).period (class_of kind).count s) (sym (from_more kind read.table.steps step some stands.first));
      first = omega (arith, stands.first, length-append read.table.steps (step ∷ []));
      small = λ l h. stands.small l (sym same ∙ h);
      empty = λ h. stands.empty (sym same ∙ h);
      idle = λ h. absurd (clash _ found.0 (sym same ∙ h) found.1);
    }

goes_on : (arcs : ℕ) (read next : TableRead) (lines : List Line) (line : Line) → arcs < 2 ^ 64 → Stands arcs read lines → table_step read line ≡ Ok next → Stands arcs next (lines ++ line ∷ [])
unfolding table_step after_said
goes_on arcs read next lines line low stands e =
    let said = bind_ok (table_line read line) (λ s. Ok (with_line read s)) next e in
    let same : with_line read said.0 ≡ next = cc (said.2) in
    subst (λ (r : TableRead). Stands arcs r (lines ++ line ∷ [])) same (stands_after arcs read lines line said.0 stands (line_says read line said.0 (omega (arith, low, stands.arcs_are)) said.1))

abbrev Reads : TableRead → List Line → Line → Type 0
Reads read lines line = (next : TableRead) × Matches (line_fault (table_format read.arcs) (before_of lines) line) (table_step read line) next

said_reads : (read : TableRead) (lines : List Line) (line : Line) (said : TableLine) → Matches (line_fault (table_format read.arcs) (before_of lines) line) (table_line read line) said → Reads read lines line
unfolding table_step after_said
said_reads read lines line said h = (with_line read said, bind_matches _ (table_line read line) said (with_line read) h)

problem_reads : (arcs : ℕ) (read : TableRead) (lines : List Line) (fields : Line) → Stands arcs read lines → Reads read lines (codes "p" ∷ fields)
problem_reads arcs read lines fields stands =
    said_reads read lines (codes "p" ∷ fields) (Problem (size_said (codes "p" ∷ fields)))
    (p_line_matches read (λ w. count_by (begins_with w) lines) (run_of_lines no_run lines) (find (begins_with (codes "p")) lines) fields stands.size (λ none. ap due stands.run ∙ stands.idle none))

kind_reads : (arcs : ℕ) (read : TableRead) (lines : List Line) (fields : Line) → Stands arcs read lines → Reads read lines (codes "k" ∷ fields)
unfolding table_line
kind_reads arcs read lines fields stands =
    let few : (line : Line) → find (begins_with (codes "p")) lines ≡ Some line → count_by (begins_with (codes "k")) lines + 1 < 2 ^ 64 = λ line h. omega (arith, stands.kinds, stands.small line h) in
    let matched = k_line_matches read.arcs (λ w. count_by (begins_with w) lines) (run_of_lines no_run lines) (length read.table.steps) (find (begins_with (codes "p")) lines) read.size fields stands.size few in
    let counted : Matches (line_fault (table_format read.arcs) (before_of lines) (codes "k" ∷ fields)) (kind_line read.size (due (run_of_lines no_run lines)) (length read.table.kinds) (length read.table.steps) fields) (Kind matched.0) =
    subst (λ (n : ℕ). Matches (line_fault (table_format read.arcs) (before_of lines) (codes "k" ∷ fields)) (kind_line read.size (due (run_of_lines no_run lines)) n (length read.table.steps) fields) (Kind matched.0)) (sym stands.kinds) matched.1 in
    said_reads read lines (codes "k" ∷ fields) (Kind matched.0)
    (subst (λ (r : Run). Matches (line_fault (table_format read.arcs) (before_of lines) (codes "k" ∷ fields)) (kind_line read.size (due r) (length read.table.kinds) (length read.table.steps) fields) (Kind matched.0)) stands.run counted)

assigned_reads : (arcs : ℕ) (read : TableRead) (lines : List Line) (fields : Line) → arcs < 2 ^ 64 → Stands arcs read lines → Reads read lines (codes "t" ∷ fields)
unfolding table_line
assigned_reads arcs read lines fields low stands =
    let few : (line : Line) → find (begins_with (codes "p")) lines ≡ Some line → table_kinds line < 2 ^ 64 = λ line h. omega (arith, stands.small line h) in
    let matched = t_line_matches read.arcs (λ w. count_by (begins_with w) lines) (run_of_lines no_run lines) (find (begins_with (codes "p")) lines) read.size fields (omega (arith, low, stands.arcs_are)) stands.size few in
    let counted : Matches (line_fault (table_format read.arcs) (before_of lines) (codes "t" ∷ fields)) (assigned_line read.arcs read.size (due (run_of_lines no_run lines)) (length read.table.assigned) fields) (Assigned matched.0) =
    subst (λ (n : ℕ). Matches (line_fault (table_format read.arcs) (before_of lines) (codes "t" ∷ fields)) (assigned_line read.arcs read.size (due (run_of_lines no_run lines)) n fields) (Assigned matched.0)) (sym stands.assigned) matched.1 in
    said_reads read lines (codes "t" ∷ fields) (Assigned matched.0)
    (subst (λ (r : Run). Matches (line_fault (table_format read.arcs) (before_of lines) (codes "t" ∷ fields)) (assigned_line read.arcs read.size (due r) (length read.table.assigned) fields) (Assigned matched.0)) stands.run counted)

step_reads : (arcs : ℕ) (read : TableRead) (lines : List Line) (fields : Line) → Stands arcs read lines → Reads read lines (codes "v" ∷ fields)
unfolding table_line
step_reads arcs read lines fields stands =
    let matched = v_line_matches read.arcs (λ w. count_by (begins_with w) lines) (run_of_lines no_run lines) (find (begins_with (codes "p")) lines) read.size fields stands.size in
    said_reads read lines (codes "v" ∷ fields) (Step matched.0)
    (subst (λ (r : Run). Matches (line_fault (table_format read.arcs) (before_of lines) (codes "v" ∷ fields)) (step_line read.size r fields) (Step matched.0)) stands.run matched.1)

reads_line : (arcs : ℕ) (read : TableRead) (lines : List Line) (line : Line) → arcs < 2 ^ 64 → Stands arcs read lines → Reads read lines line
reads_line arcs read lines [] low stands = said_reads read lines [] Silent (silent_matches read.arcs (before_of lines) read [] refl)
reads_line arcs read lines (word ∷ fields) low stands =
    let P : List ℕ → Type 0 = λ w. Reads read lines (w ∷ fields) in
    elim (two_ways (is_comment word)) [
      | inl comment ↦ said_reads read lines (word ∷ fields) Silent (silent_matches read.arcs (before_of lines) read (word ∷ fields) comment)
      | inr plain ↦ elim (two_ways (bytes_eq word (codes "p"))) [
        | inl p ↦ subst P (sym (same_word word (codes "p") p)) (problem_reads arcs read lines fields stands)
        | inr no_p ↦ elim (two_ways (bytes_eq word (codes "k"))) [
          | inl k ↦ subst P (sym (same_word word (codes "k") k)) (kind_reads arcs read lines fields stands)
          | inr no_k ↦ elim (two_ways (bytes_eq word (codes "t"))) [
            | inl t ↦ subst P (sym (same_word word (codes "t") t)) (assigned_reads arcs read lines fields low stands)
            | inr no_t ↦ elim (two_ways (bytes_eq word (codes "v"))) [
              | inl v ↦ subst P (sym (same_word word (codes "v") v)) (step_reads arcs read lines fields stands)
              | inr no_v ↦ said_reads read lines (word ∷ fields) Silent (other_matches read.arcs (before_of lines) read word fields plain no_p no_k no_t no_v)
            ]
          ]
        ]
      ]
    ]

reads : (arcs : ℕ) (read : TableRead) (lines : List Line) (line : Line) → arcs < 2 ^ 64 → Stands arcs read lines → (next : TableRead) × Matches (line_fault (table_format arcs) (before_of lines) line) (table_step read line) next
reads arcs read lines line low stands =
    subst (λ (n : ℕ). (next : TableRead) × Matches (line_fault (table_format n) (before_of lines) line) (table_step read line) next) stands.arcs_are (reads_line arcs read lines line low stands)

-- ---- the end

enough_match : (kinds assigned none late : Bool) (t : Table) → none ≡ false
    → Matches (cond (kinds || (assigned || (none || false))) (Some TooFewLines) (cond late (Some TooFewLines) None)) (cond kinds (Err TooFewLines) (cond assigned (Err TooFewLines) (cond late (Err TooFewLines) (Ok t)))) t
enough_match true assigned none late t e = refl
enough_match false true none late t e = refl
enough_match false false true late t e = cc
enough_match false false false true t e = refl
enough_match false false false false t e = refl

end_matches : (arcs : ℕ) (problem : Option Line) (count : List ℕ → ℕ) (run : Run) (size : Option TableSize) (table : Table) (n : ℕ) → size ≡ option_map size_said problem → length table.kinds ≡ count (codes "k") → length table.assigned ≡ count (codes "t") → run ≡ run_in table
    → (t : Table) × Matches (end_fault (table_format arcs) (came problem count run)) (table_end (reader n size table)) t
unfolding table_end end_fault
end_matches arcs None count run None table n e h i told = (table, refl)
end_matches arcs None count run (Some size) table n e h i told = cc
end_matches arcs (Some line) count run None table n e h i told = cc
end_matches arcs (Some line) count run (Some size) table n e h i told =
    let same : size ≡ size_said line = cc in
    let answer : Result Table FaultKind = cond (ltb (length table.kinds) size.kinds) (Err TooFewLines) (cond (ltb (length table.assigned) size.assigned) (Err TooFewLines) (cond (ltb 0 (due (run_in table))) (Err TooFewLines) (Ok table))) in
    let M : ℕ → ℕ → ℕ → ℕ → ℕ → Type 0 = λ a x b y d. Matches (cond (ltb a x || (ltb b y || (ltb (count (codes "v")) 0 || false))) (Some TooFewLines) (cond (ltb 0 d) (Some TooFewLines) None)) answer table in (
      table,
      subst (λ (s : TableSize). M (count (codes "k")) s.kinds (count (codes "t")) s.assigned (due run)) same
          (subst (λ (a : ℕ). M a size.kinds (count (codes "t")) size.assigned (due run)) h
          (subst (λ (b : ℕ). M (length table.kinds) size.kinds b size.assigned (due run)) i
          (subst (λ (r : Run). M (length table.kinds) size.kinds (length table.assigned) size.assigned (due r)) (sym told)
          (enough_match (ltb (length table.kinds) size.kinds) (ltb (length table.assigned) size.assigned) (ltb (count (codes "v")) 0) (ltb 0 (due (run_in table))) table (le-ltb (count (codes "v")) 0 (omega arith)))))),
    )

nothing_stands : (arcs : ℕ) → Stands arcs (no_table arcs) []
nothing_stands arcs = record { arcs_are = refl; size = refl; kinds = refl; assigned = refl; run = refl; first = omega arith; small = λ line h. cc; empty = λ h. refl; idle = λ h. refl }

-- Reading a timetable follows its checks.
pub table_follows : (arcs : ℕ) → arcs < 2 ^ 64 → Follows (table_format arcs) table_step table_end (no_table arcs)
table_follows arcs low = record {
  Stands = Stands arcs;
  starts = nothing_stands arcs;
  reads = λ read lines line stands. reads arcs read lines line low stands;
  goes_on = λ read next lines line stands e. goes_on arcs read next lines line low stands e;
  ends = λ read lines stands. end_matches arcs (find (begins_with (codes "p")) lines) (λ w. count_by (begins_with w) lines) (run_of_lines no_run lines) read.size read.table read.arcs stands.size stands.kinds stands.assigned stands.run;
}
