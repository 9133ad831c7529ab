-- The meaning of a timetable's line is in its first seven fields.
use Rattle.std.specs.Prelude.{◌≡◌, ℕ, ◌+◌, List, [], ◌∷◌, take, length, refl, codes, Option, Some, None, Ok, Err}
use Rattle.std.proofs.Common.{Bool, true, false, cond}
use Rattle.std.specs.Str.{bytes_eq}
use Rattle.ea_blocks.specs.Fault.{◌>>=◌}
use Rattle.ea_input.specs.Listing.{after_kinds}
use Rattle.ea_input.specs.Table.{TableRead, size_of, problem_line, plain_of, every_of, closed_of, rush_of, speeds_of, trips_of, points_of, kind_of, kind_line, assigned_of, assigned_line, step_line, due_in, run_in, table_line, table_step, after_said}
use Rattle.ea_input.specs.StepLines.{Run, step_of}
use Rattle.ea_blocks.specs.declared.fault.FaultKind.TheVariants.{BadKind}
use Rattle.ea_input.specs.declared.timetable.TableSize.{TableSize}
use Rattle.ea_input.specs.declared.timetable.TableLine.TheVariants.{Problem}

size_of-front : (fields : List (List ℕ)) → size_of (take 5 fields) ≡ size_of fields
unfolding size_of
size_of-front [] = refl
size_of-front (k ∷ []) = refl
size_of-front (k ∷ t ∷ []) = refl
size_of-front (k ∷ t ∷ x ∷ rest) = refl

chosen : (b : Bool) (fields : List (List ℕ)) → ((cond b (Ok (take 5 fields)) (Err BadKind)) >>= λ numbers. size_of numbers >>= λ size. Ok (Problem size)) ≡ ((cond b (Ok fields) (Err BadKind)) >>= λ numbers. size_of numbers >>= λ size. Ok (Problem size))
chosen true fields = rw (size_of-front fields) refl
chosen false fields = refl

problem_line-front : (size : Option TableSize) (fields : List (List ℕ)) → problem_line size (take 6 fields) ≡ problem_line size fields
unfolding problem_line after_kinds
problem_line-front (Some size) fields = refl
problem_line-front None [] = refl
problem_line-front None (tp ∷ fields) = chosen (bytes_eq tp (codes "tp")) fields

plain_of-front : (number : ℕ) (j : List ℕ) (fields : List (List ℕ)) → plain_of number j (take 4 fields) ≡ plain_of number j fields
unfolding plain_of
plain_of-front number j [] = refl
plain_of-front number j (x ∷ rest) = refl

every_of-front : (number : ℕ) (j : List ℕ) (fields : List (List ℕ)) → every_of number j (take 4 fields) ≡ every_of number j fields
unfolding every_of
every_of-front number j [] = refl
every_of-front number j (p ∷ []) = refl
every_of-front number j (p ∷ o ∷ []) = refl
every_of-front number j (p ∷ o ∷ x ∷ rest) = refl

closed_of-front : (number : ℕ) (j : List ℕ) (fields : List (List ℕ)) → closed_of number j (take 4 fields) ≡ closed_of number j fields
unfolding closed_of
closed_of-front number j [] = refl
closed_of-front number j (p ∷ []) = refl
closed_of-front number j (p ∷ o ∷ []) = refl
closed_of-front number j (p ∷ o ∷ x ∷ rest) = refl

rush_of-front : (number : ℕ) (j : List ℕ) (fields : List (List ℕ)) → rush_of number j (take 4 fields) ≡ rush_of number j fields
unfolding rush_of
rush_of-front number j [] = refl
rush_of-front number j (b ∷ []) = refl
rush_of-front number j (b ∷ e ∷ []) = refl
rush_of-front number j (b ∷ e ∷ x ∷ []) = refl
rush_of-front number j (b ∷ e ∷ x ∷ y ∷ rest) = refl

speeds_of-front : (number before : ℕ) (j : List ℕ) (fields : List (List ℕ)) → speeds_of number before j (take 4 fields) ≡ speeds_of number before j fields
unfolding speeds_of
speeds_of-front number before j [] = refl
speeds_of-front number before j (p ∷ []) = refl
speeds_of-front number before j (p ∷ n ∷ []) = refl
speeds_of-front number before j (p ∷ n ∷ x ∷ rest) = refl

trips_of-front : (number before : ℕ) (j : List ℕ) (fields : List (List ℕ)) → trips_of number before j (take 4 fields) ≡ trips_of number before j fields
unfolding trips_of
trips_of-front number before j [] = refl
trips_of-front number before j (p ∷ []) = refl
trips_of-front number before j (p ∷ n ∷ []) = refl
trips_of-front number before j (p ∷ n ∷ x ∷ rest) = refl

points_of-front : (number before : ℕ) (j : List ℕ) (fields : List (List ℕ)) → points_of number before j (take 4 fields) ≡ points_of number before j fields
unfolding points_of
points_of-front number before j [] = refl
points_of-front number before j (p ∷ []) = refl
points_of-front number before j (p ∷ n ∷ []) = refl
points_of-front number before j (p ∷ n ∷ x ∷ rest) = refl

kind_of-front : (number before : ℕ) (fields : List (List ℕ)) → kind_of number before (take 6 fields) ≡ kind_of number before fields
unfolding kind_of
kind_of-front number before [] = refl
kind_of-front number before (j ∷ []) = refl
kind_of-front number before (j ∷ name ∷ fields) =
    rw (plain_of-front number j fields, every_of-front number j fields, closed_of-front number j fields, rush_of-front number j fields, speeds_of-front number before j fields, trips_of-front number before j fields, points_of-front number before j fields) refl

kind_line-front : (size : Option TableSize) (due count before : ℕ) (fields : List (List ℕ)) → kind_line size due count before (take 6 fields) ≡ kind_line size due count before fields
unfolding kind_line
kind_line-front None due count before fields = refl
kind_line-front (Some size) due count before fields = rw (kind_of-front (count + 1) before fields) refl

assigned_of-front : (arcs classes : ℕ) (fields : List (List ℕ)) → assigned_of arcs classes (take 6 fields) ≡ assigned_of arcs classes fields
unfolding assigned_of
assigned_of-front arcs classes [] = refl
assigned_of-front arcs classes (e ∷ []) = refl
assigned_of-front arcs classes (e ∷ j ∷ []) = refl
assigned_of-front arcs classes (e ∷ j ∷ x ∷ rest) = refl

assigned_line-front : (arcs : ℕ) (size : Option TableSize) (due count : ℕ) (fields : List (List ℕ)) → assigned_line arcs size due count (take 6 fields) ≡ assigned_line arcs size due count fields
unfolding assigned_line
assigned_line-front arcs None due count fields = refl
assigned_line-front arcs (Some size) due count fields = rw (assigned_of-front arcs size.kinds fields) refl

step_of-front : (run : Run) (fields : List (List ℕ)) → step_of run (take 6 fields) ≡ step_of run fields
unfolding step_of
step_of-front run [] = refl
step_of-front run (t ∷ []) = refl
step_of-front run (t ∷ x ∷ []) = refl
step_of-front run (t ∷ x ∷ y ∷ rest) = refl

step_line-front : (size : Option TableSize) (run : Run) (fields : List (List ℕ)) → step_line size run (take 6 fields) ≡ step_line size run fields
unfolding step_line
step_line-front None run fields = refl
step_line-front (Some size) run fields = rw (step_of-front run fields) refl

table_line-front : (read : TableRead) (fields : List (List ℕ)) → table_line read (take 7 fields) ≡ table_line read fields
unfolding table_line
table_line-front read [] = refl
table_line-front read (first ∷ fields) =
    rw (problem_line-front read.size fields, kind_line-front read.size (due_in read) (length read.table.kinds) (length read.table.steps) fields, assigned_line-front read.arcs read.size (due_in read) (length read.table.assigned) fields, step_line-front read.size (run_in read.table) fields) refl

pub table_step-front : (read : TableRead) (fields : List (List ℕ)) → table_step read (take 7 fields) ≡ table_step read fields
unfolding table_step after_said
table_step-front read fields = rw (table_line-front read fields) refl
