-- Reading the numbers of a timetable's lines is testing them one by one.
use Rattle.std.proofs.Common.{◌≡◌, ℕ, ◌+◌, ◌-◌, ◌<◌, ◌^◌, ◌&&◌, min, Bool, true, cond, refl, ◌∙◌, arith, List, [], ◌∷◌, leb, lit<}
use Rattle.std.specs.List.{list_all}
use Rattle.std.specs.Prelude.{Result, Ok, Err, codes}
use Rattle.ea_blocks.specs.Fault.{◌>>=◌, numeral, within}
use Rattle.ea_input.specs.Checks.{is_number, value_of, lies_in}
use Rattle.ea_input.specs.Formats.{interval_ranges, step_ranges}
use Rattle.ea_input.specs.Table.{size_read, two_read, interval_within, numbered, plain_of, every_within, every_read, closed_within, closed_read, rush_within, rush_read, speeds_within, speeds_read, trips_within, trips_read, points_within, points_read, assigned_within, assigned_of}
use Rattle.ea_input.specs.StepLines.{Run, least_time, most_time, least_value, most_value, step_within, step_read}
use Rattle.ea_input.proofs.TableSaid.{time_small, value_small}
use Rattle.ea_input.proofs.Forms.{tested, number_then, within_then, within_last}
use Rattle.ea_blocks.specs.declared.fault.FaultKind.{FaultKind}
use Rattle.ea_blocks.specs.declared.fault.FaultKind.TheVariants.{BadNumber, OutOfRange}
use Rattle.ea_base.specs.declared.timetable.RawKind.TheVariants.{Plain, Every, Closed, Rush, Speeds, Trips, Points}

bind_assoc : {A B C : Type 0} (r : Result A FaultKind) (f : A → Result B FaultKind) (g : B → Result C FaultKind) → ((r >>= f) >>= g) ≡ (r >>= λ x. f x >>= g)
bind_assoc (Ok x) f g = refl
bind_assoc (Err kind) f g = refl

-- Two numbers, and then the rest.
two_then : {A : Type 0} (a b : List ℕ) (g : ℕ × ℕ → Result A FaultKind) (more : Bool) (z : Result A FaultKind) → g (min (value_of a) (2 ^ 64), min (value_of b) (2 ^ 64)) ≡ cond more z (Err BadNumber)
    → (two_read a b >>= g) ≡ cond (is_number a && (is_number b && more)) z (Err BadNumber)
unfolding two_read
two_then a b g more z h =
    bind_assoc (numeral a) (λ m. numeral b >>= λ n. Ok (m, n)) g
    ∙ number_then a _ _ _ (bind_assoc (numeral b) (λ n. Ok (min (value_of a) (2 ^ 64), n)) g ∙ number_then b _ _ _ h)

-- An interval, and then the rest.
interval_then : {A : Type 0} (m n : ℕ) (g : ℕ × ℕ → Result A FaultKind) (more : Bool) (y : A) → g (m, n) ≡ cond more (Ok y) (Err OutOfRange)
    → (interval_within (min m (2 ^ 64)) (min n (2 ^ 64)) >>= g) ≡ cond ((leb 0 m && leb m 281474976710654) && ((leb (m + 1) n && leb n 281474976710655) && more)) (Ok y) (Err OutOfRange)
unfolding interval_within
interval_then m n g more y h =
    bind_assoc (within 0 281474976710654 (min m (2 ^ 64))) (λ lo. within (lo + 1) 281474976710655 (min n (2 ^ 64)) >>= λ hi. Ok (lo, hi)) g
    ∙ within_then 0 281474976710654 m _ _ _ (lit< tt) (λ p q. bind_assoc (within (m + 1) 281474976710655 (min n (2 ^ 64))) (λ hi. Ok (m, hi)) g
    ∙ within_then (m + 1) 281474976710655 n _ _ _ (lit< tt) (λ p' q'. h))

pub size_form : (k t : List ℕ) → size_read k t ≡ tested (list_all is_number (k ∷ t ∷ [])) (list_all (λ fits. fits) (lies_in 0 65535 k ∷ lies_in 0 268435456 t ∷ [])) (record { kinds = value_of k; assigned = value_of t })
unfolding size_read
size_form k t = number_then k _ _ _ (number_then t _ _ _ (within_then 0 65535 (value_of k) _ _ _ (lit< tt) (λ p q. within_last 0 268435456 (value_of t) _ (lit< tt))))

pub plain_form : (number : ℕ) (j : List ℕ) → number < 2 ^ 64 → plain_of number j [] ≡ tested (list_all is_number (j ∷ [])) (list_all (λ fits. fits) (lies_in number number j ∷ [])) Plain
unfolding plain_of numbered
plain_form number j small = bind_assoc (numeral j) (λ n. within number number n) (λ n. Ok Plain) ∙ number_then j _ _ _ (within_last number number (value_of j) (λ n. Plain) small)

pub every_form : (number : ℕ) (j p o : List ℕ) → number < 2 ^ 64
    → every_read number j p o ≡ tested (list_all is_number (j ∷ p ∷ o ∷ [])) (list_all (λ fits. fits) (lies_in number number j ∷ lies_in 1 4294967296 p ∷ lies_in 0 (value_of p - 1) o ∷ [])) (Every (value_of p) (value_of o))
unfolding every_read every_within
every_form number j p o small =
    number_then j _ _ _ (two_then p o _ true _ (within_then number number (value_of j) _ _ _ small (λ a b. within_then 1 4294967296 (value_of p) _ _ _ (lit< tt) (λ low high. within_last 0 (value_of p - 1) (value_of o) _ (omega arith)))))

pub closed_form : (number : ℕ) (j b e : List ℕ) → number < 2 ^ 64
    → closed_read number j b e ≡ tested (list_all is_number (j ∷ b ∷ e ∷ [])) (list_all (λ fits. fits) (lies_in number number j ∷ interval_ranges b e [])) (Closed (value_of b) (value_of e))
unfolding closed_read closed_within
closed_form number j b e small =
    number_then j _ _ _ (two_then b e _ true _ (within_then number number (value_of j) _ _ _ small (λ p q. interval_then (value_of b) (value_of e) _ true _ refl)))

pub rush_form : (number : ℕ) (j b e x : List ℕ) → number < 2 ^ 64
    → rush_read number j b e x ≡ tested (list_all is_number (j ∷ b ∷ e ∷ x ∷ [])) (list_all (λ fits. fits) (lies_in number number j ∷ interval_ranges b e (lies_in 0 4294967296 x ∷ []))) (Rush (value_of b) (value_of e) (value_of x))
unfolding rush_read rush_within
rush_form number j b e x small =
    number_then j _ _ _ (two_then b e _ _ _ (number_then x _ _ _ (within_then number number (value_of j) _ _ _ small (λ p q. interval_then (value_of b) (value_of e) _ _ _ (within_last 0 4294967296 (value_of x) _ (lit< tt))))))

pub speeds_form : (number before : ℕ) (j p c : List ℕ) → number < 2 ^ 64
    → speeds_read number before j p c ≡ tested (list_all is_number (j ∷ p ∷ c ∷ [])) (list_all (λ fits. fits) (lies_in number number j ∷ lies_in 1 4294967296 p ∷ lies_in 1 65536 c ∷ [])) (Speeds (value_of p) before (value_of c))
unfolding speeds_read speeds_within
speeds_form number before j p c small =
    number_then j _ _ _ (two_then p c _ true _ (within_then number number (value_of j) _ _ _ small (λ a b. within_then 1 4294967296 (value_of p) _ _ _ (lit< tt) (λ low high. within_last 1 65536 (value_of c) _ (lit< tt)))))

pub trips_form : (number before : ℕ) (j p c : List ℕ) → number < 2 ^ 64
    → trips_read number before j p c ≡ tested (list_all is_number (j ∷ p ∷ c ∷ [])) (list_all (λ fits. fits) (lies_in number number j ∷ lies_in 0 4294967296 p ∷ lies_in 1 65536 c ∷ [])) (Trips (value_of p) before (value_of c))
unfolding trips_read trips_within
trips_form number before j p c small =
    number_then j _ _ _ (two_then p c _ true _ (within_then number number (value_of j) _ _ _ small (λ a b. within_then 0 4294967296 (value_of p) _ _ _ (lit< tt) (λ low high. within_last 1 65536 (value_of c) _ (lit< tt)))))

pub points_form : (number before : ℕ) (j p c : List ℕ) → number < 2 ^ 64
    → points_read number before j p c ≡ tested (list_all is_number (j ∷ p ∷ c ∷ [])) (list_all (λ fits. fits) (lies_in number number j ∷ lies_in 0 4294967296 p ∷ lies_in 1 65536 c ∷ [])) (Points (value_of p) before (value_of c))
unfolding points_read points_within
points_form number before j p c small =
    number_then j _ _ _ (two_then p c _ true _ (within_then number number (value_of j) _ _ _ small (λ a b. within_then 0 4294967296 (value_of p) _ _ _ (lit< tt) (λ low high. within_last 1 65536 (value_of c) _ (lit< tt)))))

pub step_form : (run : Run) (t x : List ℕ) → step_read run t x ≡ tested (list_all is_number (t ∷ x ∷ [])) (list_all (λ fits. fits) (step_ranges run (codes "v" ∷ t ∷ x ∷ []))) (value_of t, value_of x)
unfolding step_read step_within
step_form run t x =
    number_then t _ _ _ (number_then x _ _ _ (within_then (least_time run) (most_time run) (value_of t) _ _ _ (time_small run) (λ p q. within_last (least_value run (value_of t)) (most_value run (value_of t)) (value_of x) _ (value_small run (value_of t)))))

pub assigned_form : (arcs classes : ℕ) (e j : List ℕ) → arcs < 2 ^ 64 → classes < 2 ^ 64
    → assigned_of arcs classes (e ∷ j ∷ []) ≡ tested (list_all is_number (e ∷ j ∷ [])) (list_all (λ fits. fits) (lies_in 1 arcs e ∷ lies_in 0 classes j ∷ [])) (value_of e, value_of j)
unfolding assigned_of assigned_within
assigned_form arcs classes e j small low =
    two_then e j _ true _ (within_then 1 arcs (value_of e) _ _ _ small (λ p q. within_last 0 classes (value_of j) _ low))
