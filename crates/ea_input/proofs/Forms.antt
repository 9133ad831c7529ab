-- Reading numbers by the checks is testing them one by one.
use Rattle.std.proofs.Common.{◌≡◌, ℕ, ◌<◌, ◌≤◌, ◌^◌, ◌&&◌, min, Bool, true, false, cond, refl, ap, ◌∙◌, arith, tests, List, [], ◌∷◌, leb, lit<}
use Rattle.std.specs.List.{list_all}
use Rattle.std.specs.Prelude.{Option, Some, None, Result, Ok, Err, is_some, unwrap_or}
use Rattle.std.specs.Option.{ok_or, option_map}
use Rattle.std.proofs.lemmas.Bool.{leb-true}
use Rattle.ea_bytes.specs.Text.{number_of}
use Rattle.ea_blocks.specs.Fault.{◌>>=◌, numeral, within}
use Rattle.ea_input.specs.Checks.{is_number, value_of, lies_in}
use Rattle.ea_input.specs.Graph.{size_read, arc_read, arc_within}
use Rattle.ea_input.specs.Listing.{only_number}
use Rattle.ea_input.specs.Pairs.{pair_read}
use Rattle.ea_input.proofs.Numbered.{and_ok}
use Rattle.ea_blocks.specs.declared.fault.FaultKind.{FaultKind}
use Rattle.ea_blocks.specs.declared.fault.FaultKind.TheVariants.{BadNumber, OutOfRange}

-- What passes two tests, or the fault of the first that fails.
abbrev pub tested : {A : Type 0} → Bool → Bool → A → Result A FaultKind
tested numbers ranges x = cond numbers (cond ranges (Ok x) (Err OutOfRange)) (Err BadNumber)

capped_then : {A : Type 0} (o : Option ℕ) (g : ℕ → Result A FaultKind) (more : Bool) (z : Result A FaultKind) → g (min (unwrap_or o 0) (2 ^ 64)) ≡ cond more z (Err BadNumber)
    → (ok_or (option_map (λ n. min n (2 ^ 64)) o) BadNumber >>= g) ≡ cond (is_some o && more) z (Err BadNumber)
capped_then None g more z h = refl
capped_then (Some n) g more z h = h

-- A number, and then the rest.
pub number_then : {A : Type 0} (field : List ℕ) (g : ℕ → Result A FaultKind) (more : Bool) (z : Result A FaultKind) → g (min (value_of field) (2 ^ 64)) ≡ cond more z (Err BadNumber)
    → (numeral field >>= g) ≡ cond (is_number field && more) z (Err BadNumber)
unfolding numeral
number_then field g more z h = capped_then (number_of field) g more z h

both_cut : (low n high : ℕ) → high < 2 ^ 64 → (leb low (min n (2 ^ 64)) && leb (min n (2 ^ 64)) high) ≡ (leb low n && leb n high)
both_cut low n high small = grind (arith, tests)

guard_then : {A : Type 0} (b more : Bool) (n m : ℕ) (f : ℕ → Result A FaultKind) (y : A) → (b ≡ true → n ≡ m) → (b ≡ true → f m ≡ cond more (Ok y) (Err OutOfRange)) → (cond b (Ok n) (Err OutOfRange) >>= f) ≡ cond (b && more) (Ok y) (Err OutOfRange)
guard_then true more n m f y same h = ap f (same refl) ∙ h refl
guard_then false more n m f y same h = refl

-- A number in its range, and then the rest.
pub within_then : {A : Type 0} (low high n : ℕ) (f : ℕ → Result A FaultKind) (more : Bool) (y : A) → high < 2 ^ 64 → (low ≤ n → n ≤ high → f n ≡ cond more (Ok y) (Err OutOfRange))
    → (within low high (min n (2 ^ 64)) >>= f) ≡ cond ((leb low n && leb n high) && more) (Ok y) (Err OutOfRange)
unfolding within
within_then low high n f more y small h =
    ap (λ b. cond b (Ok (min n (2 ^ 64))) (Err OutOfRange) >>= f) (both_cut low n high small)
    ∙ guard_then (leb low n && leb n high) more (min n (2 ^ 64)) n f y
    (λ e. let most : n ≤ high = leb-true n high (and_ok (leb low n) (leb n high) e).1 in omega arith)
    (λ e. h (leb-true low n (and_ok (leb low n) (leb n high) e).0) (leb-true n high (and_ok (leb low n) (leb n high) e).1))

-- A number in its range that is the last one.
pub within_last : {A : Type 0} (low high n : ℕ) (f : ℕ → A) → high < 2 ^ 64 → (within low high (min n (2 ^ 64)) >>= λ m. Ok (f m)) ≡ cond ((leb low n && leb n high) && true) (Ok (f n)) (Err OutOfRange)
within_last low high n f small = within_then low high n (λ m. Ok (f m)) true (f n) small (λ p q. refl)

-- ---- graphs

pub size_form : (n m : List ℕ) → size_read n m ≡ tested (list_all is_number (n ∷ m ∷ [])) (list_all (λ fits. fits) (lies_in 1 67108864 n ∷ lies_in 0 268435456 m ∷ [])) (record { nodes = value_of n; arcs = value_of m })
unfolding size_read
size_form n m =
    number_then n _ _ _ (number_then m _ _ _ (within_then 1 67108864 (value_of n) _ _ _ (lit< tt) (λ p q. within_last 0 268435456 (value_of m) _ (lit< tt))))

pub arc_form : (nodes : ℕ) (u v w : List ℕ) → nodes < 2 ^ 64
    → arc_read nodes u v w ≡ tested (list_all is_number (u ∷ v ∷ w ∷ [])) (list_all (λ fits. fits) (lies_in 1 nodes u ∷ lies_in 1 nodes v ∷ lies_in 0 4294967295 w ∷ [])) (record { tail = value_of u; head = value_of v; weight = value_of w })
unfolding arc_read arc_within
arc_form nodes u v w small =
    number_then u _ _ _ (number_then v _ _ _ (number_then w _ _ _
    (within_then 1 nodes (value_of u) _ _ _ small (λ p q. within_then 1 nodes (value_of v) _ _ _ small (λ p' q'. within_last 0 4294967295 (value_of w) _ (lit< tt))))))

-- ---- sources and pairs

bind_unit : {A : Type 0} (r : Result A FaultKind) → r ≡ (r >>= λ x. Ok x)
bind_unit (Ok x) = refl
bind_unit (Err kind) = refl

pub one_form : (low high : ℕ) (field : List ℕ) → high < 2 ^ 64 → only_number low high (field ∷ []) ≡ tested (list_all is_number (field ∷ [])) (list_all (λ fits. fits) (lies_in low high field ∷ [])) (value_of field)
unfolding only_number
one_form low high field small = number_then field _ _ _ (bind_unit (within low high (min (value_of field) (2 ^ 64))) ∙ within_last low high (value_of field) _ small)

pub pair_form : (nodes : ℕ) (s t : List ℕ) → nodes < 2 ^ 64 → pair_read nodes s t ≡ tested (list_all is_number (s ∷ t ∷ [])) (list_all (λ fits. fits) (lies_in 1 nodes s ∷ lies_in 1 nodes t ∷ [])) (value_of s, value_of t)
unfolding pair_read
pair_form nodes s t small = number_then s _ _ _ (number_then t _ _ _ (within_then 1 nodes (value_of s) _ _ _ small (λ p q. within_last 1 nodes (value_of t) _ small)))
