-- Runs of plain lines that are read one beside another.
use Rattle.std.proofs.Common.{◌≡◌, ◌∙◌, refl, ℕ, ◌+◌, ◌-◌, ◌≤◌, List, [], ◌∷◌, ◌++◌, length, take, drop, arith, ap, sym, subst, append_assoc, length-append, length-drop, length-take}
use Rattle.std.proofs.lemmas.List.{drop-append-le, take-append-drop, take-take}
use Rattle.std.specs.Prelude.{Option, Some, None, IfSome}
use Rattle.ea_base.specs.declared.direction.Direction.{Direction}
use Rattle.ea_bytes.specs.Text.{field_lines}
use Rattle.ea_check.specs.declared.form.run.LinesFound.{LinesFound}
use Rattle.ea_check.specs.Form.{spoken_from}
use Rattle.ea_check.specs.Pieces.{AreFound, AreIn}
use Rattle.ea_check.specs.Reads.{NoWalkNext}
use Rattle.ea_check.specs.Runs.{BeginsWithNoWalk, IsRun, TakesTime}
use Rattle.ea_check.proofs.Runs.{rest_takes, run_both, run_on, take_both}
use Rattle.ea_check.proofs.SharedTexts.{drop_drop}

no_walk_on : (way : Direction) (text behind : List ℕ) → BeginsWithNoWalk way text → BeginsWithNoWalk way (text ++ behind)
no_walk_on way text behind quiet = λ more number. subst (λ (l : List ℕ). NoWalkNext (spoken_from way number (field_lines l))) (sym (append_assoc text behind more)) (quiet (behind ++ more) number)

-- What a part of a text begins with, the text begins with.
pub are_in_all : (way : Direction) (text : List ℕ) (size last : ℕ) (times : List ℕ) (found : LinesFound) → AreIn way (take size text) last times found → AreIn way text last times found
are_in_all way text size last times found are =
    let bytes = found.bytes in
    let long = length-take size text in
    let front : take bytes (take size text) ≡ take bytes text = take-take bytes size text (omega (arith, are.inside, long)) in
    let low : bytes ≤ length (take size text) = omega (arith, are.inside) in
    let back : drop bytes (take size text) ++ drop size text ≡ drop bytes text = sym (drop-append-le bytes (take size text) (drop size text) low) ∙ ap (λ (l : List ℕ). drop bytes l) (take-append-drop size text) in
    record {
      inside = omega (arith, are.inside, long);
      run = subst (IsRun way found.first times) front are.run;
      quiet = subst (BeginsWithNoWalk way) back (no_walk_on way (drop bytes (take size text)) (drop size text) are.quiet);
      few = are.few;
    }

pub found_in : (way : Direction) (text : List ℕ) (from size last : ℕ) (times : List ℕ) (found : Option LinesFound) → IfSome found (λ f. AreIn way (take size (drop from text)) last times f) → AreFound way text last times from found
found_in way text from size last times None are = tt
found_in way text from size last times (Some found) are = are_in_all way (drop from text) size last times found are

-- The lines of a part, behind a line that ends at its first byte.
pub joined : (way : Direction) (text : List ℕ) (last : ℕ) (before found : LinesFound) (times more new : List ℕ) (time size node from : ℕ) → AreIn way text last times before → AreIn way (drop from text) last more found
    → TakesTime way node time (take (length text - before.bytes) (drop before.bytes text)) size → node ≡ before.first + length times → before.bytes + size ≡ from → node + 1 ≡ found.first → new ≡ (times ++ time ∷ []) ++ more
    → AreIn way text last new (record { first = before.first; bytes = from + found.bytes })
joined way text last before found times more new time size node from was are takes here ends next grown =
    let first = before.first in
    let bytes = before.bytes in
    let line = rest_takes way (first + length times) node time text bytes size here takes in
    let on : IsRun way first (times ++ time ∷ []) (take from text) = subst (λ n. IsRun way first (times ++ time ∷ []) (take n text)) ends (run_on way first times (times ++ time ∷ []) time text bytes size refl was.run line) in
    let longer = length-append times (time ∷ []) in
    let there : IsRun way (first + length (times ++ time ∷ [])) more (take found.bytes (drop from text)) = subst (λ n. IsRun way n more (take found.bytes (drop from text))) (omega (arith, here, next, longer)) are.run in
    let all : IsRun way first ((times ++ time ∷ []) ++ more) (take from text ++ take found.bytes (drop from text)) = run_both way first (times ++ time ∷ []) more (take from text) (take found.bytes (drop from text)) on there in
    record {
      inside = omega (arith, are.inside, length-drop from text);
      run = subst (λ (ts : List ℕ). IsRun way first ts (take (from + found.bytes) text)) (sym grown) (subst (IsRun way first ((times ++ time ∷ []) ++ more)) (take_both from found.bytes text) all);
      quiet = subst (BeginsWithNoWalk way) (drop_drop from found.bytes text) are.quiet;
      few = omega (arith, are.few, here, next, longer, ap (λ (l : List ℕ). length l) grown, length-append (times ++ time ∷ []) more);
    }

-- What was found at the front of a text.
pub found_near : (way : Direction) (text : List ℕ) (near first last : ℕ) (times : List ℕ) (found : Option ℕ) → IfSome found (λ bytes. AreIn way (take near text) last times (record { first = first; bytes = bytes }))
    → IfSome found (λ bytes. AreIn way text last times (record { first = first; bytes = bytes }))
found_near way text near first last times None read = tt
found_near way text near first last times (Some bytes) read = are_in_all way text near last times (record { first = first; bytes = bytes }) read
