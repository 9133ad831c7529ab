-- Lines of a text that is read whole, one by one.
use Rattle.std.proofs.Common.{◌≡◌, ℕ, ◌+◌, List, [], ◌∷◌, ap, ◌∙◌}
use Rattle.std.specs.Prelude.{Result, Ok, Err}
use Rattle.ea_blocks.specs.Fault.{◌>>=◌, in_line}
use Rattle.ea_blocks.specs.Reading.{lines_after}
use Rattle.ea_input.proofs.Numbered.{bind_ok}
use Rattle.ea_blocks.specs.declared.fault.FaultKind.{FaultKind}
use Rattle.ea_blocks.specs.declared.fault.InputFault.{InputFault}

pub in_line_ok : {X : Type 0} (line : ℕ) (r : Result X FaultKind) (x : X) → in_line line r ≡ Ok x → r ≡ Ok x
in_line_ok line (Ok y) x e = let same : y ≡ x = cc in ap (λ z. Ok z) same
in_line_ok line (Err k) x e = cc

-- What the rest of a text denotes, from a state on.
abbrev pub rest_of : {S X : Type 0} → (S → List (List ℕ) → Result S FaultKind) → (S → Result X FaultKind) → ℕ → S → List (List (List ℕ)) → Result X InputFault
rest_of step end n s lines = lines_after step n s lines >>= λ t. in_line 0 (end t)

-- A line that is read gives a state, and the rest is read after it.
pub one_line : {S X : Type 0} (step : S → List (List ℕ) → Result S FaultKind) (end : S → Result X FaultKind) (n : ℕ) (s : S) (line : List (List ℕ)) (lines : List (List (List ℕ))) (x : X) → rest_of step end n s (line ∷ lines) ≡ Ok x → (next : S) × (step s line ≡ Ok next) × (rest_of step end (n + 1) next lines ≡ Ok x)
unfolding lines_after
one_line step end n s line lines x e =
    let last = bind_ok (in_line (n + 1) (step s line) >>= λ next. lines_after step (n + 1) next lines) (λ t. in_line 0 (end t)) x e in
    let next = bind_ok (in_line (n + 1) (step s line)) (λ next. lines_after step (n + 1) next lines) last.0 last.1 in
    (next.0, in_line_ok (n + 1) (step s line) next.0 next.1, ap (λ r. r >>= λ t. in_line 0 (end t)) next.2 ∙ last.2)

-- The same the other way.
pub next_line : {S X : Type 0} (step : S → List (List ℕ) → Result S FaultKind) (end : S → Result X FaultKind) (n : ℕ) (s next : S) (line : List (List ℕ)) (lines : List (List (List ℕ))) → step s line ≡ Ok next → rest_of step end n s (line ∷ lines) ≡ rest_of step end (n + 1) next lines
unfolding lines_after
next_line step end n s next line lines e = ap (λ r. (in_line (n + 1) r >>= λ t. lines_after step (n + 1) t lines) >>= λ t. in_line 0 (end t)) e

-- At the end.
pub no_line : {S X : Type 0} (step : S → List (List ℕ) → Result S FaultKind) (end : S → Result X FaultKind) (n : ℕ) (s : S) (x : X) → rest_of step end n s [] ≡ Ok x → end s ≡ Ok x
unfolding lines_after
no_line step end n s x e = in_line_ok 0 (end s) x e

pub at_end : {S X : Type 0} (step : S → List (List ℕ) → Result S FaultKind) (end : S → Result X FaultKind) (n : ℕ) (s : S) (x : X) → end s ≡ Ok x → rest_of step end n s [] ≡ Ok x
unfolding lines_after
at_end step end n s x e = ap (in_line 0) e
