-- The result of reading a text line by line is what its checks say.
use Rattle.std.proofs.Common.{◌≡◌, ◌⊎◌, inl, inr, ℕ, ◌+◌, refl, ap, ap₂, sym, ◌∙◌, subst, arith, List, [], ◌∷◌, ◌++◌, length, append-nil, append_assoc, length-append}
use Rattle.std.specs.Prelude.{Option, Some, None, Result, Ok, Err, MatchResult}
use Rattle.ea_blocks.specs.Fault.{◌>>=◌, in_line}
use Rattle.ea_blocks.specs.Reading.{lines_after, text_after}
use Rattle.ea_input.specs.Checks.{Line, Format, before_of, line_fault, end_fault, NoLineHasFault, IsLineFault, IsEndFault, IsFaultOf}
use Rattle.ea_input.proofs.OneByOne.{rest_of, next_line}
use Rattle.ea_blocks.specs.declared.fault.FaultKind.{FaultKind}
use Rattle.ea_blocks.specs.declared.fault.InputFault.{InputFault}

-- What the checks say, and what reading gives.
abbrev pub Matches : {X : Type 0} → Option FaultKind → Result X FaultKind → X → Type 0
Matches None r x = r ≡ Ok x
Matches (Some kind) r x = r ≡ Err kind

-- A reader's states represent the lines read, and its steps follow a file's checks.
pub record Follows {S X : Type 0} (format : Format) (step : S → Line → Result S FaultKind) (end : S → Result X FaultKind) (start : S) : Type 1 where
  pub Stands : S → List Line → Type 0
  pub starts : Stands start []
  pub reads : (s : S) (lines : List Line) (line : Line) → Stands s lines → (next : S) × Matches (line_fault format (before_of lines) line) (step s line) next
  pub goes_on : (s next : S) (lines : List Line) (line : Line) → Stands s lines → step s line ≡ Ok next → Stands next (lines ++ line ∷ [])
  pub ends : (s : S) (lines : List Line) → Stands s lines → (x : X) × Matches (end_fault format (before_of lines)) (end s) x

-- ---- lists cut at a line

record Longer {A : Type 0} (a b : List A) (y : A) : Type 0 where
  more : List A
  is : a ≡ b ++ y ∷ more

-- Two cuts of one list are one, or one is behind the other.
cuts : {A : Type 0} (a b : List A) (x y : A) (as_ bs : List A) → a ++ x ∷ as_ ≡ b ++ y ∷ bs → ((a ≡ b) × (x ≡ y)) ⊎ (Longer a b y ⊎ Longer b a x)
cuts [] [] x y as_ bs e = let same : x ≡ y = cc in inl (refl, same)
cuts [] (c ∷ b) x y as_ bs e = let same : c ≡ x = cc in inr (inr (record { more = b; is = ap (λ z. z ∷ b) same }))
cuts (c ∷ a) [] x y as_ bs e = let same : c ≡ y = cc in inr (inl (record { more = a; is = ap (λ z. z ∷ a) same }))
cuts (c ∷ a) (d ∷ b) x y as_ bs e =
    let head : c ≡ d = cc in
    let tail : a ++ x ∷ as_ ≡ b ++ y ∷ bs = cc in
    elim (cuts a b x y as_ bs tail) [
      | inl same ↦ let all : c ∷ a ≡ d ∷ b = cc (head, same.0) in inl (all, same.1)
      | inr (inl longer) ↦ let all : c ∷ a ≡ (d ∷ b) ++ y ∷ longer.more = cc (head, longer.is) in inr (inl (record { more = longer.more; is = all }))
      | inr (inr longer) ↦ let all : d ∷ b ≡ (c ∷ a) ++ x ∷ longer.more = cc (head, longer.is) in inr (inr (record { more = longer.more; is = all }))
    ]

not_shorter : {A : Type 0} (b : List A) (y : A) (more : List A) → [] ≡ b ++ y ∷ more → ⊥
not_shorter [] y more e = cc
not_shorter (c ∷ b) y more e = cc

-- One more line without a fault.
pub sound_more : (format : Format) (lines : List Line) (line : Line) → NoLineHasFault format lines → line_fault format (before_of lines) line ≡ None → NoLineHasFault format (lines ++ line ∷ [])
sound_more format lines line sound fine before after other e = elim (cuts lines before line other [] after e) [
  | inl same ↦ subst (λ (p : List Line). line_fault format (before_of p) other ≡ None) same.0 (subst (λ (l : Line). line_fault format (before_of lines) l ≡ None) same.1 fine)
  | inr (inl longer) ↦ sound before longer.more other longer.is
  | inr (inr longer) ↦ absurd (omega (arith, ap length e, ap length longer.is, length-append lines (line ∷ []), length-append before (other ∷ after), length-append lines (line ∷ longer.more)))
]

pub no_lines : (format : Format) → NoLineHasFault format []
no_lines format before after line e = absurd (not_shorter before line after e)

-- ---- reading on from a state

-- The result of a text: lines without a fault, or a fault.
abbrev pub Outcome : {X : Type 0} → Format → List Line → Result X InputFault → Type 0
Outcome format lines r = MatchResult r (λ x. NoLineHasFault format lines × (end_fault format (before_of lines) ≡ None)) (λ fault. IsFaultOf format lines fault)

at_end : {S X : Type 0} (format : Format) (end : S → Result X FaultKind) (s : S) (lines : List Line) (x : X) (found : Option FaultKind) → end_fault format (before_of lines) ≡ found → Matches found (end s) x → NoLineHasFault format lines → Outcome format lines (in_line 0 (end s))
at_end format end s lines x None is said sound = subst (λ r. Outcome format lines (in_line 0 r)) (sym said) (sound, is)
at_end format end s lines x (Some kind) is said sound = subst (λ r. Outcome format lines (in_line 0 r)) (sym said) (inr (record { sound = sound; fails = is; whole = refl }))

stops : {S X : Type 0} (step : S → Line → Result S FaultKind) (end : S → Result X FaultKind) (n : ℕ) (s : S) (line : Line) (lines : List Line) (kind : FaultKind) → step s line ≡ Err kind → rest_of step end n s (line ∷ lines) ≡ Err (record { line = n + 1; kind = kind })
unfolding lines_after
stops step end n s line lines kind e = ap (λ r. (in_line (n + 1) r >>= λ t. lines_after step (n + 1) t lines) >>= λ t. in_line 0 (end t)) e

at_line : {S X : Type 0} (format : Format) (step : S → Line → Result S FaultKind) (end : S → Result X FaultKind) (n : ℕ) (s next : S) (before : List Line) (line : Line) (lines : List Line) (found : Option FaultKind)
    → n ≡ length before → line_fault format (before_of before) line ≡ found → Matches found (step s line) next → NoLineHasFault format before
    → (step s line ≡ Ok next → line_fault format (before_of before) line ≡ None → Outcome format ((before ++ line ∷ []) ++ lines) (rest_of step end (n + 1) next lines))
    → Outcome format (before ++ line ∷ lines) (rest_of step end n s (line ∷ lines))
at_line format step end n s next before line lines None count is said sound rest =
    let joined : (before ++ line ∷ []) ++ lines ≡ before ++ line ∷ lines = append_assoc before (line ∷ []) lines in
    subst (λ r. Outcome format (before ++ line ∷ lines) r) (sym (next_line step end n s next line lines said))
    (subst (λ (all : List Line). Outcome format all (rest_of step end (n + 1) next lines)) joined (rest said is))
at_line format step end n s next before line lines (Some kind) count is said sound rest =
    subst (λ r. Outcome format (before ++ line ∷ lines) r) (sym (stops step end n s line lines kind said))
    (inl (record { before = before; line = line; after = lines; cut = refl; first = sound; fails = is; counted = ap (λ k. k + 1) count }))

outcome : {S X : Type 0} (format : Format) (step : S → Line → Result S FaultKind) (end : S → Result X FaultKind) (start : S) (follows : Follows format step end start) (lines : List Line) (n : ℕ) (s : S) (before : List Line)
    → n ≡ length before → follows.Stands s before → NoLineHasFault format before → Outcome format (before ++ lines) (rest_of step end n s lines)
unfolding lines_after
outcome format step end start follows [] n s before count stands sound =
    let last = follows.ends s before stands in
    subst (λ (all : List Line). Outcome format all (in_line 0 (end s))) (sym (append-nil before)) (at_end format end s before last.0 _ refl last.1 sound)
outcome format step end start follows (line ∷ lines) n s before count stands sound =
    let one = follows.reads s before line stands in
    at_line format step end n s one.0 before line lines _ count refl one.1 sound
    (λ said fine. outcome format step end start follows lines (n + 1) one.0 (before ++ line ∷ []) (ap (λ k. k + 1) count ∙ sym (length-append before (line ∷ []))) (follows.goes_on s one.0 before line stands said) (sound_more format before line sound fine))

-- The result of a whole text.
pub text_outcome : {S X : Type 0} (format : Format) (step : S → Line → Result S FaultKind) (end : S → Result X FaultKind) (start : S) → Follows format step end start → (lines : List Line) → Outcome format lines (text_after step end start lines)
unfolding text_after
text_outcome format step end start follows lines = outcome format step end start follows lines 0 start [] refl follows.starts (no_lines format)

-- ---- at most one fault

clash : {A : Type 0} (o : Option A) (x : A) → o ≡ None → o ≡ Some x → ⊥
clash o x p q = cc

line_twice : (format : Format) (lines : List Line) (f g : InputFault) → IsLineFault format lines f → IsLineFault format lines g → f ≡ g
line_twice format lines f g p q = elim (cuts p.before q.before p.line q.line p.after q.after (sym p.cut ∙ q.cut)) [
  | inl same ↦
      let count : f.line ≡ g.line = p.counted ∙ ap (λ (b : List Line). length b + 1) same.0 ∙ sym q.counted in
      let fault : line_fault format (before_of q.before) q.line ≡ Some f.kind = subst (λ (b : List Line). line_fault format (before_of b) q.line ≡ Some f.kind) same.0 (subst (λ (l : Line). line_fault format (before_of p.before) l ≡ Some f.kind) same.1 p.fails) in
      let both : Some f.kind ≡ Some g.kind = sym fault ∙ q.fails in
      let kind : f.kind ≡ g.kind = cc in
      ap₂ (λ (l : ℕ) (k : FaultKind). record { line = l; kind = k }) count kind
  | inr (inl longer) ↦ absurd (clash _ g.kind (p.first q.before longer.more q.line longer.is) q.fails)
  | inr (inr longer) ↦ absurd (clash _ f.kind (q.first p.before longer.more p.line longer.is) p.fails)
]

end_twice : (format : Format) (lines : List Line) (f g : InputFault) → IsEndFault format lines f → IsEndFault format lines g → f ≡ g
end_twice format lines f g p q =
    let both : Some f.kind ≡ Some g.kind = sym p.fails ∙ q.fails in
    let kind : f.kind ≡ g.kind = cc in
    ap₂ (λ (l : ℕ) (k : FaultKind). record { line = l; kind = k }) (p.whole ∙ sym q.whole) kind

pub one_fault : (format : Format) (lines : List Line) (f g : InputFault) → IsFaultOf format lines f → IsFaultOf format lines g → f ≡ g
one_fault format lines f g (inl p) (inl q) = line_twice format lines f g p q
one_fault format lines f g (inl p) (inr q) = absurd (clash _ f.kind (q.sound p.before p.after p.line p.cut) p.fails)
one_fault format lines f g (inr p) (inl q) = absurd (clash _ g.kind (p.sound q.before q.after q.line q.cut) q.fails)
one_fault format lines f g (inr p) (inr q) = end_twice format lines f g p q

-- ---- a reader's answer

pub sound_text : (format : Format) (lines : List Line) (f : InputFault) → NoLineHasFault format lines × (end_fault format (before_of lines) ≡ None) → IsFaultOf format lines f → ⊥
sound_text format lines f sound (inl p) = clash _ f.kind (sound.0 p.before p.after p.line p.cut) p.fails
sound_text format lines f sound (inr p) = clash _ f.kind sound.1 p.fails
