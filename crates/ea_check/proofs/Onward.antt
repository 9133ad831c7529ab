-- A report's problems, read and judged one after another.
use Rattle.std.proofs.Common.{◌≡◌, ℕ, List, [], ◌∷◌, refl, sym, subst}
use Rattle.std.specs.Prelude.{Result, Ok, Err, None, Option, MatchResult}
use Rattle.ea_road.specs.declared.source.Source.{Source}
use Rattle.ea_road.specs.Roads.{Roads}
use Rattle.ea_check.specs.declared.fault.CheckFault.{CheckFault}
use Rattle.ea_check.specs.Verdicts.{Said, IsFaultless, IsRight, IsVerdict}
use Rattle.ea_check.specs.Checked.{IsChecked}
use Rattle.ea_check.specs.Streams.{found_then}
use Rattle.ea_check.specs.Form.{Line}
use Rattle.ea_check.specs.Reads.{ReadsProblem, ReadsReport, ReportWrong, all_read, one_read}
use Rattle.ea_check.proofs.Composing.{checked_behind, checked_end, fault_here}

-- What the problems read so far say of the whole, if the form of those that are left is right: the fault of
-- the first with one; if none has any, what is checked of those that are left.
abbrev pub Onward : Roads → (ℕ → ℕ → ℕ → ℕ → Type 0) → List (List Source) → List Line → List (List Source) → List Line → Result (Unit {0}) CheckFault → Type 0
Onward roads answers queries lines left ahead (Ok _) =
    (result : Result (Unit {0}) CheckFault) → ReadsReport roads.nodes left ahead → IsChecked roads answers left ahead result → IsChecked roads answers queries lines result
Onward roads answers queries lines left ahead (Err fault) = ReadsReport roads.nodes left ahead → IsChecked roads answers queries lines (Err fault)

-- The lines of the first problems were read: what holds of those that are left holds of all, and the verdict is
-- that of the problems that were read.
pub record ProblemsLeft (roads : Roads) (answers : ℕ → ℕ → ℕ → ℕ → Type 0) (queries left : List (List Source)) (verdict : Result (Unit {0}) CheckFault) (lines next : List Line) : Type 0 where
  pub wrong : (number : ℕ) → ReportWrong roads.nodes left next number → ReportWrong roads.nodes queries lines number
  pub onward : Onward roads answers queries lines left next verdict

module _ (roads : Roads) (answers : ℕ → ℕ → ℕ → ℕ → Type 0) (queries : List (List Source)) (lines : List Line) where
  -- One more problem is read.
  pub onward_more : {sources : List Source} {reported : List Said} {here : List Line} (left : List (List Source)) (others : List Line) (old new : Result (Unit {0}) CheckFault) → ReadsProblem roads.nodes sources reported here others → (IsFaultless roads answers sources reported → IsRight roads answers sources reported) → MatchResult old (λ _. IsVerdict roads answers sources reported new) (λ fault. new ≡ Err fault) → Onward roads answers queries lines (sources ∷ left) here old → Onward roads answers queries lines left others new
  onward_more left others (Ok _) (Ok _) read right faultless onward = λ result form checked. onward result (one_read read form) (checked_behind roads answers read form faultless (right faultless) result checked)
  onward_more left others (Ok _) (Err fault) read right verdict onward = λ form. onward (Err fault) (one_read read form) (fault_here roads answers fault read form verdict)
  onward_more left others (Err fault) new read right same onward =
      subst (λ (r : Result (Unit {0}) CheckFault). Onward roads answers queries lines left others r) (sym same) (λ form. onward (one_read read form))

  -- No problem and no line is left.
  pub onward_end : (left : List (List Source)) (found : Option Line) (behind : List Line) (verdict : Result (Unit {0}) CheckFault) → left ≡ [] → found ≡ None → Onward roads answers queries lines left (found_then found behind) verdict → IsChecked roads answers queries lines verdict
  onward_end left found behind verdict none no_line onward =
      ended verdict (subst (λ (qs : List (List Source)). Onward roads answers queries lines qs [] verdict) none (subst (λ (f : Option Line). Onward roads answers queries lines left (found_then f behind) verdict) no_line onward))
    where
      ended : (verdict : Result (Unit {0}) CheckFault) → Onward roads answers queries lines [] [] verdict → IsChecked roads answers queries lines verdict
      ended (Ok _) onward = onward (Ok tt) all_read (checked_end roads answers [] [] refl all_read)
      ended (Err fault) onward = onward all_read
