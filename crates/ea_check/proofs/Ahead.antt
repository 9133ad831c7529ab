-- Lines of nodes that are read ahead of the line that was found.
use Rattle.std.proofs.Common.{◌≡◌, ◌∙◌, refl, ℕ, ◌+◌, ◌<◌, ◌≤◌, ◌^◌, Bool, true, false, List, [], ◌∷◌, ◌++◌, length, take, drop, arith, ap, sym, subst, append_assoc, append-nil, length-take, length-drop}
use Rattle.std.proofs.lemmas.List.{take-append-drop}
use Rattle.std.specs.Prelude.{Option, Some, None, if◌then◌else◌}
use Rattle.ea_base.specs.declared.direction.Direction.{Direction}
use Rattle.ea_bytes.specs.Device.{Seen}
use Rattle.ea_blocks.specs.Taking.{HasRoom}
use Rattle.ea_bytes.specs.Text.{field_lines, fields_of}
use Rattle.ea_check.specs.declared.form.report_lines.ReportLines.{ReportLines}
use Rattle.ea_check.specs.Ahead.{HasPassed, IsAhead, ReadsAhead}
use Rattle.ea_check.specs.Form.{Line, SaysTime, spoken_from}
use Rattle.ea_check.specs.Reads.{NoWalkNext, ReadsNode, ReadsNodes, no_more, one_more, without_walk}
use Rattle.ea_check.specs.Runs.{SayTimes, saids}
use Rattle.ea_check.specs.Streams.{FindsLine, IsReady, Leads, ahead, found_then, last_of, rest_of, spoken}
use Rattle.ea_check.specs.Verdicts.{Said}
use Rattle.ea_check.proofs.Runs.{reads_run, some_no_walk}
use Rattle.ea_check.proofs.Stopping.{lines_here}
use Rattle.ea_check.proofs.Streaming.{leads_here}

-- The line that was found has the number of lines that were read.
pub found_number : (lines : ReportLines) (line : Line) → spoken lines ≡ Some line → line.number ≡ lines.count
found_number lines line is = by_found lines.found (record { number = lines.count; fields = fields_of (last_of lines); way = lines.way }) is
  where
    by_found : (found : Bool) (last : Line) → (if found then Some last else None) ≡ Some line → line.number ≡ last.number
    by_found true last is = let same : last ≡ line = cc in ap (λ (l : Line). l.number) (sym same)
    by_found false last is = cc

pub saids_length : (number : ℕ) (times : List ℕ) → length (saids number times) ≡ length times
saids_length number [] = refl
saids_length number (time ∷ times) = let rest = saids_length (number + 1) times in omega (arith, rest)

-- No line was read ahead.
pub none_ahead : (node : ℕ) (kept : List Said) (seen : Seen) (lines : ReportLines) → HasRoom lines.blocks → ReadsAhead node 0 kept kept seen lines seen lines
none_ahead node kept seen lines room = record {
  said = [];
  grown = sym (append-nil kept);
  many = refl;
  read = lines_here (ReadsNodes node []) seen lines room (λ text. no_more);
}

-- The numbers of lines that are read ahead fit.
pub few_ahead : (lines : ReportLines) (node last : ℕ) (times : List ℕ) (bytes : ℕ) → IsReady lines → IsAhead lines node last times bytes → (lines.count + length times + 1 < 2 ^ 64) × (length times ≤ bytes) × (bytes ≤ length (rest_of lines))
few_ahead lines node last times bytes ready is =
    let long = length-take bytes (rest_of lines) in
    let whole = length-drop lines.start lines.block.items in
    (omega (arith, is.inside, is.run.few, long, whole, ready.few, ready.inside), omega (arith, is.inside, is.run.few, long), omega (arith, is.inside))

-- Lines were passed: those of the text before are these and those of the text that is left, and no walk comes first there.
abbrev pub Passes : Direction → List (List (List ℕ)) → List ℕ → List ℕ → Type 0
Passes way lines text middle = (field_lines text ≡ lines ++ field_lines middle) × ((number : ℕ) → NoWalkNext (spoken_from way number (field_lines middle)))

pub passes_ahead : (seen : Seen) (before mid : ReportLines) (node last : ℕ) (times : List ℕ) (bytes count : ℕ) → HasRoom mid.blocks → (is : IsAhead before node last times bytes) → HasPassed bytes count before mid → Leads (Passes before.way is.run.lines) seen before seen mid
passes_ahead seen before mid node last times bytes count room is passed =
    leads_here (Passes before.way is.run.lines) seen before mid room passed.blocks passed.ended
    (λ later none.
    let text = rest_of before in
    let cut : text ++ later ≡ take bytes text ++ (rest_of mid ++ later) = ap (λ (l : List ℕ). l ++ later) (sym (take-append-drop bytes text)) ∙ append_assoc (take bytes text) (drop bytes text) later ∙ ap (λ (l : List ℕ). take bytes text ++ (l ++ later)) (sym passed.rest) in
    (ap field_lines cut ∙ is.run.reads (rest_of mid ++ later), λ number. subst (λ (l : List ℕ). NoWalkNext (spoken_from before.way number (field_lines (l ++ later)))) (sym passed.rest) (is.quiet later number)))

-- So the lines of these nodes were read, if the line that was found is that of the node before them.
module _ (before mid after : ReportLines) (line : Line) (node time : ℕ) (times : List ℕ) (lines : List (List (List ℕ))) where
  pub reads_ahead : spoken before ≡ Some line → SaysTime line.way line.fields node time → SayTimes before.way (node + 1) times lines → mid.way ≡ before.way → mid.count ≡ before.count + length times
      → (text middle next : List ℕ) → Passes before.way lines text middle → FindsLine mid after middle next → ReadsNodes node (saids line.number (time ∷ times)) (ahead before text) (ahead after next)
  reads_ahead is says say same counted text middle next passes found =
      let number = found_number before line is in
      let first = before.count + 1 in
      let others = spoken_from before.way first (field_lines text) in
      let rest = spoken_from before.way (first + length times) (field_lines middle) in
      let left : rest ≡ ahead after next =
      ap (λ n. spoken_from before.way n (field_lines middle)) (omega (arith, counted)) ∙ ap (λ (w : Direction). spoken_from w (mid.count + 1) (field_lines middle)) (sym same) ∙ found in
      let lined : others ≡ spoken_from before.way first (lines ++ field_lines middle) = ap (spoken_from before.way first) passes.0 in
      let run : ReadsNodes (node + 1) (saids first times) others (ahead after next) =
      subst (λ (ls : List Line). ReadsNodes (node + 1) (saids first times) ls (ahead after next)) (sym lined) (subst (λ (ls : List Line). ReadsNodes (node + 1) (saids first times) (spoken_from before.way first (lines ++ field_lines middle)) ls) left (reads_run before.way first (node + 1) times lines (field_lines middle) say (passes.1 (first + length times)))) in
      let none : NoWalkNext others = subst NoWalkNext (sym lined) (some_no_walk before.way first (node + 1) times lines (field_lines middle) say (passes.1 (first + length times))) in
      let said : Said = record { line = line.number; time = time; walk = None } in
      let here : ReadsNode node said (line ∷ others) others = without_walk says refl refl (λ some. none) in
      let all : ReadsNodes node (said ∷ saids first times) (line ∷ others) (ahead after next) = one_more here run in
      subst (λ n. ReadsNodes node (said ∷ saids (n + 1) times) (ahead before text) (ahead after next)) (sym number)
      (subst (λ (f : Option Line). ReadsNodes node (said ∷ saids first times) (found_then f others) (ahead after next)) (sym is) all)
