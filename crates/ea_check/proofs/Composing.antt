-- What is checked of a report, problem by problem.
use Rattle.std.proofs.Common.{Bool, true, false, ◌≡◌, ◌∙◌, refl, ℕ, zero, suc, ◌+◌, ◌^◌, ◌<◌, ◌≤◌, List, [], ◌∷◌, ◌++◌, length, drop, get_or, arith, ap, sym, subst, append_assoc}
use Rattle.std.proofs.Math.Seq.{drop-cons}
use Rattle.std.specs.Prelude.{if◌then◌else◌, Option, Some, None, Result, Ok, Err}
use Rattle.ea_base.specs.declared.direction.Direction.{Direction}
use Rattle.ea_bytes.specs.Text.{is_silent}
use Rattle.ea_road.specs.declared.source.Source.{Source}
use Rattle.std.specs.List.{IsAmong}
use Rattle.ea_base.specs.declared.limits.TheConstants.{HORIZON}
use Rattle.ea_road.specs.Queries.{Asking, IsProblem}
use Rattle.ea_road.specs.Roads.{Roads, IsNode}
use Rattle.ea_check.specs.declared.fault.CheckFault.{CheckFault}
use Rattle.ea_check.specs.declared.fault.CheckFault.TheVariants.{BadLine, NotAttained, NotLeast, OutOfMemory, NotCanonical}
use Rattle.ea_check.specs.Verdicts.{Said, IsFaultless, IsRight, IsVerdict, IsWellFormed}
use Rattle.ea_check.specs.Form.{Line, IsAfter, AreInOrder, spoken_from, SaysNode, alone, with_walk, SaysNodes, no_node, next_node, SaysSources, SaysProblem, SaysProblems, no_problem, next_problem, IsBadLine, at_line, at_end}
use Rattle.ea_check.specs.Checked.{AreRight, IsFirstFault, in_this, in_later, IsFaulty, IsChecked, sources_of}
use Rattle.ea_check.specs.Streams.{found_then}
use Rattle.ea_check.specs.Places.{AreSmall, AreAllSmall}
use Rattle.ea_check.specs.Reads.{IsWrong, ReadsSources, ReadsNode, without_walk, and_walk, ReadsNodes, no_more, one_more, ReadsProblem, ReadsReport, all_read, one_read, ReportWrong, too_long, in_problem, behind_problem, ProblemWrong}
use Rattle.ea_check.proofs.BadLines.{wrong_is_bad}
use Rattle.ea_check.proofs.Formed.{well_formed}

-- what lines begin with, and what is behind
pub record Front (Says : List Line → Type 0) (lines others : List Line) : Type 0 where
  pub first : List Line
  pub cut : lines ≡ first ++ others
  pub says : Says first

front_sources : (sources : List Source) (lines others : List Line) → ReadsSources sources lines others → Front (SaysSources sources) lines others
front_sources [] lines others reads = record { first = []; cut = reads; says = tt }
front_sources (source ∷ sources) [] others reads = absurd reads
front_sources (source ∷ sources) (line ∷ lines) others reads =
    let rest = front_sources sources lines others reads.1 in
    record { first = line ∷ rest.first; cut = ap (λ (ls : List Line). line ∷ ls) rest.cut; says = (reads.0, rest.says) }

front_node : {node : ℕ} {said : Said} {lines others : List Line} → ReadsNode node said lines others → Front (SaysNode node said) lines others
front_node (without_walk {line} says at none quiet) = record { first = line ∷ []; cut = refl; says = alone says at none }
front_node (and_walk {line} {next} says has at some at_next walks) = record { first = line ∷ next ∷ []; cut = refl; says = with_walk says has at some at_next walks }

front_nodes : {node : ℕ} {reported : List Said} {lines others : List Line} → ReadsNodes node reported lines others → Front (SaysNodes node reported) lines others
front_nodes no_more = record { first = []; cut = refl; says = no_node }
front_nodes (one_more {others} here on) =
    let first = front_node here in
    let rest = front_nodes on in
    record {
      first = first.first ++ rest.first;
      cut = first.cut ∙ ap (λ (ls : List Line). first.first ++ ls) rest.cut ∙ sym (append_assoc first.first rest.first others);
      says = next_node first.says rest.says;
    }

pub front_problem : {nodes : ℕ} {sources : List Source} {reported : List Said} {lines others : List Line} → ReadsProblem nodes sources reported lines others → Front (SaysProblem nodes sources reported) lines others
front_problem {sources} {lines} {others} reads =
    let start = front_sources sources lines reads.middle reads.of_sources in
    let rest = front_nodes reads.of_nodes in
    record {
      first = start.first ++ rest.first;
      cut = start.cut ∙ ap (λ (ls : List Line). start.first ++ ls) rest.cut ∙ sym (append_assoc start.first rest.first others);
      says = record { first = start.first; others = rest.first; cut = refl; of_sources = start.says; of_nodes = rest.says; each_node = reads.each_node };
    }

pub report_says : {nodes : ℕ} {queries : List (List Source)} {lines : List Line} → ReadsReport nodes queries lines → (problems : List (List Said)) × SaysProblems nodes queries problems lines
report_says all_read = ([], no_problem)
report_says {nodes} (one_read {sources} {queries} {reported} here later) =
    let front = front_problem here in
    let rest = report_says later in
    (reported ∷ rest.0, subst (λ (ls : List Line). SaysProblems nodes (sources ∷ queries) (reported ∷ rest.0) ls) (sym front.cut) (next_problem front.says rest.1))

-- as many problems as queries
as_many : {nodes : ℕ} {queries : List (List Source)} {problems : List (List Said)} {lines : List Line} → SaysProblems nodes queries problems lines → length problems ≡ length queries
as_many no_problem = refl
as_many (next_problem here later) = ap suc (as_many later)

-- a report of right form has no bad line
pub no_bad_line : (nodes : ℕ) (queries : List (List Source)) (problems : List (List Said)) (lines : List Line) (number : ℕ) → SaysProblems nodes queries problems lines → IsBadLine nodes queries lines number → ⊥
no_bad_line nodes queries problems lines number says (at_line before after bad cut can none) =
    let joined : before ++ bad ∷ after ≡ (before ++ bad ∷ []) ++ after = sym (append_assoc before (bad ∷ []) after) in
    none (record { rest = after; problems = problems; whole = subst (λ (ls : List Line). SaysProblems nodes queries problems ls) (cut ∙ joined) says })
no_bad_line nodes queries problems lines number says (at_end can none) = none problems says

-- lines in the order of their numbers
pub after_front : (first others : List Line) (number : ℕ) → IsAfter number (first ++ others) → IsAfter number first
after_front [] others number after = tt
after_front (line ∷ first) others number after = (after.0, after_front first others line.number after.1)

sooner_after : (lines : List Line) (number sooner : ℕ) → sooner ≤ number → IsAfter number lines → IsAfter sooner lines
sooner_after [] number sooner low after = tt
sooner_after (line ∷ lines) number sooner low after = (omega (arith, after.0), after.1)

pub after_behind : (first others : List Line) (number : ℕ) → IsAfter number (first ++ others) → IsAfter number others
after_behind [] others number after = after
after_behind (line ∷ first) others number after = after_behind first others number (sooner_after (first ++ others) line.number number (omega (arith, after.0)) after.1)

either_order : (silent : Bool) (low : ℕ) (line : Line) (rest : List Line) → low < line.number → IsAfter low rest → IsAfter line.number rest → IsAfter low (if silent then rest else (line ∷ rest))
either_order true low line rest less this that = this
either_order false low line rest less this that = (less, that)

pub spoken_in_order : (way : Direction) (number low : ℕ) (lines : List (List (List ℕ))) → low < number → IsAfter low (spoken_from way number lines)
spoken_in_order way number low [] less = tt
spoken_in_order way number low (fields ∷ lines) less =
    either_order (is_silent fields) low (record { number = number; fields = fields; way = way }) (spoken_from way (number + 1) lines) less (spoken_in_order way (number + 1) low lines (omega arith)) (spoken_in_order way (number + 1) number lines (omega arith))

pub formed_of : {nodes : ℕ} {sources : List Source} {reported : List Said} {lines others : List Line} → ReadsProblem nodes sources reported lines others → AreInOrder lines → IsWellFormed nodes reported
formed_of {nodes} {sources} {reported} {others} reads order =
    let front = front_problem reads in
    well_formed nodes sources reported front.first (after_front front.first others 0 (subst AreInOrder front.cut order)) front.says

module _ (roads : Roads) (answers : ℕ → ℕ → ℕ → ℕ → Type 0) where
  faulty : {sources : List Source} {queries : List (List Source)} {reported : List Said} {lines others : List Line} {fault : CheckFault} → ReadsProblem roads.nodes sources reported lines others → (later : ReadsReport roads.nodes queries others) → IsFirstFault roads answers fault (sources ∷ queries) (reported ∷ (report_says later).0) → IsFaulty roads answers (sources ∷ queries) lines fault
  faulty {sources} {queries} {reported} here later first =
      let front = front_problem here in
      let rest = report_says later in
      record {
        problems = reported ∷ rest.0;
        form = subst (λ (ls : List Line). SaysProblems roads.nodes (sources ∷ queries) (reported ∷ rest.0) ls) (sym front.cut) (next_problem front.says rest.1);
        first = first;
      }

  behind : {sources : List Source} {queries : List (List Source)} {reported : List Said} {lines others : List Line} {fault : CheckFault} → ReadsProblem roads.nodes sources reported lines others → IsFaultless roads answers sources reported → IsFaulty roads answers queries others fault → IsFaulty roads answers (sources ∷ queries) lines fault
  behind {sources} {queries} {reported} here faultless faulty =
      let front = front_problem here in
      record {
        problems = reported ∷ faulty.problems;
        form = subst (λ (ls : List Line). SaysProblems roads.nodes (sources ∷ queries) (reported ∷ faulty.problems) ls) (sym front.cut) (next_problem front.says faulty.form);
        first = in_later faultless faulty.first;
      }

  -- a problem with a fault, in the form of the whole
  pub fault_here : {sources : List Source} {queries : List (List Source)} {reported : List Said} {lines others : List Line} (fault : CheckFault) → ReadsProblem roads.nodes sources reported lines others → ReadsReport roads.nodes queries others → IsVerdict roads answers sources reported (Err fault) → IsChecked roads answers (sources ∷ queries) lines (Err fault)
  fault_here (BadLine number) here later verdict = absurd verdict
  fault_here OutOfMemory here later verdict = tt
  fault_here (NotAttained number) here later verdict = faulty here later (in_this verdict)
  fault_here (NotLeast number) here later verdict = faulty here later (in_this verdict)
  fault_here (NotCanonical number) here later verdict = faulty here later (in_this verdict)

  -- a problem without a fault, before others
  pub checked_behind : {sources : List Source} {queries : List (List Source)} {reported : List Said} {lines others : List Line} → ReadsProblem roads.nodes sources reported lines others → ReadsReport roads.nodes queries others → IsFaultless roads answers sources reported → IsRight roads answers sources reported → (result : Result (Unit {0}) CheckFault) → IsChecked roads answers queries others result → IsChecked roads answers (sources ∷ queries) lines result
  checked_behind {sources} {queries} {reported} here later faultless right (Ok _) checked =
      let front = front_problem here in
      (reported ∷ checked.0, subst (λ (ls : List Line). SaysProblems roads.nodes (sources ∷ queries) (reported ∷ checked.0) ls) (sym front.cut) (next_problem front.says checked.1), (right, checked.2))
  checked_behind {queries} {others} here later faultless right (Err (BadLine number)) checked =
      let form = report_says later in
      absurd (no_bad_line roads.nodes queries form.0 others number form.1 checked)
  checked_behind here later faultless right (Err OutOfMemory) checked = tt
  checked_behind here later faultless right (Err (NotAttained number)) checked = behind here faultless checked
  checked_behind here later faultless right (Err (NotLeast number)) checked = behind here faultless checked
  checked_behind here later faultless right (Err (NotCanonical number)) checked = behind here faultless checked

  -- no problem is left
  pub checked_end : (queries : List (List Source)) (lines : List Line) → queries ≡ [] → ReadsReport roads.nodes queries lines → IsChecked roads answers queries lines (Ok tt)
  checked_end queries lines none form =
      let said = report_says form in
      (said.0, said.1, no_problems queries said.0 none said.1)
    where
      no_problems : (queries : List (List Source)) (problems : List (List Said)) {lines : List Line} → queries ≡ [] → SaysProblems roads.nodes queries problems lines → AreRight roads answers queries problems
      no_problems [] [] none says = tt
      no_problems [] (reported ∷ problems) none says = absurd (omega (arith, as_many says))
      no_problems (sources ∷ queries) problems none says = cc

  -- if reading goes wrong, the check finds that fault
  pub wrong_checked : (queries : List (List Source)) (lines : List Line) (fault : CheckFault) → roads.nodes + 1 < 2 ^ 64 → AreAllSmall queries → IsWrong (ReportWrong roads.nodes queries lines) fault → IsChecked roads answers queries lines (Err fault)
  wrong_checked queries lines (BadLine number) few small wrong = wrong_is_bad roads.nodes few queries lines number small wrong
  wrong_checked queries lines OutOfMemory few small wrong = tt
  wrong_checked queries lines (NotAttained number) few small wrong = absurd wrong
  wrong_checked queries lines (NotLeast number) few small wrong = absurd wrong
  wrong_checked queries lines (NotCanonical number) few small wrong = absurd wrong

pub small_sources : (nodes : ℕ) (sources : List Source) → nodes < 2 ^ 64 → ((source : Source) → IsAmong sources source → IsNode nodes source.node × (source.departure ≤ HORIZON)) → AreSmall sources
small_sources nodes [] few each = tt
small_sources nodes (source ∷ sources) few each =
    let here = each source (0, (omega arith, refl)) in
    let low = here.0.to_last in
    let soon = here.1 in
    (omega arith, omega arith, small_sources nodes sources few (λ other among. each other (suc among.0, (omega (arith, among.1.0), among.1.1))))

pub small_queries : (roads : Roads) (classes : ℕ) (queries : List Asking) → roads.nodes < 2 ^ 64 → ((query : Asking) → IsAmong queries query → IsProblem roads classes query × (query.target ≡ None)) → AreAllSmall (sources_of queries)
small_queries roads classes [] few each = tt
small_queries roads classes (query ∷ queries) few each =
    let here = (each query (0, (omega arith, refl))).0 in (
      small_sources roads.nodes query.sources few (λ source among. (here.sources source among, here.departures source among)),
      small_queries roads classes queries few (λ other among. each other (suc among.0, (omega (arith, among.1.0), among.1.1))),
    )

-- the query at a place
module _ (nodes : ℕ) (queries : List Asking) (place : ℕ) (query : Asking) (inside : place < length queries) (is : query ≡ get_or queries place query) where
  pub next_query : sources_of (drop place queries) ≡ query.sources ∷ sources_of (drop (place + 1) queries)
  next_query =
      let parts = drop-cons queries place query inside in
      let more : suc place ≡ place + 1 = omega arith in
      ap (λ (qs : List Asking). sources_of qs) parts ∙ ap (λ (q : Asking). q.sources ∷ sources_of (drop (suc place) queries)) (sym is) ∙ ap (λ n. query.sources ∷ sources_of (drop n queries)) more

  pub wrong_more : {reported : List Said} {lines others : List Line} (P : ℕ → Type 0) → ReadsProblem nodes query.sources reported lines others → ((number : ℕ) → ReportWrong nodes (sources_of (drop place queries)) lines number → P number) → (number : ℕ) → ReportWrong nodes (sources_of (drop (place + 1) queries)) others number → P number
  wrong_more {lines} P here whole number later = whole number (subst (λ (qs : List (List Source)). ReportWrong nodes qs lines number) (sym next_query) (behind_problem here later))

  pub wrong_here : {lines : List Line} (P : ℕ → Type 0) → ((number : ℕ) → ReportWrong nodes (sources_of (drop place queries)) lines number → P number) → (number : ℕ) → ProblemWrong nodes query.sources lines number → P number
  wrong_here {lines} P whole number here = whole number (subst (λ (qs : List (List Source)). ReportWrong nodes qs lines number) (sym next_query) (in_problem here))

-- no query is left
pub no_query_left : (queries : List Asking) (place : ℕ) → length queries ≤ place → sources_of (drop place queries) ≡ []
no_query_left [] zero long = refl
no_query_left [] (suc place) long = refl
no_query_left (query ∷ queries) zero long = absurd (omega arith)
no_query_left (query ∷ queries) (suc place) long = no_query_left queries place (omega arith)

pub form_too_long : (nodes : ℕ) (queries : List Asking) (place : ℕ) (found : Option Line) (line : Line) (behind : List Line) (P : ℕ → Type 0) → length queries ≤ place → found ≡ Some line → ((number : ℕ) → ReportWrong nodes (sources_of (drop place queries)) (found_then found behind) number → P number) → P line.number
form_too_long nodes queries place found line behind P long is whole =
    let here : ReportWrong nodes [] (line ∷ behind) line.number = too_long in
    whole line.number (rw (no_query_left queries place long, is) here)
