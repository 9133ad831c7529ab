-- A report has one verdict.
use Rattle.std.proofs.Common.{◌≡◌, ◌∙◌, refl, ℕ, suc, List, [], ◌∷◌, ◌++◌, arith, ap, sym, subst, append_assoc}
use Rattle.std.specs.Prelude.{◌≢◌, None, Result, Ok, Err}
use Rattle.std.specs.List.{IsAmong}
use Rattle.ea_road.specs.declared.source.Source.{Source}
use Rattle.ea_travel_times.specs.Answers.{IsFifo}
use Rattle.ea_road.specs.Queries.{Asking, IsProblem}
use Rattle.ea_road.specs.Roads.{Roads, IsNetwork}
use Rattle.ea_check.specs.declared.fault.CheckFault.{CheckFault}
use Rattle.ea_check.specs.declared.fault.CheckFault.TheVariants.{BadLine, NotAttained, NotLeast, OutOfMemory, NotCanonical}
use Rattle.ea_check.specs.Verdicts.{Said, IsWellFormed, IsTask}
use Rattle.ea_check.specs.Form.{Line, AreInOrder, SaysNode, alone, with_walk, SaysNodes, no_node, next_node, SaysSources, SaysProblem, SaysProblems, no_problem, next_problem, CanGoOn, IsBadLine, at_line, at_end}
use Rattle.ea_check.specs.Checked.{AreRight, IsFirstFault, in_this, in_later, IsFaulty, IsChecked, sources_of}
use Rattle.ea_check.specs.Reads.{NoWalkNext, ReadsSources, ReadsNode, without_walk, and_walk, ReadsNodes, no_more, one_more, ReadsProblem}
use Rattle.ea_check.proofs.Composing.{no_bad_line, after_front, after_behind}
use Rattle.ea_check.proofs.Determined.{one_problem}
use Rattle.ea_check.proofs.Formed.{well_formed}
use Rattle.ea_check.proofs.OneVerdict.{one_verdict}
use Rattle.ea_check.proofs.Placed.{remains}
use Rattle.ea_check.proofs.Right.{task_of, right_faultless}
use Rattle.ea_check.proofs.Steps.{no_other_walk, time_no_walk}

-- the lines of problems do not begin with a `w` line
quiet_report : (nodes : ℕ) (queries : List (List Source)) (problems : List (List Said)) (lines : List Line) → SaysProblems nodes queries problems lines → NoWalkNext lines
quiet_report nodes queries problems [] says = tt
quiet_report nodes queries problems (line ∷ lines) says = λ walk. no_other_walk nodes line walk (remains 0 says)

node_reads : {node : ℕ} {said : Said} {lines : List Line} (rest : List Line) → NoWalkNext rest → SaysNode node said lines → ReadsNode node said (lines ++ rest) rest × NoWalkNext (lines ++ rest)
node_reads {node} {said} rest quiet (alone {line} says at none) = (without_walk says at none (λ has. quiet), time_no_walk line.way line.fields node said.time says)
node_reads {node} {said} rest quiet (with_walk {line} says has at some at_next walks) = (and_walk says has at some at_next walks, time_no_walk line.way line.fields node said.time says)

nodes_read : {node : ℕ} {reported : List Said} {lines : List Line} (rest : List Line) → NoWalkNext rest → SaysNodes node reported lines → ReadsNodes node reported (lines ++ rest) rest × NoWalkNext (lines ++ rest)
nodes_read rest quiet no_node = (no_more, quiet)
nodes_read rest quiet (next_node {node} {said} {rest = later} {lines} {others} here on) =
    let behind = nodes_read rest quiet on in
    let first = node_reads (others ++ rest) behind.1 here in
    let joined : lines ++ (others ++ rest) ≡ (lines ++ others) ++ rest = sym (append_assoc lines others rest) in (
      subst (λ (ls : List Line). ReadsNodes node (said ∷ later) ls rest) joined (one_more first.0 behind.0),
      subst NoWalkNext joined first.1,
    )

sources_read : (sources : List Source) (lines rest : List Line) → SaysSources sources lines → ReadsSources sources (lines ++ rest) rest
sources_read [] [] rest says = refl
sources_read [] (line ∷ lines) rest says = absurd says
sources_read (source ∷ sources) [] rest says = absurd says
sources_read (source ∷ sources) (line ∷ lines) rest says = (says.0, sources_read sources lines rest says.1)

problem_reads : {nodes : ℕ} {sources : List Source} {reported : List Said} {lines : List Line} (rest : List Line) → NoWalkNext rest → SaysProblem nodes sources reported lines → ReadsProblem nodes sources reported (lines ++ rest) rest
problem_reads {nodes} {sources} {reported} rest quiet says =
    let on = nodes_read rest quiet says.of_nodes in
    let joined = ap (λ (ls : List Line). ls ++ rest) says.cut ∙ append_assoc says.first says.others rest in
    record {
      middle = says.others ++ rest;
      of_sources = subst (λ (ls : List Line). ReadsSources sources ls (says.others ++ rest)) (sym joined) (sources_read sources says.first (says.others ++ rest) says.of_sources);
      of_nodes = on.0;
      each_node = says.each_node;
    }

-- lines say one thing
one_saying : {nodes : ℕ} {queries : List (List Source)} {problems told : List (List Said)} {lines others : List Line} → SaysProblems nodes queries problems lines → SaysProblems nodes queries told others → lines ≡ others → problems ≡ told
one_saying no_problem no_problem same = refl
one_saying {nodes} (next_problem {sources} {queries} {reported} {problems} {lines} {others = rest} here later) (next_problem {reported = again} {problems = told} {lines = texts} {others = behind} there also) same =
    let this = problem_reads rest (quiet_report nodes queries problems rest later) here in
    let that = problem_reads behind (quiet_report nodes queries told behind also) there in
    let one = one_problem this (subst (λ (ls : List Line). ReadsProblem nodes sources again ls behind) (sym same) that) in
    ap (λ (r : List Said). r ∷ problems) one.0 ∙ ap (λ (ps : List (List Said)). again ∷ ps) (one_saying later also one.1)

-- two ways to cut lines
data Cuts (before : List Line) (bad : Line) (after later : List Line) (other : Line) : Type 0 where
  same_cut : bad ≡ other → Cuts before bad after later other
  first_cut : (more : List Line) → later ≡ before ++ bad ∷ more → Cuts before bad after later other
  second_cut : (more : List Line) → before ≡ later ++ other ∷ more → Cuts before bad after later other

cuts : (before after later behind : List Line) (bad other : Line) → before ++ bad ∷ after ≡ later ++ other ∷ behind → Cuts before bad after later other
cuts [] after [] behind bad other same = same_cut (heads same)
  where
    heads : {x y : Line} {xs ys : List Line} → x ∷ xs ≡ y ∷ ys → x ≡ y
    heads e = cc
cuts [] after (line ∷ later) behind bad other same = first_cut later (ap (λ l. l ∷ later) (sym (heads same)))
  where
    heads : {x y : Line} {xs ys : List Line} → x ∷ xs ≡ y ∷ ys → x ≡ y
    heads e = cc
cuts (line ∷ before) after [] behind bad other same = second_cut before (ap (λ l. l ∷ before) (heads same))
  where
    heads : {x y : Line} {xs ys : List Line} → x ∷ xs ≡ y ∷ ys → x ≡ y
    heads e = cc
cuts (line ∷ before) after (first ∷ later) behind bad other same = on (cuts before after later behind bad other (tails same)) (heads same)
  where
    heads : {x y : Line} {xs ys : List Line} → x ∷ xs ≡ y ∷ ys → x ≡ y
    heads e = cc

    tails : {x y : Line} {xs ys : List Line} → x ∷ xs ≡ y ∷ ys → xs ≡ ys
    tails e = cc

    on : Cuts before bad after later other → line ≡ first → Cuts (line ∷ before) bad after (first ∷ later) other
    on (same_cut e) h = same_cut e
    on (first_cut more e) h = first_cut more (ap (λ (ls : List Line). first ∷ ls) e ∙ ap (λ l. l ∷ before ++ bad ∷ more) (sym h))
    on (second_cut more e) h = second_cut more (ap (λ (ls : List Line). line ∷ ls) e ∙ ap (λ l. l ∷ later ++ other ∷ more) h)

-- lines that continue after others can follow these
goes_before : (nodes : ℕ) (queries : List (List Source)) (before more lines : List Line) (bad : Line) → lines ≡ before ++ bad ∷ more → CanGoOn nodes queries lines → CanGoOn nodes queries (before ++ bad ∷ [])
goes_before nodes queries before more lines bad cut on =
    let joined : lines ++ on.rest ≡ (before ++ bad ∷ []) ++ (more ++ on.rest) =
    ap (λ (ls : List Line). ls ++ on.rest) cut ∙ append_assoc before (bad ∷ more) on.rest ∙ sym (append_assoc before (bad ∷ []) (more ++ on.rest)) in
    record { rest = more ++ on.rest; problems = on.problems; whole = subst (λ (ls : List Line). SaysProblems nodes queries on.problems ls) joined on.whole }

one_bad_line : (nodes : ℕ) (queries : List (List Source)) (lines : List Line) (number other : ℕ) → IsBadLine nodes queries lines number → IsBadLine nodes queries lines other → number ≡ other
one_bad_line nodes queries lines number other (at_line before after bad cut can none) (at_line later behind next parts may never) = by_cuts (cuts before after later behind bad next (sym cut ∙ parts))
  where
    by_cuts : Cuts before bad after later next → bad.number ≡ next.number
    by_cuts (same_cut same) = ap (λ (l : Line). l.number) same
    by_cuts (first_cut more e) = absurd (none (goes_before nodes queries before more later bad e may))
    by_cuts (second_cut more e) = absurd (never (goes_before nodes queries later more before next e can))
one_bad_line nodes queries lines number other (at_line before after bad cut can none) (at_end may never) = absurd (none (goes_before nodes queries before after lines bad cut may))
one_bad_line nodes queries lines number other (at_end can none) (at_line later behind next parts may never) = absurd (never (goes_before nodes queries later behind lines next parts can))
one_bad_line nodes queries lines number other (at_end can none) (at_end may never) = refl

-- tasks, one for each query
abbrev AreTasks : Roads → ℕ → List (List Source) → Type 0
AreTasks roads classes [] = Unit {0}
AreTasks roads classes (sources ∷ queries) = IsTask roads classes sources × AreTasks roads classes queries

pub tasks_of : (roads : Roads) (classes : ℕ) (queries : List Asking) → IsNetwork roads → ((query : Asking) → IsAmong queries query → IsProblem roads classes query × (query.target ≡ None)) → AreTasks roads classes (sources_of queries)
tasks_of roads classes [] network each = tt
tasks_of roads classes (query ∷ queries) network each = (
  task_of roads classes query network (each query (0, (omega arith, refl))).0,
  tasks_of roads classes queries network (λ other among. each other (suc among.0, (omega (arith, among.1.0), among.1.1))),
)

module _ (roads : Roads) (answers : ℕ → ℕ → ℕ → ℕ → Type 0) (classes : ℕ) (fifo : IsFifo answers classes) where
  apart : (fault : CheckFault) → (◌≡◌ {A = Result (Unit {0}) CheckFault} (Ok tt) (Err fault)) → ⊥
  apart fault same = cc

  same_fault : (fault other : CheckFault) → (◌≡◌ {A = Result (Unit {0}) CheckFault} (Err fault) (Err other)) → fault ≡ other
  same_fault fault other same = cc

  no_memory : (fault : CheckFault) → fault ≢ OutOfMemory → ◌≢◌ {A = Result (Unit {0}) CheckFault} (Err fault) (Err OutOfMemory)
  no_memory fault other same = other (same_fault fault OutOfMemory same)

  fine : ◌≢◌ {A = Result (Unit {0}) CheckFault} (Ok tt) (Err OutOfMemory)
  fine same = cc

  formed_here : {sources : List Source} {reported : List Said} (first others : List Line) → AreInOrder (first ++ others) → SaysProblem roads.nodes sources reported first → IsWellFormed roads.nodes reported
  formed_here {sources} {reported} first others order says = well_formed roads.nodes sources reported first (after_front first others 0 order) says

  right_no_fault : {queries : List (List Source)} {problems : List (List Said)} {lines : List Line} (fault : CheckFault) → fault ≢ OutOfMemory → AreTasks roads classes queries → AreInOrder lines → SaysProblems roads.nodes queries problems lines → AreRight roads answers queries problems → IsFirstFault roads answers fault queries problems → ⊥
  right_no_fault fault other tasks order (next_problem {sources} {reported} {lines} {others} here later) right (in_this verdict) =
      let formed = formed_here lines others order here in
      apart fault (one_verdict roads answers classes sources reported tasks.0 fifo formed (Ok tt) (Err fault) (right_faultless roads answers classes sources tasks.0 fifo reported formed right.0) verdict fine (no_memory fault other))
  right_no_fault fault other tasks order (next_problem {lines} {others} here later) right (in_later faultless first) =
      right_no_fault fault other tasks.1 (after_behind lines others 0 order) later right.1 first
  right_no_fault fault other tasks order no_problem right first = elim first [ ]

  one_fault : {queries : List (List Source)} {problems : List (List Said)} {lines : List Line} (fault next : CheckFault) → fault ≢ OutOfMemory → next ≢ OutOfMemory → AreTasks roads classes queries → AreInOrder lines → SaysProblems roads.nodes queries problems lines → IsFirstFault roads answers fault queries problems → IsFirstFault roads answers next queries problems → fault ≡ next
  one_fault fault next p q tasks order (next_problem {sources} {reported} {lines} {others} here later) (in_this verdict) (in_this also) =
      same_fault fault next (one_verdict roads answers classes sources reported tasks.0 fifo (formed_here lines others order here) (Err fault) (Err next) verdict also (no_memory fault p) (no_memory next q))
  one_fault fault next p q tasks order (next_problem {sources} {reported} {lines} {others} here later) (in_this verdict) (in_later faultless first) =
      absurd (apart fault (one_verdict roads answers classes sources reported tasks.0 fifo (formed_here lines others order here) (Ok tt) (Err fault) faultless verdict fine (no_memory fault p)))
  one_fault fault next p q tasks order (next_problem {sources} {reported} {lines} {others} here later) (in_later faultless first) (in_this verdict) =
      absurd (apart next (one_verdict roads answers classes sources reported tasks.0 fifo (formed_here lines others order here) (Ok tt) (Err next) faultless verdict fine (no_memory next q)))
  one_fault fault next p q tasks order (next_problem {lines} {others} here later) (in_later faultless first) (in_later also second) =
      one_fault fault next p q tasks.1 (after_behind lines others 0 order) later first second
  one_fault fault next p q tasks order no_problem first second = elim first [ ]

  module _ (queries : List (List Source)) (lines : List Line) (tasks : AreTasks roads classes queries) (order : AreInOrder lines) where
    abbrev Checked : Result (Unit {0}) CheckFault → Type 0
    Checked result = IsChecked roads answers queries lines result

    abbrev Says : List (List Said) → Type 0
    Says problems = SaysProblems roads.nodes queries problems lines

    fine_no_fault : (fault : CheckFault) → fault ≢ OutOfMemory → (problems : List (List Said)) → Says problems → AreRight roads answers queries problems → IsFaulty roads answers queries lines fault → ⊥
    fine_no_fault fault other problems says right faulty =
        let same = one_saying faulty.form says refl in
        right_no_fault fault other tasks order says right (subst (λ (ps : List (List Said)). IsFirstFault roads answers fault queries ps) same faulty.first)

    one_faulty : (fault next : CheckFault) → fault ≢ OutOfMemory → next ≢ OutOfMemory → IsFaulty roads answers queries lines fault → IsFaulty roads answers queries lines next → fault ≡ next
    one_faulty fault next p q this that =
        let same = one_saying that.form this.form refl in
        one_fault fault next p q tasks order this.form this.first (subst (λ (ps : List (List Said)). IsFirstFault roads answers next queries ps) same that.first)

    -- the verdict on a report whose form is right
    data Told : Result (Unit {0}) CheckFault → Type 0 where
      is_right : (problems : List (List Said)) → Says problems → AreRight roads answers queries problems → Told (Ok tt)
      is_faulty : (fault : CheckFault) → fault ≢ OutOfMemory → IsFaulty roads answers queries lines fault → Told (Err fault)
      is_bad : (number : ℕ) → IsBadLine roads.nodes queries lines number → Told (Err (BadLine number))

    told : (result : Result (Unit {0}) CheckFault) → Checked result → result ≢ Err OutOfMemory → Told result
    told (Ok _) checked other = is_right checked.0 checked.1 checked.2
    told (Err (BadLine number)) checked other = is_bad number checked
    told (Err OutOfMemory) checked other = absurd (other refl)
    told (Err (NotAttained number)) checked other = is_faulty (NotAttained number) (λ same. cc) checked
    told (Err (NotLeast number)) checked other = is_faulty (NotLeast number) (λ same. cc) checked
    told (Err (NotCanonical number)) checked other = is_faulty (NotCanonical number) (λ same. cc) checked

    one_told : {this that : Result (Unit {0}) CheckFault} → Told this → Told that → this ≡ that
    one_told (is_right problems says right) (is_right told also too) = refl
    one_told (is_right problems says right) (is_faulty fault other faulty) = absurd (fine_no_fault fault other problems says right faulty)
    one_told (is_right problems says right) (is_bad number bad) = absurd (no_bad_line roads.nodes queries problems lines number says bad)
    one_told (is_faulty fault other faulty) (is_right problems says right) = absurd (fine_no_fault fault other problems says right faulty)
    one_told (is_faulty fault p this) (is_faulty next q that) = ap (λ f. Err f) (one_faulty fault next p q this that)
    one_told (is_faulty fault other faulty) (is_bad number bad) = absurd (no_bad_line roads.nodes queries faulty.problems lines number faulty.form bad)
    one_told (is_bad number bad) (is_right problems says right) = absurd (no_bad_line roads.nodes queries problems lines number says bad)
    one_told (is_bad number bad) (is_faulty fault other faulty) = absurd (no_bad_line roads.nodes queries faulty.problems lines number faulty.form bad)
    one_told (is_bad number bad) (is_bad other also) = ap (λ n. Err (BadLine n)) (one_bad_line roads.nodes queries lines number other bad also)

    pub one_checked : (this that : Result (Unit {0}) CheckFault) → Checked this → Checked that → this ≢ Err OutOfMemory → that ≢ Err OutOfMemory → this ≡ that
    one_checked this that a b p q = one_told (told this a p) (told that b q)
