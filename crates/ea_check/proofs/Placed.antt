-- A report of right form, place by place.
use Rattle.std.proofs.Common.{◌≡◌, ◌∙◌, refl, ℕ, suc, ◌+◌, List, [], ◌∷◌, ◌++◌, length, inl, inr, arith, ap, sym, subst, append_assoc}
use Rattle.std.proofs.lemmas.Bool.Decides.{eqb_tells}
use Rattle.std.specs.Prelude.{Some, None}
use Rattle.ea_road.specs.declared.TheConstants.{NONE}
use Rattle.ea_road.specs.declared.source.Source.{Source}
use Rattle.ea_check.specs.Verdicts.{WrittenWalk, Said}
use Rattle.ea_check.specs.Form.{Line, SaysSource, SaysTime, SaysNode, alone, with_walk, SaysNodes, no_node, next_node, SaysSources, SaysProblem, SaysProblems, no_problem, next_problem}
use Rattle.ea_check.specs.Places.{Remains, ended, problem_begins, source_line, inf_line, time_line, no_walk, walk_line}

any_node : {nodes node : ℕ} {queries : List (List Source)} {lines : List Line} (other : ℕ) → Remains nodes None [] node 0 queries lines → Remains nodes None [] other 0 queries lines
any_node other ended = ended
any_node other (problem_begins rest) = problem_begins rest

by_node : {nodes node count : ℕ} {said : Said} {queries : List (List Source)} {lines : List Line} (others : List Line) → SaysNode node said lines → Remains nodes None [] (node + 1) count queries others → Remains nodes None [] node (suc count) queries (lines ++ others)
by_node {node} {said} others (alone {line} says at none) rest =
    elim (eqb_tells said.time NONE) [
      | inl same ↦ inf_line (subst (λ t. SaysTime line.way line.fields node t) same.1 says) rest
      | inr has ↦ time_line said.time says has.1 (no_walk rest)
    ]
by_node {said} others (with_walk {walk} says has at some at_next walks) rest = time_line said.time says has (walk_line walk.arcs walks rest)

by_nodes : {nodes node : ℕ} {reported : List Said} {queries : List (List Source)} {lines : List Line} (others : List Line) → SaysNodes node reported lines → ((other : ℕ) → Remains nodes None [] other 0 queries others) → Remains nodes None [] node (length reported) queries (lines ++ others)
by_nodes {node} others no_node rest = rest node
by_nodes {nodes} {node} {queries} others (next_node {said} {rest = later} {lines} {others = more} here on) rest =
    subst (λ (ls : List Line). Remains nodes None [] node (suc (length later)) queries ls) (sym (append_assoc lines more others)) (by_node (more ++ others) here (by_nodes others on rest))

by_sources : {nodes node count : ℕ} {queries : List (List Source)} (sources : List Source) (first others : List Line) → SaysSources sources first → Remains nodes None [] node count queries others → Remains nodes None sources node count queries (first ++ others)
by_sources [] [] others says rest = rest
by_sources [] (line ∷ first) others says rest = absurd says
by_sources (source ∷ sources) [] others says rest = absurd says
by_sources (source ∷ sources) (line ∷ first) others says rest = source_line says.0 (by_sources sources first others says.1 rest)

pub remains : {nodes : ℕ} {queries : List (List Source)} {problems : List (List Said)} {lines : List Line} (node : ℕ) → SaysProblems nodes queries problems lines → Remains nodes None [] node 0 queries lines
remains node no_problem = ended
remains {nodes} node (next_problem {sources} {queries} {reported} {lines} {others} here later) =
    let nodes_on = by_nodes others here.of_nodes (λ other. remains other later) in
    let sized = subst (λ n. Remains nodes None [] 1 n queries (here.others ++ others)) here.each_node nodes_on in
    let all = by_sources sources here.first (here.others ++ others) here.of_sources sized in
    let same : here.first ++ (here.others ++ others) ≡ lines ++ others = sym (append_assoc here.first here.others others) ∙ ap (λ (ls : List Line). ls ++ others) (sym here.cut) in
    problem_begins (subst (λ (ls : List Line). Remains nodes None sources 1 nodes queries ls) same all)

-- what lines that remain say
pub record Found (nodes : ℕ) (sources : List Source) (node count : ℕ) (queries : List (List Source)) (lines : List Line) : Type 0 where
  pub first : List Line
  pub others : List Line
  pub more : List Line
  pub reported : List Said
  pub problems : List (List Said)
  pub cut : lines ≡ first ++ (others ++ more)
  pub of_sources : SaysSources sources first
  pub of_nodes : SaysNodes node reported others
  pub each_node : length reported ≡ count
  pub of_problems : SaysProblems nodes queries problems more

no_sources : {node : ℕ} {reported : List Said} (first others : List Line) → SaysSources [] first → SaysNodes node reported others → SaysNodes node reported (first ++ others)
no_sources [] others says on = on
no_sources (line ∷ first) others says on = absurd says

pub found : {nodes node count : ℕ} {sources : List Source} {queries : List (List Source)} {lines : List Line} → Remains nodes None sources node count queries lines → Found nodes sources node count queries lines
found ended = record { first = []; others = []; more = []; reported = []; problems = []; cut = refl; of_sources = tt; of_nodes = no_node; each_node = refl; of_problems = no_problem }
found {nodes} (problem_begins {sources} {queries} {lines} rest) =
    let later = found rest in
    let said : SaysProblem nodes sources later.reported (later.first ++ later.others) = record {
      first = later.first;
      others = later.others;
      cut = refl;
      of_sources = later.of_sources;
      of_nodes = later.of_nodes;
      each_node = later.each_node;
    } in
    record {
      first = [];
      others = [];
      more = lines;
      reported = [];
      problems = later.reported ∷ later.problems;
      cut = refl;
      of_sources = tt;
      of_nodes = no_node;
      each_node = refl;
      of_problems = subst (λ (ls : List Line). SaysProblems nodes (sources ∷ queries) (later.reported ∷ later.problems) ls) (append_assoc later.first later.others later.more ∙ sym later.cut) (next_problem said later.of_problems);
    }
found (source_line {line} says rest) =
    let later = found rest in
    record {
      first = line ∷ later.first;
      others = later.others;
      more = later.more;
      reported = later.reported;
      problems = later.problems;
      cut = ap (λ (ls : List Line). line ∷ ls) later.cut;
      of_sources = (says, later.of_sources);
      of_nodes = later.of_nodes;
      each_node = later.each_node;
      of_problems = later.of_problems;
    }
found (inf_line {node} {line} says rest) =
    let later = found rest in
    let said : Said = record { line = line.number; time = NONE; walk = None } in
    let here : SaysNode node said (line ∷ []) = alone says refl refl in
    record {
      first = [];
      others = line ∷ later.first ++ later.others;
      more = later.more;
      reported = said ∷ later.reported;
      problems = later.problems;
      cut = ap (λ (ls : List Line). line ∷ ls) (later.cut ∙ sym (append_assoc later.first later.others later.more));
      of_sources = tt;
      of_nodes = next_node here (no_sources later.first later.others later.of_sources later.of_nodes);
      each_node = ap suc later.each_node;
      of_problems = later.of_problems;
    }
found (time_line {node} {line} time says has (no_walk rest)) =
    let later = found rest in
    let said : Said = record { line = line.number; time = time; walk = None } in
    let here : SaysNode node said (line ∷ []) = alone says refl refl in
    record {
      first = [];
      others = line ∷ later.first ++ later.others;
      more = later.more;
      reported = said ∷ later.reported;
      problems = later.problems;
      cut = ap (λ (ls : List Line). line ∷ ls) (later.cut ∙ sym (append_assoc later.first later.others later.more));
      of_sources = tt;
      of_nodes = next_node here (no_sources later.first later.others later.of_sources later.of_nodes);
      each_node = ap suc later.each_node;
      of_problems = later.of_problems;
    }
found (time_line {node} {line} time says has (walk_line {line = next} arcs walks rest)) =
    let later = found rest in
    let walk : WrittenWalk = record { line = next.number; arcs = arcs } in
    let said : Said = record { line = line.number; time = time; walk = Some walk } in
    let here : SaysNode node said (line ∷ next ∷ []) = with_walk says has refl refl refl walks in
    record {
      first = [];
      others = line ∷ next ∷ later.first ++ later.others;
      more = later.more;
      reported = said ∷ later.reported;
      problems = later.problems;
      cut = ap (λ (ls : List Line). line ∷ next ∷ ls) (later.cut ∙ sym (append_assoc later.first later.others later.more));
      of_sources = tt;
      of_nodes = next_node here (no_sources later.first later.others later.of_sources later.of_nodes);
      each_node = ap suc later.each_node;
      of_problems = later.of_problems;
    }

-- the first line that remains is one that its place requires
pub asks_source : {nodes node count : ℕ} {source : Source} {sources : List Source} {queries : List (List Source)} {line : Line} {lines : List Line} → Remains nodes None (source ∷ sources) node count queries (line ∷ lines) → SaysSource line.way line.fields source.node source.departure
asks_source (source_line says rest) = says

pub asks_time : {nodes node count : ℕ} {queries : List (List Source)} {line : Line} {lines : List Line} → Remains nodes None [] node (suc count) queries (line ∷ lines) → (time : ℕ) × SaysTime line.way line.fields node time
asks_time (inf_line says rest) = (NONE, says)
asks_time (time_line time says has rest) = (time, says)

pub asks_end : {nodes node : ℕ} {line : Line} {lines : List Line} → Remains nodes None [] node 0 [] (line ∷ lines) → ⊥
asks_end says = no_line refl says
  where
    no_line : {nodes node : ℕ} {line : Line} {lines all : List Line} → all ≡ line ∷ lines → Remains nodes None [] node 0 [] all → ⊥
    no_line same ended = cc

pub says : (nodes : ℕ) (queries : List (List Source)) (lines : List Line) → Remains nodes None [] 0 0 queries lines → (problems : List (List Said)) × SaysProblems nodes queries problems lines
says nodes queries lines rest =
    let at = found rest in
    (at.problems, subst (λ (ls : List Line). SaysProblems nodes queries at.problems ls) (sym (at.cut ∙ alone_behind at.reported at.first at.others at.more at.each_node at.of_sources at.of_nodes)) at.of_problems)
  where
    alone_behind : {node : ℕ} (reported : List Said) (first others more : List Line) → length reported ≡ 0 → SaysSources [] first → SaysNodes node reported others → first ++ (others ++ more) ≡ more
    alone_behind reported [] others more none of_sources of_nodes = ap (λ (ls : List Line). ls ++ more) (no_lines none of_nodes)
      where
        no_lines : {node : ℕ} {reported : List Said} {lines : List Line} → length reported ≡ 0 → SaysNodes node reported lines → lines ≡ []
        no_lines none no_node = refl
        no_lines none (next_node here later) = absurd (omega arith)
    alone_behind reported (line ∷ first) others more none of_sources of_nodes = absurd of_sources
