-- Which line is bad.
use Rattle.std.proofs.Common.{◌≡◌, ◌≢◌, refl, ℕ, zero, suc, ◌+◌, ◌^◌, ◌&&◌, ◌<◌, List, [], ◌∷◌, ◌++◌, length, Bool, true, false, inl, inr, arith, ap, sym, subst, append_assoc}
use Rattle.std.proofs.lemmas.Bool.{lt-ltb}
use Rattle.std.proofs.lemmas.Bool.Decides.{eqb_tells}
use Rattle.std.proofs.lemmas.Fmt.{decimal_is_IsNumeral}
use Rattle.std.proofs.lemmas.Str.Parse.{numerals_by_value, tells_all_ascii_digits}
use Rattle.std.specs.Fmt.{decimal}
use Rattle.std.specs.Str.{all_ascii_digits}
use Rattle.std.specs.Prelude.{Option, Some, None, codes, if◌then◌else◌}
use Rattle.ea_base.specs.declared.direction.Direction.TheVariants.{Forward}
use Rattle.ea_bytes.specs.Text.{number_of}
use Rattle.ea_road.specs.declared.TheConstants.{NONE}
use Rattle.ea_road.specs.declared.source.Source.{Source}
use Rattle.ea_check.specs.Form.{Line, SaysTime, SaysProblems, IsBadLine, at_line, at_end}
use Rattle.ea_check.specs.Places.{Remains, ended, problem_begins, source_line, inf_line, time_line, no_walk, walk_line, AreSmall, AreAllSmall}
use Rattle.ea_check.specs.Verdicts.{Said}
use Rattle.ea_check.specs.Reads.{ReadsSources, SourcesWrong, NoWalkNext, ReadsNode, without_walk, and_walk, NodeWrong, no_line, no_time, no_such_walk, ReadsNodes, no_more, one_more, NodesWrong, in_node, behind_node, in_sources, in_nodes, ReportWrong, too_long, in_problem, behind_problem}
use Rattle.ea_check.proofs.Placed.{remains, says, asks_source, asks_time, asks_end}
use Rattle.ea_check.proofs.Steps.{after_source, after_inf, after_time, after_walk, asks_walk, walk_begins, without_walk_line}

chosen : (a b : Bool) (value n : ℕ) → a ≡ true → b ≡ true → value ≡ n → (if a && b then Some value else None) ≡ Some n
chosen true true value n p q e = ap (λ k. Some k) e
chosen true false value n p q e = cc
chosen false b value n p q e = cc

-- each number can be written
pub number_written : (n : ℕ) → n < 2 ^ 64 → number_of (decimal n) ≡ Some n
number_written n small =
    let numeral = decimal_is_IsNumeral n small in
    chosen _ _ _ n (lt-ltb 0 (length (decimal n)) numeral.0.0) ((numerals_by_value (λ ds. all_ascii_digits ds ≡ true) tells_all_ascii_digits).from (decimal n) numeral.0.1) numeral.1

-- lines that begin with the same line, or with none
abbrev BeginsAs : List Line → List Line → Type 0
BeginsAs [] rest = rest ≡ []
BeginsAs (line ∷ lines) rest = (more : List Line) × (rest ≡ line ∷ more)

begins_self : (lines : List Line) → BeginsAs lines lines
begins_self [] = refl
begins_self (line ∷ lines) = (lines, refl)

begins_both : (before after rest : List Line) (line : Line) → BeginsAs (before ++ line ∷ after) (before ++ line ∷ rest)
begins_both [] after rest line = (rest, refl)
begins_both (first ∷ before) after rest line = (before ++ line ∷ rest, refl)

no_walk_begins : (lines rest : List Line) → BeginsAs lines rest → NoWalkNext lines → NoWalkNext rest
no_walk_begins [] rest same none = rw same tt
no_walk_begins (line ∷ lines) rest same none = rw same.1 none

module _ (nodes : ℕ) where
  abbrev CanEnd : Option ℕ → List Source → ℕ → ℕ → List (List Source) → List Line → Type 0
  CanEnd walk sources node count queries lines = (rest : List Line) × Remains nodes walk sources node count queries (lines ++ rest)

  with_nodes : (queries : List (List Source)) (count node : ℕ) → node + count < 2 ^ 64 → ((other : ℕ) → CanEnd None [] other 0 queries []) → CanEnd None [] node count queries []
  with_nodes queries zero node small later = later node
  with_nodes queries (suc count) node small later =
      let on = with_nodes queries count (node + 1) (omega arith) later in
      let line : Line = record { number = 0; fields = codes "d" ∷ decimal node ∷ codes "inf" ∷ []; way = Forward } in
      (line ∷ on.0, inf_line (refl, number_written node (omega arith), inl (refl, refl)) on.1)

  with_sources : (queries : List (List Source)) (sources : List Source) (node count : ℕ) → AreSmall sources → CanEnd None [] node count queries [] → CanEnd None sources node count queries []
  with_sources queries [] node count small later = later
  with_sources queries (source ∷ sources) node count small later =
      let on = with_sources queries sources node count small.2 later in
      let line : Line = record { number = 0; fields = codes "s" ∷ decimal source.node ∷ decimal source.departure ∷ []; way = Forward } in
      (line ∷ on.0, source_line (refl, number_written source.node small.0, number_written source.departure small.1) on.1)

  with_queries : (queries : List (List Source)) → nodes + 1 < 2 ^ 64 → AreAllSmall queries → (node : ℕ) → CanEnd None [] node 0 queries []
  with_queries [] few small node = ([], ended)
  with_queries (sources ∷ queries) few small node =
      let on = with_sources queries sources 1 nodes small.0 (with_nodes queries nodes 1 (omega arith) (with_queries queries few small.1)) in
      (on.0, problem_begins on.1)

  -- the first of these lines with which no end of what remains begins; 0 if the lines end too early
  data BadFrom (walk : Option ℕ) (sources : List Source) (node count : ℕ) (queries : List (List Source)) : List Line → ℕ → Type 0 where
    bad_at : (before after : List Line) (bad : Line) → CanEnd walk sources node count queries before → ((rest : List Line) → Remains nodes walk sources node count queries (before ++ bad ∷ rest) → ⊥) → BadFrom walk sources node count queries (before ++ bad ∷ after) bad.number
    bad_end : {lines : List Line} → CanEnd walk sources node count queries lines → (Remains nodes walk sources node count queries lines → ⊥) → BadFrom walk sources node count queries lines 0

  -- one more line in front
  push : (walk next : Option ℕ) (sources later : List Source) (node on count left : ℕ) (queries others : List (List Source)) (line : Line) {after : List Line} {number : ℕ} → ((rest : List Line) → BeginsAs after rest → Remains nodes walk sources node count queries (line ∷ rest) → Remains nodes next later on left others rest) → ((rest : List Line) → Remains nodes next later on left others rest → Remains nodes walk sources node count queries (line ∷ rest)) → BadFrom next later on left others after number → BadFrom walk sources node count queries (line ∷ after) number
  push walk next sources later node on count left queries others line forth back (bad_at before after bad can none) =
      bad_at (line ∷ before) after bad (can.0, back (before ++ can.0) can.1) (λ rest ends. none rest (forth (before ++ bad ∷ rest) (begins_both before after rest bad) ends))
  push walk next sources later node on count left queries others line forth back (bad_end {lines} can none) =
      bad_end (can.0, back (lines ++ can.0) can.1) (λ ends. none (forth lines (begins_self lines) ends))

  -- the same lines remain
  same : (walk next : Option ℕ) (sources later : List Source) (node on count left : ℕ) (queries others : List (List Source)) {lines : List Line} {number : ℕ} → ((rest : List Line) → BeginsAs lines rest → Remains nodes walk sources node count queries rest → Remains nodes next later on left others rest) → ((rest : List Line) → Remains nodes next later on left others rest → Remains nodes walk sources node count queries rest) → BadFrom next later on left others lines number → BadFrom walk sources node count queries lines number
  same walk next sources later node on count left queries others forth back (bad_at before after bad can none) =
      bad_at before after bad (can.0, back (before ++ can.0) can.1) (λ rest ends. none rest (forth (before ++ bad ∷ rest) (begins_both before after rest bad) ends))
  same walk next sources later node on count left queries others forth back (bad_end {lines} can none) =
      bad_end (can.0, back (lines ++ can.0) can.1) (λ ends. none (forth lines (begins_self lines) ends))

  no_lines : {sources : List Source} {node count : ℕ} {queries : List (List Source)} {source : Source} {lines : List Line} → lines ≡ [] → Remains nodes None (source ∷ sources) node count queries lines → ⊥
  no_lines none (source_line says rest) = cc

  no_node_lines : {node count : ℕ} {queries : List (List Source)} {lines : List Line} → lines ≡ [] → Remains nodes None [] node (suc count) queries lines → ⊥
  no_node_lines none (inf_line says rest) = cc
  no_node_lines none (time_line time says has rest) = cc

  module _ (few : nodes + 1 < 2 ^ 64) where
    bad_source : (sources : List Source) (node count : ℕ) (queries : List (List Source)) (lines : List Line) (number : ℕ) → node + count < 2 ^ 64 → AreSmall sources → AreAllSmall queries → SourcesWrong sources lines number → BadFrom None sources node count queries lines number
    bad_source [] node count queries lines number short small all_small wrong = absurd wrong
    bad_source (source ∷ sources) node count queries [] number short small all_small wrong =
        let can = with_sources queries (source ∷ sources) node count small (with_nodes queries count node short (with_queries queries few all_small)) in
        subst (λ n. BadFrom None (source ∷ sources) node count queries [] n) (sym wrong) (bad_end can (λ ends. no_lines refl ends))
    bad_source (source ∷ sources) node count queries (line ∷ lines) number short small all_small (inl here) =
        let can = with_sources queries (source ∷ sources) node count small (with_nodes queries count node short (with_queries queries few all_small)) in
        subst (λ n. BadFrom None (source ∷ sources) node count queries (line ∷ lines) n) (sym here.0) (bad_at [] lines line can (λ rest ends. here.1 (asks_source ends)))
    bad_source (source ∷ sources) node count queries (line ∷ lines) number short small all_small (inr later) =
        push None None (source ∷ sources) sources node node count count queries queries line (λ rest begins ends. after_source nodes line ends) (λ rest ends. source_line later.0 ends) (bad_source sources node count queries lines number short small.2 all_small later.1)

    behind_sources : (sources : List Source) (node count : ℕ) (queries : List (List Source)) (lines middle : List Line) (number : ℕ) → ReadsSources sources lines middle → BadFrom None [] node count queries middle number → BadFrom None sources node count queries lines number
    behind_sources [] node count queries lines middle number reads bad = subst (λ (ls : List Line). BadFrom None [] node count queries ls number) (sym reads) bad
    behind_sources (source ∷ sources) node count queries [] middle number reads bad = absurd reads
    behind_sources (source ∷ sources) node count queries (line ∷ lines) middle number reads bad =
        push None None (source ∷ sources) sources node node count count queries queries line (λ rest begins ends. after_source nodes line ends) (λ rest ends. source_line reads.0 ends) (behind_sources sources node count queries lines middle number reads.1 bad)

    -- a line with a time, before a possible walk
    push_time : (node count : ℕ) (queries : List (List Source)) (line : Line) (time : ℕ) {after : List Line} {number : ℕ} → SaysTime line.way line.fields node time → time ≢ NONE → BadFrom (Some node) [] (node + 1) count queries after number → BadFrom None [] node (suc count) queries (line ∷ after) number
    push_time node count queries line time says has bad =
        push None (Some node) [] [] node (node + 1) (suc count) count queries queries line (λ rest begins ends. after_time nodes line time says has ends) (λ rest ends. time_line time says has ends) bad

    bad_node : (node count : ℕ) (queries : List (List Source)) (lines : List Line) (number : ℕ) → node + suc count < 2 ^ 64 → AreAllSmall queries → NodeWrong node lines number → BadFrom None [] node (suc count) queries lines number
    bad_node node count queries lines number short all_small no_line =
        bad_end (with_nodes queries (suc count) node short (with_queries queries few all_small)) (λ ends. no_node_lines refl ends)
    bad_node node count queries lines number short all_small (no_time {line} {others} none) =
        bad_at [] others line (with_nodes queries (suc count) node short (with_queries queries few all_small)) (λ rest ends. let asks = asks_time ends in none asks.0 asks.1)
    bad_node node count queries lines number short all_small (no_such_walk {line} {next} {others} time says has begins none) =
        let on = with_nodes queries count (node + 1) (omega arith) (with_queries queries few all_small) in
        push_time node count queries line time says has (bad_at [] others next (on.0, no_walk on.1) (λ rest ends. let asks = asks_walk nodes next begins ends in none asks.0 asks.1))

    behind_a_node : (node count : ℕ) (queries : List (List Source)) {said : Said} {lines others : List Line} {number : ℕ} → ReadsNode node said lines others → BadFrom None [] (node + 1) count queries others number → BadFrom None [] node (suc count) queries lines number
    behind_a_node node count queries {said} {number} (without_walk {line} {others} says at none quiet) bad =
        elim (eqb_tells said.time NONE) [
          | inl inf ↦
              let says_inf = subst (λ t. SaysTime line.way line.fields node t) inf.1 says in
              push None None [] [] node (node + 1) (suc count) count queries queries line (λ rest begins ends. after_inf nodes line says_inf ends) (λ rest ends. inf_line says_inf ends) bad
          | inr has ↦
              push_time node count queries line said.time says has.1
              (same (Some node) None [] [] (node + 1) (node + 1) count count queries queries (λ rest begins ends. without_walk_line rest (no_walk_begins others rest begins (quiet has.1)) ends) (λ rest ends. no_walk ends) bad)
        ]
    behind_a_node node count queries {said} {number} (and_walk {line} {next} {walk} {others} says has at some at_next walks) bad =
        push_time node count queries line said.time says has
        (push (Some node) None [] [] (node + 1) (node + 1) count count queries queries next (λ rest begins ends. after_walk nodes next (walk_begins next.way next.fields node walk.arcs walks) ends) (λ rest ends. walk_line walk.arcs walks ends) bad)

    bad_in_nodes : (queries : List (List Source)) {node count number : ℕ} {lines : List Line} → node + count < 2 ^ 64 → AreAllSmall queries → NodesWrong node count lines number → BadFrom None [] node count queries lines number
    bad_in_nodes queries short all_small (in_node {node} {count} {number} {lines} wrong) = bad_node node count queries lines number short all_small wrong
    bad_in_nodes queries short all_small (behind_node {node} {count} here wrong) =
        behind_a_node node count queries here (bad_in_nodes queries (omega arith) all_small wrong)

    behind_nodes : (queries : List (List Source)) {node number : ℕ} {reported : List Said} {lines others : List Line} → ReadsNodes node reported lines others → ((other : ℕ) → BadFrom None [] other 0 queries others number) → BadFrom None [] node (length reported) queries lines number
    behind_nodes queries (no_more {node}) bad = bad node
    behind_nodes queries (one_more {node} {later} here on) bad = behind_a_node node (length later) queries here (behind_nodes queries on bad)

    begin_problem : (sources : List Source) (queries : List (List Source)) (node : ℕ) {lines : List Line} {number : ℕ} → BadFrom None sources 1 nodes queries lines number → BadFrom None [] node 0 (sources ∷ queries) lines number
    begin_problem sources queries node bad =
        same None None [] sources node 1 0 nodes (sources ∷ queries) queries (λ rest begins ends. begun ends) (λ rest ends. problem_begins ends) bad
      where
        begun : {node : ℕ} {rest : List Line} → Remains nodes None [] node 0 (sources ∷ queries) rest → Remains nodes None sources 1 nodes queries rest
        begun (problem_begins ends) = ends

    bad_report : {queries : List (List Source)} {lines : List Line} {number : ℕ} (node : ℕ) → AreAllSmall queries → ReportWrong nodes queries lines number → BadFrom None [] node 0 queries lines number
    bad_report node all_small (too_long {line} {others}) = bad_at [] others line ([], ended) (λ rest ends. asks_end ends)
    bad_report node all_small (in_problem {sources} {queries} {lines} {number} (in_sources wrong)) =
        begin_problem sources queries node (bad_source sources 1 nodes queries lines number (omega arith) all_small.0 all_small.1 wrong)
    bad_report node all_small (in_problem {sources} {queries} {lines} {number} (in_nodes {middle} reads wrong)) =
        begin_problem sources queries node (behind_sources sources 1 nodes queries lines middle number reads (bad_in_nodes queries (omega arith) all_small.1 wrong))
    bad_report node all_small (behind_problem {sources} {queries} {reported} {lines} {others} {number} here wrong) =
        let later : (other : ℕ) → BadFrom None [] other 0 queries others number = λ other. bad_report other all_small.1 wrong in
        let on = subst (λ n. BadFrom None [] 1 n queries here.middle number) here.each_node (behind_nodes queries here.of_nodes later) in
        begin_problem sources queries node (behind_sources sources 1 nodes queries lines here.middle number here.of_sources on)

    is_bad : {queries : List (List Source)} {lines : List Line} {number : ℕ} → BadFrom None [] 0 0 queries lines number → IsBadLine nodes queries lines number
    is_bad {queries} (bad_at before after bad can none) =
        let whole = says nodes queries (before ++ can.0) can.1 in
        at_line before after bad refl (record { rest = can.0; problems = whole.0; whole = whole.1 }) (λ on.
        let joined : (before ++ bad ∷ []) ++ on.rest ≡ before ++ (bad ∷ on.rest) = append_assoc before (bad ∷ []) on.rest in
        none on.rest (remains 0 (subst (λ (ls : List Line). SaysProblems nodes queries on.problems ls) joined on.whole)))
    is_bad {queries} (bad_end {lines} can none) =
        let whole = says nodes queries (lines ++ can.0) can.1 in
        at_end (record { rest = can.0; problems = whole.0; whole = whole.1 }) (λ problems all. none (remains 0 all))

    -- the line at which reading goes wrong is bad
    pub wrong_is_bad : (queries : List (List Source)) (lines : List Line) (number : ℕ) → AreAllSmall queries → ReportWrong nodes queries lines number → IsBadLine nodes queries lines number
    wrong_is_bad queries lines number all_small wrong = is_bad (bad_report 0 all_small wrong)
