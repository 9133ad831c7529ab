-- Reports of the same problems are equal.
use Rattle.std.proofs.Common.{◌≡◌, ◌==◌, ℕ, zero, suc, ◌<◌, Bool, true, false, List, [], ◌∷◌, ◌++◌, ◌^◌, length, get_or, refl, ap, ap₂, sym, ◌∙◌, arith, subst}
use Rattle.std.specs.Prelude.{All, Option, Some, None, unwrap_or, if◌then◌else◌}
use Rattle.std.specs.List.{flat_map}
use Rattle.std.proofs.lemmas.List.Elements.{Contains-get_or}
use Rattle.std.proofs.lemmas.Option.{none-some}
use Rattle.ea_bytes.specs.Text.{field_lines}
use Rattle.ea_road.specs.declared.TheConstants.{NONE}
use Rattle.ea_road.specs.Roads.{Roads, IsNode}
use Rattle.ea_road.specs.Queries.{Asking}
use Rattle.ea_road.specs.Arrivals.{IsLeastAt}
use Rattle.ea_road.specs.Labels.{time_of, label_of}
use Rattle.ea_road.proofs.Fixed.{one_least}
use Rattle.ea_road.proofs.Canonical.{one_canonical}
use Rattle.ea_search.specs.Answers.{Answered, arrival_of, walk_of}
use Rattle.ea_search.specs.Links.{linked_walk}
use Rattle.ea_base.specs.declared.direction.Direction.{Direction}
use Rattle.ea_base.specs.declared.direction.Direction.TheVariants.{Forward, Turned}
use Rattle.ea_report.specs.Asked.{AreChosen, Shape}
use Rattle.ea_report.specs.Report.{asked_line, each_node, report_text, reported_node, reported_nodes, start_line, time_line, way_text}
use Rattle.ea_report.specs.declared.style.Style.{Style}
use Rattle.ea_asked.specs.Asked.{HasArrivalsAt, IsAnswerAt}
use Rattle.ea_batch.specs.Reported.{IsReportOf, AreReported}
use Rattle.ea_batch.specs.Shown.{IsShownIn, IsShownOf}
use Rattle.ea_report.proofs.Problems.{all_text, target_text}
use Rattle.ea_input.specs.Graph.{Graph, DenotesGraph}
use Rattle.ea_input.specs.Table.{Table}
use Rattle.ea_input.specs.Sources.{DenotesSources}
use Rattle.ea_input.specs.Pairs.{DenotesPairs}
use Rattle.ea_input.specs.Times.{DenotesTimes}
use Rattle.ea_road.specs.Turned.{directed_roads}
use Rattle.ea_input.proofs.Grammars.{grammar_law, graph_grammar, source_grammar, pair_grammar, table_grammar, time_grammar}
use Rattle.ea_load.specs.Files.{Extras}
use Rattle.ea_load.specs.Given.{Given, Denotes, IsTableOf, no_table, roads_of, times_in}
use Rattle.ea_load.specs.Starts.{Plan, aim_of, run_problems, pair_problems}
use Rattle.ea_load.proofs.Asking.{none_aimed}
use Rattle.ea_load.proofs.Denoting.{denoting_is_sound, few_arcs, pairs_are_nodes, sources_are_nodes}
use Rattle.ea_load.proofs.Departing.{each_pair}
use Rattle.earliest.specs.SameBytes.{DenoteExtras, DenotesOptional, PairsHaveOneReport, RunsHaveOneReport, Texts, plan_wanted, shape_wanted}

-- There is a walk exactly if there is an arrival.
no_walk : (label : ℕ) (walk : List ℕ) → time_of label ≡ None → (if label == NONE then None else Some walk) ≡ None
no_walk label walk none = by (label == NONE) refl none where
  by : (b : Bool) → label == NONE ≡ b → (if b then None else Some label) ≡ None → (if b then None else Some walk) ≡ None
  by true is e = refl
  by false is e = absurd (none-some label (sym e))

a_walk : (label time : ℕ) (walk : List ℕ) → time_of label ≡ Some time → (if label == NONE then None else Some walk) ≡ Some walk
a_walk label time walk some = by (label == NONE) some where
  by : (b : Bool) → (if b then None else Some label) ≡ Some time → (if b then None else Some walk) ≡ Some walk
  by true e = absurd (none-some time e)
  by false e = refl

module _ (roads : Roads) (answers : ℕ → ℕ → ℕ → ℕ → Type 0) (query : Asking) (shown : ℕ → Type 0) (this that : Answered) (these : HasArrivalsAt roads answers query shown this) (those : HasArrivalsAt roads answers query shown that) where
  same_arrival : (node : ℕ) → IsNode roads.nodes node → shown node → arrival_of this node ≡ arrival_of that node
  same_arrival node is_node is = one_least roads answers query node (arrival_of this node) (arrival_of that node) (these.least node is_node is) (those.least node is_node is)

  module _ (mine : IsAnswerAt roads answers query shown this) (yours : IsAnswerAt roads answers query shown that) where
    same_walk : (node : ℕ) → IsNode roads.nodes node → shown node → walk_of this node ≡ walk_of that node
    same_walk node is_node is = by (arrival_of this node) refl where
      by : (arrival : Option ℕ) → arrival_of this node ≡ arrival → walk_of this node ≡ walk_of that node
      by None none = no_walk (label_of this.labels node) (linked_walk this.links node) none ∙ sym (no_walk (label_of that.labels node) (linked_walk that.links node) (sym (same_arrival node is_node is) ∙ none))
      by (Some time) some =
          let here = a_walk (label_of this.labels node) time (linked_walk this.links node) some in
          let there = a_walk (label_of that.labels node) time (linked_walk that.links node) (sym (same_arrival node is_node is) ∙ some) in
          here ∙ ap Some (one_canonical roads answers query.sources (IsLeastAt roads answers query.sources) (mine.canonical node (linked_walk this.links node) is_node is here) (yours.canonical node (linked_walk that.links node) is_node is there)) ∙ sym there

  same_node : (style : Style) → (style.walks ≡ true → IsAnswerAt roads answers query shown this) → (style.walks ≡ true → IsAnswerAt roads answers query shown that) → (node : ℕ) → IsNode roads.nodes node → shown node → reported_node style this node ≡ reported_node style that node
  same_node style mine yours node is_node is = by style.walks refl where
    by : (walks : Bool) → style.walks ≡ walks
        → (time_line style.direction node (arrival_of this node) ++ (if walks then way_text style.direction node (walk_of this node) else [])) ≡ (time_line style.direction node (arrival_of that node) ++ (if walks then way_text style.direction node (walk_of that node) else []))
    by false without = ap (λ arrival. time_line style.direction node arrival ++ []) (same_arrival node is_node is)
    by true with_walks = ap₂ (λ arrival walk. time_line style.direction node arrival ++ way_text style.direction node walk) (same_arrival node is_node is) (same_walk (mine with_walks) (yours with_walks) node is_node is)

each_same : (f g : ℕ → List ℕ) (n : ℕ) → ((node : ℕ) → IsNode n node → f node ≡ g node) → each_node f n ≡ each_node g n
each_same f g n same = up n (λ node is_node. is_node) where
  up : (k : ℕ) → ((node : ℕ) → IsNode k node → IsNode n node) → each_node f k ≡ each_node g k
  up zero inside = refl
  up (suc k) inside = ap₂ (λ a b. a ++ b) (up k (λ node is_node. inside node (record { from_one = is_node.from_one; to_last = omega (arith, is_node.to_last) }))) (same (suc k) (inside (suc k) (record { from_one = omega arith; to_last = omega arith })))

chosen_same : (f g : ℕ → List ℕ) (nodes : List ℕ) → All (λ node. f node ≡ g node) nodes → flat_map f nodes ≡ flat_map g nodes
chosen_same f g [] same = refl
chosen_same f g (node ∷ nodes) same = ap₂ (λ a b. a ++ b) (same 0 node (omega arith)) (chosen_same f g nodes (λ k d lt. same (suc k) d (omega arith)))

-- A problem has one report, if its target and the chosen nodes are nodes.
one_problem : (shape : Shape) (roads : Roads) (answers : ℕ → ℕ → ℕ → ℕ → Type 0) (query : Asking) → ((node : ℕ) → query.target ≡ Some node → IsNode roads.nodes node) → AreChosen roads.nodes shape.chosen → (first second : List ℕ) → IsReportOf shape roads answers query first → IsReportOf shape roads answers query second → first ≡ second
one_problem shape roads answers query inside chosen first second this that = this.says ∙ asked query.target refl ∙ sym that.says where
  node_is : (node : ℕ) → IsNode roads.nodes node → IsShownIn shape.chosen query node → reported_node shape.style this.answer node ≡ reported_node shape.style that.answer node
  node_is = same_node roads answers query (IsShownIn shape.chosen query) this.answer that.answer this.least that.least shape.style this.canonical that.canonical

  is_shown : {some : Option (List ℕ)} → query.target ≡ None → shape.chosen ≡ some → (node : ℕ) → IsShownOf some None node → IsShownIn shape.chosen query node
  is_shown {some} none same node is = subst (λ t. IsShownOf shape.chosen t node) (sym none) (subst (λ chosen. IsShownOf chosen None node) (sym same) is)

  nodes_are : query.target ≡ None → (some : Option (List ℕ)) → shape.chosen ≡ some → AreChosen roads.nodes some → reported_nodes shape.style some roads.nodes this.answer ≡ reported_nodes shape.style some roads.nodes that.answer
  nodes_are none None all are =
      each_same (reported_node shape.style this.answer) (reported_node shape.style that.answer) roads.nodes (λ node is_node. node_is node is_node (is_shown none all node tt))
  nodes_are none (Some nodes) some are =
      chosen_same (reported_node shape.style this.answer) (reported_node shape.style that.answer) nodes (λ k d lt. node_is (get_or nodes k d) (are k d lt) (is_shown none some (get_or nodes k d) (Contains-get_or nodes k d lt)))

  asked : (target : Option ℕ) → query.target ≡ target → report_text shape.style shape.chosen roads.nodes query this.answer ≡ report_text shape.style shape.chosen roads.nodes query that.answer
  asked None none =
      sym (all_text shape.style shape.chosen roads.nodes query this.answer none)
      ∙ ap (λ t. flat_map (start_line shape.style.direction) query.sources ++ t) (nodes_are none shape.chosen refl chosen)
      ∙ all_text shape.style shape.chosen roads.nodes query that.answer none
  asked (Some target) some =
      sym (target_text shape.style shape.chosen roads.nodes query this.answer target some)
      ∙ ap (λ t. flat_map (asked_line shape.style.direction target) query.sources ++ t) (node_is target (inside target some) (subst (λ t. IsShownOf shape.chosen t target) (sym some) refl))
      ∙ target_text shape.style shape.chosen roads.nodes query that.answer target some

-- The same for many problems.
many : (shape : Shape) (roads : Roads) (answers : ℕ → ℕ → ℕ → ℕ → Type 0) (problems : List Asking) → ((k : ℕ) (d : Asking) (node : ℕ) → k < length problems → (get_or problems k d).target ≡ Some node → IsNode roads.nodes node) → AreChosen roads.nodes shape.chosen → (first second : List ℕ) → AreReported shape roads answers problems first → AreReported shape roads answers problems second → first ≡ second
many shape roads answers [] inside chosen first second this that = this ∙ sym that
many shape roads answers (query ∷ problems) inside chosen first second this that =
    this.4
    ∙ ap₂ (λ a b. a ++ b) (one_problem shape roads answers query (λ node is. inside 0 query node (omega arith) is) chosen this.0 that.0 this.2 that.2) (many shape roads answers problems (λ k d node lt is. inside (suc k) d node (omega arith) is) chosen this.1 that.1 this.3 that.3)
    ∙ sym that.4

-- ---- what texts denote is one

one_graph : (lines : List (List (List ℕ))) (this that : Graph) → DenotesGraph lines this → DenotesGraph lines that → this ≡ that
one_graph lines this that a b = (grammar_law graph_grammar).one_value lines this that a b

one_table : (arcs : ℕ) → arcs < 2 ^ 64 → (tp : Option (List ℕ)) (this that : Table) → IsTableOf arcs tp this → IsTableOf arcs tp that → this ≡ that
one_table arcs small None this that a b = a ∙ sym b
one_table arcs small (Some text) this that a b = (grammar_law (table_grammar arcs small)).one_value (field_lines text) this that a b

one_given : (gr : List ℕ) (tp : Option (List ℕ)) (this that : Given) → Denotes gr tp this → Denotes gr tp that → this ≡ that
one_given gr tp this that a b =
    let graph = one_graph (field_lines gr) this.graph that.graph a.graph b.graph in
    let few : length that.graph.arcs < 2 ^ 64 = omega (arith, few_arcs (field_lines gr) that.graph b.graph) in
    let here = subst (λ (g : Graph). IsTableOf (length g.arcs) tp this.table) graph a.table in
    ap₂ (λ (g : Graph) (t : Table). record { graph = g; table = t }) graph (one_table (length that.graph.arcs) few tp this.table that.table here b.table)

few_nodes : (lines : List (List (List ℕ))) (graph : Graph) → DenotesGraph lines graph → graph.nodes < 2 ^ 64
few_nodes lines graph denoted = let sound = denoting_is_sound lines None (record { graph = graph; table = no_table }) denoted refl in omega (arith, sound.network.nodes_limit)

-- Optional texts denote one value.
one_optional : {X : Type 0} (Denotes : List (List (List ℕ)) → X → Type 0) → ((lines : List (List (List ℕ))) (x y : X) → Denotes lines x → Denotes lines y → x ≡ y) → (text : Option (List ℕ)) (this that : Option X) → DenotesOptional Denotes text this → DenotesOptional Denotes text that → this ≡ that
one_optional Denotes one None None None a b = refl
one_optional Denotes one None (Some x) that a b = absurd a
one_optional Denotes one None None (Some y) a b = absurd b
one_optional Denotes one (Some text) None that a b = absurd a
one_optional Denotes one (Some text) (Some x) None a b = absurd b
one_optional Denotes one (Some text) (Some x) (Some y) a b = ap Some (one (field_lines text) x y a b)

one_extras : (texts : Texts) (starts nodes : ℕ) → starts < 2 ^ 64 → nodes < 2 ^ 64 → (this that : Extras) → DenoteExtras texts starts nodes this → DenoteExtras texts starts nodes that → this ≡ that
one_extras texts starts nodes few small this that a b =
    ap₂ (λ times chosen. record { times = times; nodes = chosen })
    (one_optional (DenotesTimes starts) (grammar_law (time_grammar starts few)).one_value texts.times this.times that.times a.times b.times)
    (one_optional (DenotesSources nodes) (grammar_law (source_grammar nodes small)).one_value texts.nodes this.nodes that.nodes a.nodes b.nodes)

-- Chosen nodes are nodes.
chosen_are : (nodes : ℕ) (text chosen : Option (List ℕ)) → DenotesOptional (DenotesSources nodes) text chosen → AreChosen nodes chosen
chosen_are nodes None None denoted = tt
chosen_are nodes (Some text) (Some chosen) denoted = (sources_are_nodes nodes (field_lines text) chosen denoted).0
chosen_are nodes None (Some chosen) denoted = absurd denoted
chosen_are nodes (Some text) None denoted = absurd denoted

-- The problems of a run have no target; those of pairs have nodes.
no_targets : (joint : Bool) (plan : Plan) (nodes : List ℕ) (k : ℕ) (d : Asking) (node : ℕ) → k < length (run_problems joint plan nodes) → (get_or (run_problems joint plan nodes) k d).target ≡ Some node → ⊥
no_targets joint plan nodes k d node lt is = none-some node (sym (none_aimed joint plan nodes k d lt) ∙ is)

aims_are : (direction : Direction) (nodes : ℕ) (pair : ℕ × ℕ) → IsNode nodes pair.0 → IsNode nodes pair.1 → IsNode nodes (aim_of direction pair)
aims_are Forward nodes pair from to = to
aims_are Turned nodes pair from to = from

pub runs_have_one_report : RunsHaveOneReport
runs_have_one_report texts wanted first second this that =
    let P : Given → List ℕ → Extras → Type 0 = λ given sources extras. AreReported (shape_wanted wanted extras) (directed_roads wanted.direction (roads_of given)) (times_in wanted.direction given.table) (run_problems wanted.joint (plan_wanted wanted extras) sources) first in
    let given = one_given texts.gr texts.tp this.given that.given this.denoted that.denoted in
    let nodes : this.given.graph.nodes ≡ that.given.graph.nodes = ap (λ (g : Given). g.graph.nodes) given in
    let small = few_nodes (field_lines texts.gr) that.given.graph that.denoted.graph in
    let sources = (grammar_law (source_grammar that.given.graph.nodes small)).one_value (field_lines texts.starts) this.sources that.sources (subst (λ (n : ℕ). DenotesSources n (field_lines texts.starts) this.sources) nodes this.starts) that.starts in
    let few : length that.sources < 2 ^ 64 = omega (arith, (sources_are_nodes that.given.graph.nodes (field_lines texts.starts) that.sources that.starts).1) in
    let mine : DenoteExtras texts (length that.sources) that.given.graph.nodes this.extras =
    subst (λ (n : ℕ). DenoteExtras texts (length that.sources) n this.extras) nodes (subst (λ (xs : List ℕ). DenoteExtras texts (length xs) this.given.graph.nodes this.extras) sources this.extra) in
    let extras = one_extras texts (length that.sources) that.given.graph.nodes few small this.extras that.extras mine that.extra in
    let here : P that.given that.sources that.extras =
    subst (λ (e : Extras). P that.given that.sources e) extras (subst (λ (xs : List ℕ). P that.given xs this.extras) sources (subst (λ (g : Given). P g this.sources this.extras) given this.reported)) in
    many (shape_wanted wanted that.extras) (directed_roads wanted.direction (roads_of that.given)) (times_in wanted.direction that.given.table) (run_problems wanted.joint (plan_wanted wanted that.extras) that.sources)
    (λ k d node lt is. absurd (no_targets wanted.joint (plan_wanted wanted that.extras) that.sources k d node lt is)) (chosen_are that.given.graph.nodes texts.nodes that.extras.nodes that.extra.nodes) first second here that.reported

pub pairs_have_one_report : PairsHaveOneReport
pairs_have_one_report texts wanted first second this that =
    let P : Given → List (ℕ × ℕ) → Extras → Type 0 = λ given pairs extras. AreReported (shape_wanted wanted extras) (directed_roads wanted.direction (roads_of given)) (times_in wanted.direction given.table) (pair_problems (plan_wanted wanted extras) 0 pairs) first in
    let given = one_given texts.gr texts.tp this.given that.given this.denoted that.denoted in
    let nodes : this.given.graph.nodes ≡ that.given.graph.nodes = ap (λ (g : Given). g.graph.nodes) given in
    let small = few_nodes (field_lines texts.gr) that.given.graph that.denoted.graph in
    let pairs = (grammar_law (pair_grammar that.given.graph.nodes small)).one_value (field_lines texts.starts) this.pairs that.pairs (subst (λ (n : ℕ). DenotesPairs n (field_lines texts.starts) this.pairs) nodes this.starts) that.starts in
    let are_nodes = pairs_are_nodes that.given.graph.nodes (field_lines texts.starts) that.pairs that.starts in
    let few : length that.pairs < 2 ^ 64 = omega (arith, are_nodes.1) in
    let mine : DenoteExtras texts (length that.pairs) that.given.graph.nodes this.extras =
    subst (λ (n : ℕ). DenoteExtras texts (length that.pairs) n this.extras) nodes (subst (λ (xs : List (ℕ × ℕ)). DenoteExtras texts (length xs) this.given.graph.nodes this.extras) pairs this.extra) in
    let extras = one_extras texts (length that.pairs) that.given.graph.nodes few small this.extras that.extras mine that.extra in
    let here : P that.given that.pairs that.extras =
    subst (λ (e : Extras). P that.given that.pairs e) extras (subst (λ (xs : List (ℕ × ℕ)). P that.given xs this.extras) pairs (subst (λ (g : Given). P g this.pairs this.extras) given this.reported)) in
    let plan = plan_wanted wanted that.extras in
    let targets : All (λ (query : Asking). (node : ℕ) → query.target ≡ Some node → IsNode that.given.graph.nodes node) (pair_problems plan 0 that.pairs) =
    each_pair (λ (query : Asking). (node : ℕ) → query.target ≡ Some node → IsNode that.given.graph.nodes node) plan 0 that.pairs
    (λ k d lt node is. subst (IsNode that.given.graph.nodes) (ap (λ o. unwrap_or o node) is) (aims_are plan.direction that.given.graph.nodes (get_or that.pairs k d) (are_nodes.0 k d lt).0 (are_nodes.0 k d lt).1)) in
    many (shape_wanted wanted that.extras) (directed_roads wanted.direction (roads_of that.given)) (times_in wanted.direction that.given.table) (pair_problems plan 0 that.pairs)
    (λ k d node lt is. targets k d lt node is) (chosen_are that.given.graph.nodes texts.nodes that.extras.nodes that.extra.nodes) first second here that.reported
