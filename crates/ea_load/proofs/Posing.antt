-- What files denote are problems of their road.
use Rattle.std.proofs.Common.{◌≡◌, ℕ, zero, suc, ◌≤◌, Bool, true, false, List, [], ◌∷◌, length, get_or, map, ap, sym, arith, subst}
use Rattle.std.specs.Prelude.{All, unwrap_or}
use Rattle.std.proofs.lemmas.Option.{none-some}
use Rattle.std.proofs.lemmas.List.{length-map}
use Rattle.ea_base.specs.declared.limits.TheConstants.{HORIZON}
use Rattle.ea_road.specs.declared.source.Source.{Source}
use Rattle.ea_road.specs.Roads.{Roads, IsNode, top_class}
use Rattle.ea_road.specs.Queries.{IsProblem}
use Rattle.ea_road.proofs.Turning.{directed_top}
use Rattle.ea_load.specs.declared.road.Road.{Road}
use Rattle.ea_load.specs.Given.{Given, IsRoadOf, roads_of}
use Rattle.ea_load.specs.Sound.{IsSound}
use Rattle.ea_base.specs.declared.direction.Direction.{Direction}
use Rattle.ea_base.specs.declared.direction.Direction.TheVariants.{Forward, Turned}
use Rattle.ea_load.specs.Starts.{AreWithin, Plan, aim_of, asks_all, begin_of, begins_at, pair_problem, pair_problems, run_problems, sources_from}
use Rattle.ea_load.proofs.Departing.{begins_within, each_from, each_pair, length-sources_from, length-pair_problems}
use Rattle.ea_load.specs.Posed.{AreProblems, IsPosed}

-- A source of a network departs within the horizon.
abbrev Departs : ℕ → Source → Type 0
Departs nodes source = IsNode nodes source.node × (source.departure ≤ HORIZON)

-- Sources that do, and no target.
posed : (roads : Roads) (classes : ℕ) → top_class roads.arcs ≤ classes → (sources : List Source) → All (Departs roads.nodes) sources → IsProblem roads classes (asks_all sources)
posed roads classes classed sources all = record {
  classed = classed;
  sources = λ source among. subst (λ (s : Source). IsNode roads.nodes s.node) (sym among.1.1) (all among.0 source among.1.0).0;
  departures = λ source among. subst (λ (s : Source). s.departure ≤ HORIZON) (sym among.1.1) (all among.0 source among.1.0).1;
  target = λ node none. absurd (none-some node none);
}

-- Both nodes of a pair, its begin and what it asks for.
begin_is : {nodes : ℕ} (direction : Direction) (pair : ℕ × ℕ) → IsNode nodes pair.0 → IsNode nodes pair.1 → IsNode nodes (begin_of direction pair) × IsNode nodes (aim_of direction pair)
begin_is Forward pair from to = (from, to)
begin_is Turned pair from to = (to, from)

one : {X : Type 0} (P : X → Type 0) (x : X) → P x → All P (x ∷ [])
one P x holds zero d lt = holds
one P x holds (suc k) d lt = absurd (omega arith)

each_map : {X Y : Type 0} (P : Y → Type 0) (f : X → Y) (xs : List X) → All (λ x. P (f x)) xs → All P (map f xs)
each_map P f [] holds k d lt = absurd (omega arith)
each_map P f (x ∷ xs) holds zero d lt = holds 0 x (omega arith)
each_map P f (x ∷ xs) holds (suc k) d lt = each_map P f xs (λ j e inside. holds (suc j) e (omega arith)) k d (omega arith)

module _ (given : Given) (road : Road) (way : Direction) (is_road : IsRoadOf way given road) (sound : IsSound given) where
  abbrev classes : ℕ
  classes = length road.times.tables.list.items

  classed : top_class road.network.arcs ≤ classes
  classed = subst (λ (r : Roads). top_class r.arcs ≤ classes) (sym is_road.network) (subst (λ (n : ℕ). n ≤ classes) (sym (directed_top way (roads_of given))) (subst (λ (n : ℕ). top_class (roads_of given).arcs ≤ n) (ap length (sym is_road.kinds)) sound.classed))

  nodes_are : road.network.nodes ≡ given.graph.nodes
  nodes_are = ap (λ (r : Roads). r.nodes) is_road.network

  pub few_nodes : road.network.nodes ≤ 67108864
  few_nodes = subst (λ (n : ℕ). n ≤ 67108864) (sym nodes_are) sound.network.nodes_limit

  module _ (plan : Plan) where
    node_at : (nodes : List ℕ) → All (IsNode given.graph.nodes) nodes → AreWithin plan (length nodes) → All (Departs road.network.nodes) (sources_from plan 0 nodes)
    node_at nodes all within = each_from (Departs road.network.nodes) plan 0 nodes (λ k inside. (subst (λ (n : ℕ). IsNode n (get_or nodes k 0)) (sym nodes_are) (all k 0 inside), subst (λ (n : ℕ). begins_at plan n ≤ HORIZON) (omega arith) (begins_within plan k (within k inside))))

    pub run_is_posed : (joint : Bool) (nodes : List ℕ) → All (IsNode given.graph.nodes) nodes × (length nodes ≤ 1000000) → AreWithin plan (length nodes) → AreProblems road (run_problems joint plan nodes)
    run_is_posed true nodes (all, few) within = one (IsPosed road) (asks_all (sources_from plan 0 nodes)) (posed road.network classes classed (sources_from plan 0 nodes) (node_at nodes all within), omega (arith, few, length-sources_from plan 0 nodes))
    run_is_posed false nodes (all, few) within =
        each_map (IsPosed road) (λ source. asks_all (source ∷ [])) (sources_from plan 0 nodes) (λ k d lt. (posed road.network classes classed (get_or (sources_from plan 0 nodes) k d ∷ []) (one (Departs road.network.nodes) _ (node_at nodes all within k d lt)), omega arith))

    pub few_runs : (joint : Bool) (nodes : List ℕ) → length nodes ≤ 1000000 → length (run_problems joint plan nodes) ≤ 1000000
    few_runs true nodes few = omega arith
    few_runs false nodes few = omega (arith, few, length-sources_from plan 0 nodes, length-map (sources_from plan 0 nodes) (λ source. asks_all (source ∷ [])))

    -- A pair of nodes of the network.
    pair_at : (direction : Direction) (pair : ℕ × ℕ) (at : ℕ) → IsNode given.graph.nodes pair.0 → IsNode given.graph.nodes pair.1 → at ≤ HORIZON → IsPosed road (pair_problem direction at pair)
    pair_at direction pair at from to within =
        let begin = begin_is direction pair from to in
        let inside : IsNode road.network.nodes (begin_of direction pair) = subst (λ (n : ℕ). IsNode n (begin_of direction pair)) (sym nodes_are) begin.0 in
        let all = one (Departs road.network.nodes) (record { node = begin_of direction pair; departure = at }) (inside, within) in
        let base = posed road.network classes classed (record { node = begin_of direction pair; departure = at } ∷ []) all in
        (record { classed = classed; sources = base.sources; departures = base.departures; target = λ node is. subst (IsNode road.network.nodes) (ap (λ o. unwrap_or o node) is) (subst (λ (n : ℕ). IsNode n (aim_of direction pair)) (sym nodes_are) begin.1) }, omega arith)

    pub pairs_are_posed : (pairs : List (ℕ × ℕ)) → All (λ pair. IsNode given.graph.nodes pair.0 × IsNode given.graph.nodes pair.1) pairs → AreWithin plan (length pairs) → AreProblems road (pair_problems plan 0 pairs)
    pairs_are_posed pairs all within = each_pair (IsPosed road) plan 0 pairs (λ k d inside. pair_at plan.direction (get_or pairs k d) _ (all k d inside).0 (all k d inside).1 (subst (λ (n : ℕ). begins_at plan n ≤ HORIZON) (omega arith) (begins_within plan k (within k inside))))

    pub few_pairs : (pairs : List (ℕ × ℕ)) → length pairs ≤ 1000000 → length (pair_problems plan 0 pairs) ≤ 1000000
    few_pairs pairs few = omega (arith, few, length-pair_problems plan 0 pairs)
