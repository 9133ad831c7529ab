-- Targets: one more, and that those of a road make a problem of the turned question.
use Rattle.std.proofs.Common.{◌≡◌, ℕ, zero, suc, ◌+◌, ◌<◌, ◌≤◌, max, List, [], ◌∷◌, ◌++◌, length, map, take, get_or, refl, ap, sym, ◌∙◌, subst, arith}
use Rattle.std.specs.Prelude.{Some, None}
use Rattle.std.specs.List.{IsAmong}
use Rattle.std.proofs.lemmas.List.{take_more, length-take-le}
use Rattle.std.proofs.lemmas.Option.{none-some}
use Rattle.ea_base.specs.declared.limits.TheConstants.{HORIZON}
use Rattle.ea_road.specs.declared.arc.Arc.{Arc}
use Rattle.ea_road.specs.declared.source.Source.{Source}
use Rattle.ea_road.specs.declared.target.Target.{Target}
use Rattle.ea_road.specs.LatestDepartures.{AreTargets, turned_target, turned_targets}
use Rattle.ea_road.specs.Queries.{AreSources, Asking, IsProblem}
use Rattle.ea_road.specs.Roads.{IsNode, Roads, top_class}
use Rattle.ea_road.specs.Turned.{turned_arc, turned_roads}
use Rattle.ea_road.proofs.TurnedArrivals.{target_back}
use Rattle.ea_capi.specs.Latest.{AreStops, IsStop, stops}

stops_more : (nodes times : List ℕ) (node time : ℕ) → length nodes ≡ length times → stops (nodes ++ node ∷ []) (times ++ time ∷ []) ≡ stops nodes times ++ record { node = node; time = time } ∷ []
stops_more [] [] node time same = refl
stops_more [] (t ∷ times) node time same = absurd (omega (arith, same))
stops_more (n ∷ nodes) [] node time same = absurd (omega (arith, same))
stops_more (n ∷ nodes) (t ∷ times) node time same = ap (λ (rest : List Target). record { node = n; time = t } ∷ rest) (stops_more nodes times node time (omega (arith, same)))

pub stops_next : (i : ℕ) (nodes times : List ℕ) → length nodes ≡ length times → i < length nodes → stops (take (i + 1) nodes) (take (i + 1) times) ≡ stops (take i nodes) (take i times) ++ record { node = get_or nodes i 0; time = get_or times i 0 } ∷ []
stops_next i nodes times same lt =
    let lt' : i < length times = omega (arith, same, lt) in
    ap (λ (ns : List ℕ). stops ns (take (i + 1) times)) (take_more nodes i 0 lt)
    ∙ ap (stops (take i nodes ++ get_or nodes i 0 ∷ [])) (take_more times i 0 lt')
    ∙ stops_more (take i nodes) (take i times) (get_or nodes i 0) (get_or times i 0) (length-take-le i nodes (omega arith) ∙ sym (length-take-le i times (omega arith)))

pub stops_are_targets : (nodes : ℕ) (targets : List Target) → AreStops nodes targets → AreTargets targets
stops_are_targets nodes targets are = record { within = λ target among. (are.each target among).time }

source_of_stop : (nodes : ℕ) (targets : List Target) (source : Source) → AreStops nodes targets → IsAmong (turned_targets targets) source → IsNode nodes source.node × (source.departure ≤ HORIZON)
source_of_stop nodes targets source are among =
    let found = target_back targets source among in
    let end = are.each found.0 found.1 in
    (subst (λ (s : Source). IsNode nodes s.node) (sym found.2) end.node, subst (λ (s : Source). s.departure ≤ HORIZON) (sym found.2) (omega arith))

pub stops_are_sources : (nodes : ℕ) (targets : List Target) → AreStops nodes targets → AreSources (turned_targets targets)
stops_are_sources nodes targets are = record {
  each = λ source among.
      let is = source_of_stop nodes targets source are among in
      record { from_one = is.0.from_one; within = is.1 };
}

pub turned_top : (arcs : List Arc) → top_class (map turned_arc arcs) ≡ top_class arcs
turned_top [] = refl
turned_top (arc ∷ arcs) = ap (λ n. max arc.class n) (turned_top arcs)

pub stops_make_problem : (roads network : Roads) (classes : ℕ) (targets : List Target) (query : Asking) → network ≡ turned_roads roads → query ≡ record { sources = turned_targets targets; target = None } → top_class roads.arcs ≤ classes → AreStops roads.nodes targets
    → IsProblem network classes query
stops_make_problem roads network classes targets query turned is classed are =
    subst (λ (n : Roads). IsProblem n classes query) (sym turned) (subst (IsProblem (turned_roads roads) classes) (sym is) (record {
      classed = rw (turned_top roads.arcs) classed;
      sources = λ source among. (source_of_stop roads.nodes targets source are among).0;
      departures = λ source among. (source_of_stop roads.nodes targets source are among).1;
      target = λ node same. absurd (none-some _ same);
    }))

-- one target alone
pub one_stop : (nodes : ℕ) (target : Target) → IsStop nodes target → AreStops nodes (target ∷ [])
one_stop nodes target is = record { each = λ other among. subst (λ (t : Target). IsStop nodes t) (sym (only target other among)) is }
  where
    only : (target other : Target) → IsAmong (target ∷ []) other → other ≡ target
    only target other (zero, (inside, same)) = same
    only target other (suc place, (inside, same)) = absurd (omega arith)

pub pair_makes_problem : (roads network : Roads) (classes source : ℕ) (target : Target) (query : Asking) → network ≡ turned_roads roads → query ≡ record { sources = turned_target target ∷ []; target = Some source } → top_class roads.arcs ≤ classes → IsStop roads.nodes target
    → IsNode roads.nodes source → IsProblem network classes query
pair_makes_problem roads network classes source target query turned is classed end is_node =
    subst (λ (n : Roads). IsProblem n classes query) (sym turned) (subst (IsProblem (turned_roads roads) classes) (sym is) (record {
      classed = rw (turned_top roads.arcs) classed;
      sources = λ start among. (source_of_stop roads.nodes (target ∷ []) start (one_stop roads.nodes target end) among).0;
      departures = λ start among. (source_of_stop roads.nodes (target ∷ []) start (one_stop roads.nodes target end) among).1;
      target = λ node same. subst (λ n. IsNode roads.nodes n) (cc) is_node;
    }))
