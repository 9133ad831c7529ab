-- Walks, what they reach and least arrivals under other numbers of the nodes.
use Rattle.std.proofs.Common.{◌≡◌, ℕ, zero, suc, ◌-◌, ◌≤◌, List, [], ◌∷◌, length, get_or, map, refl, sym, ◌∙◌, ap, subst, arith}
use Rattle.std.specs.Prelude.{◌<◌, Option, Some, None, max, slice_get}
use Rattle.std.specs.List.{IsAmong}
use Rattle.std.proofs.lemmas.List.{get_or-map, get_or_default, length-map}
use Rattle.std.proofs.lemmas.Option.{slice_get-map}
use Rattle.ea_base.specs.declared.limits.TheConstants.{HORIZON}
use Rattle.ea_road.specs.declared.arc.Arc.{Arc}
use Rattle.ea_road.specs.declared.source.Source.{Source}
use Rattle.ea_road.specs.Roads.{Roads, IsArc, IsNode, IsNetwork, FitsNodes, top_class}
use Rattle.ea_road.specs.Arrivals.{Arrives, stays, goes, Attains, Reaches, IsLeast, IsLeastAt}
use Rattle.ea_road.specs.Queries.{Asking, IsProblem}
use Rattle.ea_road.proofs.Arcs.{fits_found}
use Rattle.ea_road.proofs.Reached.{reaches_node}
use Rattle.ea_layout.specs.Copied.{AsksFor}
use Rattle.ea_layout.specs.Renamed.{AreReverse, number_of, renamed_arc, renamed_roads, renamed_query, renamed_source, renamed_sources, renamed_target}

-- ---- one way: from the numbers of the network to the new ones

pub arc_renamed : (numbers : List ℕ) (roads : Roads) (number : ℕ) (arc : Arc) → IsArc roads number arc → IsArc (renamed_roads numbers roads) number (renamed_arc numbers arc)
arc_renamed numbers roads number arc is = record {
  from_one = is.from_one;
  found = slice_get-map (renamed_arc numbers) roads.arcs (number - 1) ∙ rw is.found refl;
}

pub source_renamed : (numbers : List ℕ) (sources : List Source) (source : Source) → IsAmong sources source → IsAmong (renamed_sources numbers sources) (renamed_source numbers source)
source_renamed numbers sources source among = (
  among.0,
  (
    rw (length-map sources (renamed_source numbers)) among.1.0,
    sym (get_or-map (renamed_source numbers) sources among.0 source (renamed_source numbers source) among.1.0 ∙ ap (renamed_source numbers) (sym among.1.1)),
  ),
)

-- a renamed source is one of the sources, renamed
pub source_from : (numbers : List ℕ) (sources : List Source) (source : Source) → IsAmong (renamed_sources numbers sources) source → (first : Source) × IsAmong sources first × (source ≡ renamed_source numbers first)
source_from numbers sources source among =
    let inside : among.0 < length sources = rw (length-map sources (renamed_source numbers)) at among.1.0 in
    let none : Source = record { node = 0; departure = 0 } in
    let first = get_or sources among.0 none in (
      first,
      (among.0, (inside, get_or_default sources among.0 none first inside)),
      among.1.1 ∙ get_or-map (renamed_source numbers) sources among.0 none source inside,
    )

module _
    (numbers : List ℕ)
    (roads : Roads)
    (answers : ℕ → ℕ → ℕ → ℕ → Type 0)
  where
    pub arrives_renamed : {start departure node time : ℕ} {walk : List ℕ} → Arrives roads answers start departure walk node time → Arrives (renamed_roads numbers roads) answers (number_of numbers start) departure walk (number_of numbers node) time
    arrives_renamed stays = stays
    arrives_renamed (goes {walk} {node} {time} {number} {arrival} {arc} before within is tail answer) =
        goes (arrives_renamed before) within (arc_renamed numbers roads number arc is) (ap (λ node. number_of numbers node) tail) answer

    pub attains_renamed : (sources : List Source) (walk : List ℕ) (node time : ℕ) → Attains roads answers sources walk node time → Attains (renamed_roads numbers roads) answers (renamed_sources numbers sources) walk (number_of numbers node) time
    attains_renamed sources walk node time attains = record {
      source = renamed_source numbers attains.source;
      among = source_renamed numbers sources attains.source attains.among;
      arrives = arrives_renamed attains.arrives;
    }

    pub reaches_renamed : (sources : List Source) (node time : ℕ) → Reaches roads answers sources node time → Reaches (renamed_roads numbers roads) answers (renamed_sources numbers sources) (number_of numbers node) time
    reaches_renamed sources node time reaches = record {
      source = renamed_source numbers reaches.source;
      walk = reaches.walk;
      among = source_renamed numbers sources reaches.source reaches.among;
      arrives = arrives_renamed reaches.arrives;
      within = reaches.within;
    }

-- ---- there and back

pub arcs_again : (nodes : ℕ) (there back : List ℕ) → AreReverse nodes there back → (arcs : List Arc) → ((place : ℕ) (arc : Arc) → slice_get arcs place ≡ Some arc → IsNode nodes arc.tail × IsNode nodes arc.head) → map (renamed_arc back) (map (renamed_arc there) arcs) ≡ arcs
arcs_again nodes there back reverse [] fits = refl
arcs_again nodes there back reverse (arc ∷ arcs) fits =
    let ends = fits 0 arc refl in
    let tail = reverse.back_there arc.tail ends.0 in
    let head = reverse.back_there arc.head ends.1 in
    rw (tail, head, arcs_again nodes there back reverse arcs (λ place other found. fits (suc place) other found)) refl

pub roads_again : (roads : Roads) (there back : List ℕ) → IsNetwork roads → AreReverse roads.nodes there back → renamed_roads back (renamed_roads there roads) ≡ roads
roads_again roads there back network reverse =
    let same = arcs_again roads.nodes there back reverse roads.arcs (λ place arc found. let fits = fits_found roads.nodes roads.arcs place arc network found in (fits.tail, fits.head)) in
    ap (λ (arcs : List Arc). let again : Roads = record { nodes = roads.nodes; arcs = arcs } in again) same

pub sources_again : (nodes : ℕ) (there back : List ℕ) → AreReverse nodes there back → (sources : List Source) → ((source : Source) → IsAmong sources source → IsNode nodes source.node) → renamed_sources back (renamed_sources there sources) ≡ sources
sources_again nodes there back reverse [] are = refl
sources_again nodes there back reverse (source ∷ sources) are =
    let first = reverse.back_there source.node (are source (0, (omega arith, refl))) in
    rw (first, sources_again nodes there back reverse sources (λ other among. are other (later source sources other among))) refl
  where
    later : (source : Source) (sources : List Source) (other : Source) → IsAmong sources other → IsAmong (source ∷ sources) other
    later source sources other among = (suc among.0, (omega (arith, among.1.0), among.1.1))

pub in_reverse : (nodes : ℕ) (there back : List ℕ) → AreReverse nodes there back → AreReverse nodes back there
in_reverse nodes there back reverse = record {
  there_length = reverse.back_length;
  back_length = reverse.there_length;
  there_node = reverse.back_node;
  back_node = reverse.there_node;
  back_there = reverse.there_back;
  there_back = reverse.back_there;
}

-- the arc at a place of the renamed list is the arc there, renamed
mapped_back : (numbers : List ℕ) (arcs : List Arc) (place : ℕ) (arc : Arc) → slice_get (map (renamed_arc numbers) arcs) place ≡ Some arc → (first : Arc) × (slice_get arcs place ≡ Some first) × (arc ≡ renamed_arc numbers first)
mapped_back numbers [] place arc at = cc
mapped_back numbers (first ∷ arcs) zero arc at = let same : renamed_arc numbers first ≡ arc = cc in (first, refl, sym same)
mapped_back numbers (first ∷ arcs) (suc place) arc at = mapped_back numbers arcs place arc at

pub renamed_top : (numbers : List ℕ) (arcs : List Arc) → top_class (map (renamed_arc numbers) arcs) ≡ top_class arcs
renamed_top numbers [] = refl
renamed_top numbers (arc ∷ arcs) = ap (λ top. max arc.class top) (renamed_top numbers arcs)

pub renamed_network : (roads : Roads) (there back : List ℕ) → IsNetwork roads → AreReverse roads.nodes there back → IsNetwork (renamed_roads there roads)
renamed_network roads there back network reverse = record {
  has_nodes = network.has_nodes;
  nodes_limit = network.nodes_limit;
  arcs_limit = rw (length-map roads.arcs (renamed_arc there)) network.arcs_limit;
  each_fits = λ number arc is.
      let first = mapped_back there roads.arcs (number - 1) arc is.found in
      let fits = network.each_fits number first.0 (record { from_one = is.from_one; found = first.1 }) in
      subst (λ (a : Arc). FitsNodes roads.nodes a) (sym first.2) (record { tail = reverse.there_node first.0.tail fits.tail; head = reverse.there_node first.0.head fits.head; weight = fits.weight });
}

module _
    (roads : Roads)
    (answers : ℕ → ℕ → ℕ → ℕ → Type 0)
    (sources : List Source)
    (there back : List ℕ)
    (network : IsNetwork roads)
    (reverse : AreReverse roads.nodes there back)
    (starts : (source : Source) → IsAmong sources source → IsNode roads.nodes source.node)
  where
    pub renamed_starts : (source : Source) → IsAmong (renamed_sources there sources) source → IsNode roads.nodes source.node
    renamed_starts source among =
        let first = source_from there sources source among in
        subst (λ (s : Source). IsNode roads.nodes s.node) (sym first.2) (reverse.there_node first.0.node (starts first.0 first.1))

    pub reaches_back : (node time : ℕ) → Reaches (renamed_roads there roads) answers (renamed_sources there sources) node time → Reaches roads answers sources (number_of back node) time
    reaches_back node time reaches =
        let moved = reaches_renamed back (renamed_roads there roads) answers (renamed_sources there sources) node time reaches in
        let again = subst (λ (r : Roads). Reaches r answers (renamed_sources back (renamed_sources there sources)) (number_of back node) time) (roads_again roads there back network reverse) moved in
        subst (λ (s : List Source). Reaches roads answers s (number_of back node) time) (sources_again roads.nodes there back reverse sources starts) again

    pub attains_back : (walk : List ℕ) (node time : ℕ) → IsNode roads.nodes node → Attains (renamed_roads there roads) answers (renamed_sources there sources) walk (number_of there node) time → Attains roads answers sources walk node time
    attains_back walk node time is attains =
        let moved = attains_renamed back (renamed_roads there roads) answers (renamed_sources there sources) walk (number_of there node) time attains in
        let again = subst (λ (r : Roads). Attains r answers (renamed_sources back (renamed_sources there sources)) walk (number_of back (number_of there node)) time) (roads_again roads there back network reverse) moved in
        let from = subst (λ (s : List Source). Attains roads answers s walk (number_of back (number_of there node)) time) (sources_again roads.nodes there back reverse sources starts) again in
        subst (λ n. Attains roads answers sources walk n time) (reverse.back_there node is) from

    pub least_renamed : (node : ℕ) (arrival : Option ℕ) → IsNode roads.nodes node → IsLeast roads answers sources node arrival → IsLeast (renamed_roads there roads) answers (renamed_sources there sources) (number_of there node) arrival
    least_renamed node (Some time) is least = (
      reaches_renamed there roads answers sources node time least.0,
      λ other reaches. least.1 other (at_node other reaches),
    )
      where
        at_node : (other : ℕ) → Reaches (renamed_roads there roads) answers (renamed_sources there sources) (number_of there node) other → Reaches roads answers sources node other
        at_node other reaches = subst (λ n. Reaches roads answers sources n other) (reverse.back_there node is) (reaches_back (number_of there node) other reaches)
    least_renamed node None is none = λ other reaches. none other (subst (λ n. Reaches roads answers sources n other) (reverse.back_there node is) (reaches_back (number_of there node) other reaches))

    pub least_back : (node : ℕ) (arrival : Option ℕ) → IsNode roads.nodes node → IsLeast (renamed_roads there roads) answers (renamed_sources there sources) (number_of there node) arrival → IsLeast roads answers sources node arrival
    least_back node (Some time) is least = (
      subst (λ n. Reaches roads answers sources n time) (reverse.back_there node is) (reaches_back (number_of there node) time least.0),
      λ other reaches. least.1 other (reaches_renamed there roads answers sources node other reaches),
    )
    least_back node None is none = λ other reaches. none other (reaches_renamed there roads answers sources node other reaches)

    -- least arrivals as relations, each way
    pub times_renamed : (node time : ℕ) → IsLeastAt roads answers sources node time → IsLeastAt (renamed_roads there roads) answers (renamed_sources there sources) (number_of there node) time
    times_renamed node time least = least_renamed node (Some time) (reaches_node roads answers network sources node time starts least.0) least

    pub times_back : (node time : ℕ) → IsLeastAt (renamed_roads there roads) answers (renamed_sources there sources) node time → IsLeastAt roads answers sources (number_of back node) time
    times_back node time least =
        let is = reaches_node (renamed_roads there roads) answers (renamed_network roads there back network reverse) (renamed_sources there sources) node time renamed_starts least.0 in
        least_back (number_of back node) (Some time) (reverse.back_node node is) (subst (λ n. IsLeastAt (renamed_roads there roads) answers (renamed_sources there sources) n time) (sym (reverse.there_back node is)) least)

pub problem_renamed : (roads : Roads) (classes : ℕ) (query : Asking) (there back : List ℕ) → IsNetwork roads → AreReverse roads.nodes there back → IsProblem roads classes query → IsProblem (renamed_roads there roads) classes (renamed_query there query)
problem_renamed roads classes query there back network reverse problem = record {
  classed = rw (renamed_top there roads.arcs) problem.classed;
  sources = λ source among. let first = source_from there query.sources source among in subst (λ (s : Source). IsNode roads.nodes s.node) (sym first.2) (reverse.there_node first.0.node (problem.sources first.0 first.1));
  departures = λ source among. let first = source_from there query.sources source among in subst (λ (s : Source). s.departure ≤ HORIZON) (sym first.2) (problem.departures first.0 first.1);
  target = by_target query.target problem.target;
}
  where
    by_target : (target : Option ℕ) → ((node : ℕ) → target ≡ Some node → IsNode roads.nodes node) → (node : ℕ) → renamed_target there target ≡ Some node → IsNode roads.nodes node
    by_target None is node same = cc
    by_target (Some target) is node same = let at : number_of there target ≡ node = cc in subst (λ n. IsNode roads.nodes n) at (reverse.there_node target (is target refl))

-- the same for a query that asks at least for the nodes of another
pub problem_laid : (roads : Roads) (classes : ℕ) (query laid : Asking) (there back : List ℕ) → IsNetwork roads → AreReverse roads.nodes there back → AsksFor there query laid → IsProblem roads classes query → IsProblem (renamed_roads there roads) classes laid
problem_laid roads classes query laid there back network reverse asks problem =
    let it = problem_renamed roads classes query there back network reverse problem in
    record {
      classed = it.classed;
      sources = λ source among. it.sources source (subst (λ (s : List Source). IsAmong s source) asks.sources among);
      departures = λ source among. it.departures source (subst (λ (s : List Source). IsAmong s source) asks.sources among);
      target = λ node same. let first = asks.target node same in subst (λ n. IsNode roads.nodes n) (sym first.2) (reverse.there_node first.0 (problem.target first.0 first.1));
    }
