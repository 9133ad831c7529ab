-- Levels and canonical walks under other numbers of the nodes.
use Rattle.std.proofs.Common.{◌≡◌, ℕ, suc, List, ap, subst}
use Rattle.std.specs.List.{IsAmong}
use Rattle.ea_road.specs.declared.source.Source.{Source}
use Rattle.ea_road.specs.Roads.{Roads, IsNode, IsNetwork}
use Rattle.ea_road.specs.Arrivals.{IsLeastAt}
use Rattle.ea_road.specs.Levels.{IsTight, HasChain, begins, follows, IsLevel, IsCanonical, at_source, by_arc}
use Rattle.ea_layout.specs.Renamed.{AreReverse, number_of, renamed_arc, renamed_roads, renamed_source, renamed_sources}
use Rattle.ea_layout.proofs.Renaming.{arc_renamed, renamed_network, renamed_starts, roads_again, source_renamed, sources_again, times_back, times_renamed}

-- ---- one way

module _
    (numbers : List ℕ)
    (roads : Roads)
    (answers : ℕ → ℕ → ℕ → ℕ → Type 0)
    (sources : List Source)
    (times renamed : ℕ → ℕ → Type 0)
    (moves : (node time : ℕ) → times node time → renamed (number_of numbers node) time)
  where
    tight_renamed : {number tail head : ℕ} → IsTight roads answers times number tail head → IsTight (renamed_roads numbers roads) answers renamed number (number_of numbers tail) (number_of numbers head)
    tight_renamed {number} {tail} {head} tight = record {
      arc = renamed_arc numbers tight.arc;
      is_arc = arc_renamed numbers roads number tight.arc tight.is_arc;
      is_tail = ap (λ node. number_of numbers node) tight.is_tail;
      is_head = ap (λ node. number_of numbers node) tight.is_head;
      departure = tight.departure;
      arrival = tight.arrival;
      at_tail = moves tail tight.departure tight.at_tail;
      at_head = moves head tight.arrival tight.at_head;
      answer = tight.answer;
    }

    chain_renamed : {node count : ℕ} → HasChain roads answers sources times node count → HasChain (renamed_roads numbers roads) answers (renamed_sources numbers sources) renamed (number_of numbers node) count
    chain_renamed (begins {source} among at) = begins {source = renamed_source numbers source} (source_renamed numbers sources source among) (moves source.node source.departure at)
    chain_renamed (follows chain tight) = follows (chain_renamed chain) (tight_renamed tight)

-- a node with a chain is a node of the network
chain_node : (roads : Roads) (answers : ℕ → ℕ → ℕ → ℕ → Type 0) (sources : List Source) (times : ℕ → ℕ → Type 0) → IsNetwork roads → ((source : Source) → IsAmong sources source → IsNode roads.nodes source.node) → {node count : ℕ} → HasChain roads answers sources times node count → IsNode roads.nodes node
chain_node roads answers sources times network starts (begins {source} among at) = starts source among
chain_node roads answers sources times network starts (follows {tail} {head} {number} chain tight) =
    subst (λ n. IsNode roads.nodes n) tight.is_head (network.each_fits number tight.arc tight.is_arc).head

-- ---- there and back

-- Two networks with their sources and times: tight arcs and chains of the one are those of the other under
-- other numbers of the nodes.
record Moves
    (roads roads' : Roads)
    (answers : ℕ → ℕ → ℕ → ℕ → Type 0)
    (sources sources' : List Source)
    (times times' : ℕ → ℕ → Type 0)
    (there : ℕ → ℕ)
    : Type 0 where
  tight : (number tail head : ℕ) → IsTight roads answers times number tail head → IsTight roads' answers times' number (there tail) (there head)
  chain : (node count : ℕ) → HasChain roads answers sources times node count → HasChain roads' answers sources' times' (there node) count

module _
    (roads roads' : Roads)
    (answers : ℕ → ℕ → ℕ → ℕ → Type 0)
    (sources sources' : List Source)
    (times times' : ℕ → ℕ → Type 0)
    (there back : ℕ → ℕ)
    (moves : Moves roads roads' answers sources sources' times times' there)
    (returns : Moves roads' roads answers sources' sources times' times back)
    (again : (node count : ℕ) → HasChain roads answers sources times node count → back (there node) ≡ node)
    (again' : (node count : ℕ) → HasChain roads' answers sources' times' node count → there (back node) ≡ node)
  where
    level_there : {node level : ℕ} → IsLevel roads answers sources times node level → IsLevel roads' answers sources' times' (there node) level
    level_there {node} {level} is = record {
      chain = moves.chain node level is.chain;
      fewest = λ count chain. is.fewest count (subst (λ n. HasChain roads answers sources times n count) (again node level is.chain) (returns.chain (there node) count chain));
    }

    level_back : {node level : ℕ} → IsLevel roads' answers sources' times' node level → IsLevel roads answers sources times (back node) level
    level_back {node} {level} is = record {
      chain = returns.chain node level is.chain;
      fewest = λ count chain. is.fewest count (subst (λ n. HasChain roads' answers sources' times' n count) (again' node level is.chain) (moves.chain (back node) count chain));
    }

    canonical_there : {node : ℕ} {walk : List ℕ} → IsCanonical roads answers sources times node walk → IsCanonical roads' answers sources' times' (there node) walk
    canonical_there (at_source level) = at_source (level_there level)
    canonical_there (by_arc {tail} {head} {number} {level} {walk} front lower upper tight lowest) =
        by_arc (canonical_there front) (level_there lower) (level_there upper) (moves.tight number tail head tight) (λ other from close under.
        let near = returns.tight other from (there head) close in
        lowest other (back from) (subst (λ n. IsTight roads answers times other (back from) n) (again head (suc level) upper.chain) near) (level_back under))

-- ---- for the least arrivals

module _
    (roads : Roads)
    (answers : ℕ → ℕ → ℕ → ℕ → Type 0)
    (sources : List Source)
    (there back : List ℕ)
    (network : IsNetwork roads)
    (reverse : AreReverse roads.nodes there back)
    (starts : (source : Source) → IsAmong sources source → IsNode roads.nodes source.node)
  where
    moves_there : Moves roads (renamed_roads there roads) answers sources (renamed_sources there sources) (IsLeastAt roads answers sources) (IsLeastAt (renamed_roads there roads) answers (renamed_sources there sources)) (λ node. number_of there node)
    moves_there =
        let moves = times_renamed roads answers sources there back network reverse starts in
        record {
          tight = λ number tail head tight. tight_renamed there roads answers sources (IsLeastAt roads answers sources) (IsLeastAt (renamed_roads there roads) answers (renamed_sources there sources)) moves tight;
          chain = λ node count chain. chain_renamed there roads answers sources (IsLeastAt roads answers sources) (IsLeastAt (renamed_roads there roads) answers (renamed_sources there sources)) moves chain;
        }

    moves_back : Moves (renamed_roads there roads) roads answers (renamed_sources there sources) sources (IsLeastAt (renamed_roads there roads) answers (renamed_sources there sources)) (IsLeastAt roads answers sources) (λ node. number_of back node)
    moves_back =
        let moves = times_back roads answers sources there back network reverse starts in
        let least = IsLeastAt (renamed_roads there roads) answers (renamed_sources there sources) in
        let same_roads = roads_again roads there back network reverse in
        let same_sources = sources_again roads.nodes there back reverse sources starts in
        record {
          tight = λ number tail head tight. subst (λ (r : Roads). IsTight r answers (IsLeastAt roads answers sources) number (number_of back tail) (number_of back head)) same_roads (tight_renamed back (renamed_roads there roads) answers (renamed_sources there sources) least (IsLeastAt roads answers sources) moves tight);
          chain = λ node count chain.
              let moved = chain_renamed back (renamed_roads there roads) answers (renamed_sources there sources) least (IsLeastAt roads answers sources) moves chain in
              let on_roads = subst (λ (r : Roads). HasChain r answers (renamed_sources back (renamed_sources there sources)) (IsLeastAt roads answers sources) (number_of back node) count) same_roads moved in
              subst (λ (s : List Source). HasChain roads answers s (IsLeastAt roads answers sources) (number_of back node) count) same_sources on_roads;
        }

    again : (node count : ℕ) → HasChain roads answers sources (IsLeastAt roads answers sources) node count → number_of back (number_of there node) ≡ node
    again node count chain = reverse.back_there node (chain_node roads answers sources (IsLeastAt roads answers sources) network starts chain)

    again_there : (node count : ℕ) → HasChain (renamed_roads there roads) answers (renamed_sources there sources) (IsLeastAt (renamed_roads there roads) answers (renamed_sources there sources)) node count → number_of there (number_of back node) ≡ node
    again_there node count chain = reverse.there_back node (chain_node (renamed_roads there roads) answers (renamed_sources there sources) (IsLeastAt (renamed_roads there roads) answers (renamed_sources there sources)) (renamed_network roads there back network reverse) (renamed_starts roads answers sources there back network reverse starts) chain)

    pub level_renamed : (node level : ℕ) → IsLevel roads answers sources (IsLeastAt roads answers sources) node level → IsLevel (renamed_roads there roads) answers (renamed_sources there sources) (IsLeastAt (renamed_roads there roads) answers (renamed_sources there sources)) (number_of there node) level
    level_renamed node level is = level_there _ _ answers _ _ _ _ _ _ moves_there moves_back again again_there is

    pub level_again : (node level : ℕ) → IsNode roads.nodes node → IsLevel (renamed_roads there roads) answers (renamed_sources there sources) (IsLeastAt (renamed_roads there roads) answers (renamed_sources there sources)) (number_of there node) level → IsLevel roads answers sources (IsLeastAt roads answers sources) node level
    level_again node level inside is = subst (λ n. IsLevel roads answers sources (IsLeastAt roads answers sources) n level) (reverse.back_there node inside) (level_there _ _ answers _ _ _ _ _ _ moves_back moves_there again_there again is)

    pub canonical_renamed : (node : ℕ) (walk : List ℕ) → IsCanonical roads answers sources (IsLeastAt roads answers sources) node walk → IsCanonical (renamed_roads there roads) answers (renamed_sources there sources) (IsLeastAt (renamed_roads there roads) answers (renamed_sources there sources)) (number_of there node) walk
    canonical_renamed node walk is = canonical_there _ _ answers _ _ _ _ _ _ moves_there moves_back again again_there is

    pub canonical_again : (node : ℕ) (walk : List ℕ) → IsNode roads.nodes node → IsCanonical (renamed_roads there roads) answers (renamed_sources there sources) (IsLeastAt (renamed_roads there roads) answers (renamed_sources there sources)) (number_of there node) walk → IsCanonical roads answers sources (IsLeastAt roads answers sources) node walk
    canonical_again node walk inside is = subst (λ n. IsCanonical roads answers sources (IsLeastAt roads answers sources) n walk) (reverse.back_there node inside) (canonical_there _ _ answers _ _ _ _ _ _ moves_back moves_there again_there again is)
