-- What is copied from an answer on a layout is an answer on the network.
use Rattle.std.proofs.Common.{◌≡◌, ◌≢◌, ℕ, zero, suc, ◌+◌, ◌<◌, ◌==◌, Bool, true, false, List, [], ◌∷◌, ◌++◌, length, refl, sym, ◌∙◌, ap, subst, inl, inr, arith, eqb-true, eq-eqb}
use Rattle.std.specs.Prelude.{Some, None, if◌then◌else◌}
use Rattle.std.specs.List.{IsAmong}
use Rattle.ea_road.specs.declared.TheConstants.{NONE}
use Rattle.ea_road.specs.declared.source.Source.{Source}
use Rattle.ea_road.specs.Roads.{Roads, IsNetwork, IsNode}
use Rattle.ea_road.specs.Arrivals.{IsLeast}
use Rattle.ea_road.specs.Labels.{label_of, time_of}
use Rattle.ea_road.specs.Queries.{Asking, IsAskedBy}
use Rattle.ea_search.specs.declared.link.Link.{Link}
use Rattle.ea_search.specs.Answers.{Answered, HasArrivals, IsAnswer, answer_of, arrival_of, walk_of}
use Rattle.ea_search.specs.Links.{link, linked_walk, walk_along}
use Rattle.ea_paths.specs.Stored.{AreFollowable, IsStoredAnswer}
use Rattle.ea_paths.proofs.Linkings.{link-node}
use Rattle.ea_paths.proofs.Followed.{linked-walk}
use Rattle.ea_layout.specs.Copied.{AreAskedCopied, AreLabelsCopied, AreLinksCopied, AsksFor, HasLevel, IsLinkCopied}
use Rattle.ea_layout.specs.Renamed.{AreReverse, number_of, renamed_roads, renamed_sources}
use Rattle.ea_layout.proofs.Renaming.{attains_back, least_back}
use Rattle.ea_layout.proofs.RenamedLevels.{canonical_again}

-- a walk to a node that has a label
walk_found : (label : ℕ) (all walk : List ℕ) → (if label == NONE then None else Some all) ≡ Some walk → (label ≢ NONE) × (all ≡ walk)
walk_found label all walk found = by_test (label == NONE) refl found
  where
    by_test : (b : Bool) → (label == NONE) ≡ b → (if b then None else Some all) ≡ Some walk → (label ≢ NONE) × (all ≡ walk)
    by_test true same is = cc
    by_test false differs is = (λ none. let same = eq-eqb label NONE none in cc, cc)

walk_there : (label : ℕ) (all walk : List ℕ) → label ≢ NONE → all ≡ walk → (if label == NONE then None else Some all) ≡ Some walk
walk_there label all walk some same = by_test (label == NONE) refl
  where
    by_test : (b : Bool) → (label == NONE) ≡ b → (if b then None else Some all) ≡ Some walk
    by_test true is = absurd (some (eqb-true _ _ is))
    by_test false differs = ap (λ w. Some w) same

module _
    (count : ℕ)
    (numbers nodes : List ℕ)
    (reverse : AreReverse count numbers nodes)
    (laid links : List Link)
    (many : length laid ≡ count)
    (followable : AreFollowable laid)
    (copied : AreLinksCopied count numbers nodes laid links)
  where
    -- the node before a copied one on its walk
    record Before (node : ℕ) : Type 0 where
      laid_node : IsNode count (link laid (number_of numbers node)).from
      is_node : IsNode count (link links node).from
      number : number_of numbers (link links node).from ≡ (link laid (number_of numbers node)).from
      is_copied : IsLinkCopied numbers nodes laid links (link links node).from
      level : (link links (link links node).from).level + 1 ≡ (link links node).level

    before : (node : ℕ) → IsNode count node → IsLinkCopied numbers nodes laid links node → 0 < (link links node).level → HasLevel links node → Before node
    before node is copy some level =
        let same = copy.level in
        let below = followable (number_of numbers node) (omega (arith, same, some)) (omega (arith, same, level)) in
        let from = (link laid (number_of numbers node)).from in
        let laid_node : IsNode count from = subst (λ n. IsNode n from) many below.0 in
        let from_is = copy.from (subst (λ n. IsNode n from) (sym reverse.back_length) laid_node) in
        let number : number_of numbers (link links node).from ≡ from = ap (λ n. number_of numbers n) from_is ∙ reverse.there_back from laid_node in
        let is_copied = copied.before node is some level in
        let as_laid : (link links (link links node).from).level ≡ (link laid from).level = is_copied.level ∙ ap (λ n. (link laid n).level) number in
        record {
          laid_node = laid_node;
          is_node = subst (λ n. IsNode count n) (sym from_is) (reverse.back_node from laid_node);
          number = number;
          is_copied = is_copied;
          level = omega (arith, as_laid, below.1, same);
        }

    walk_same : (steps node : ℕ) → IsNode count node → IsLinkCopied numbers nodes laid links node → steps ≡ (link links node).level → HasLevel links node → walk_along links steps node ≡ walk_along laid steps (number_of numbers node)
    unfolding walk_along
    walk_same zero node is copy all level = refl
    walk_same (suc steps) node is copy all level =
        let it = before node is copy (omega (arith, all)) level in
        let one_less = it.level in
        let front = walk_same steps (link links node).from it.is_node it.is_copied (omega (arith, all, one_less)) (omega (arith, one_less, level)) ∙ ap (λ n. walk_along laid steps n) it.number in
        ap (λ (walk : List ℕ). walk ++ (link links node).arc ∷ []) front ∙ ap (λ arc. walk_along laid steps (link laid (number_of numbers node)).from ++ arc ∷ []) copy.arc

    pub linked_same : (node : ℕ) → IsNode count node → IsLinkCopied numbers nodes laid links node → HasLevel links node → linked_walk links node ≡ linked_walk laid (number_of numbers node)
    linked_same node is copy level =
        linked-walk links node ∙ walk_same (link links node).level node is copy refl level ∙ ap (λ steps. walk_along laid steps (number_of numbers node)) copy.level ∙ sym (linked-walk laid (number_of numbers node))

    pub copies_follow : AreFollowable links
    copies_follow node some level =
        let inside = link-node links node level in
        let is : IsNode count node = subst (λ n. IsNode n node) copied.places (record { from_one = inside.0; to_last = inside.1 }) in
        elim (copied.each node is) [
          | inl none ↦ (let same = ap (λ (l : Link). l.level) none in absurd (omega (arith, same, level)))
          | inr copy ↦ (let it = before node is copy some level in (subst (λ n. IsNode n (link links node).from) (sym copied.places) it.is_node, it.level))
        ]

module _
    (roads : Roads)
    (answers : ℕ → ℕ → ℕ → ℕ → Type 0)
    (query laid : Asking)
    (numbers nodes : List ℕ)
    (network : IsNetwork roads)
    (reverse : AreReverse roads.nodes numbers nodes)
    (starts : (source : Source) → IsAmong query.sources source → IsNode roads.nodes source.node)
    (asks : AsksFor numbers query laid)
    (answer : Answered)
    (labels : List ℕ)
    (links : List Link)
    (said : AreLabelsCopied roads.nodes query.target numbers answer.labels labels)
  where
    -- the query under the new numbers, with the sources as they are called there
    abbrev asking : List Source → Asking
    asking sources = record { sources = sources; target = laid.target }

    pub copied_arrivals : (walks : Bool) → HasArrivals (renamed_roads numbers roads) answers laid answer → HasArrivals roads answers query (answer_of roads.nodes query.target labels links walks)
    copied_arrivals walks has =
        let it : HasArrivals (renamed_roads numbers roads) answers (asking (renamed_sources numbers query.sources)) answer = subst (λ (s : List Source). HasArrivals (renamed_roads numbers roads) answers (asking s) answer) asks.sources has in
        record {
          nodes = refl;
          target = refl;
          least = λ node is asked.
              let least = it.least (number_of numbers node) (reverse.there_node node is) (asks.asks node asked) in
              let back = least_back roads answers query.sources numbers nodes network reverse starts node (arrival_of answer (number_of numbers node)) is least in
              subst (λ label. IsLeast roads answers query.sources node (time_of label)) (sym (said.each node is asked)) back;
        }

    -- a node with a label has a level under its new number
    pub laid_level : IsStoredAnswer answer → IsAnswer (renamed_roads numbers roads) answers laid answer → (node : ℕ) → IsNode roads.nodes node → IsAskedBy query.target node → label_of labels node ≢ NONE → HasLevel answer.links (number_of numbers node)
    laid_level stored has node is asked some =
        stored.linked has.walks (number_of numbers node) (subst (λ n. IsNode n (number_of numbers node)) (sym has.arrivals.nodes) (reverse.there_node node is)) (subst (λ t. IsAskedBy t (number_of numbers node)) (sym has.arrivals.target) (asks.asks node asked)) (λ none. some (said.each node is asked ∙ none))

    module _
        (stored : IsStoredAnswer answer)
        (copied : AreLinksCopied roads.nodes numbers nodes answer.links links)
        (asked_copied : AreAskedCopied roads.nodes query.target numbers nodes labels answer.links links)
        (has : IsAnswer (renamed_roads numbers roads) answers laid answer)
      where
        level_of : (node : ℕ) → IsNode roads.nodes node → IsAskedBy query.target node → label_of labels node ≢ NONE → HasLevel links node
        level_of node is asked some =
            let copy = asked_copied node is asked some in
            let level = laid_level stored has node is asked some in
            let same = copy.level in
            omega (arith, same, level)

        many : length answer.links ≡ roads.nodes
        many = stored.links has.walks ∙ has.arrivals.nodes

        walk_laid : (node : ℕ) (walk : List ℕ) → IsNode roads.nodes node → IsAskedBy query.target node → walk_of (answer_of roads.nodes query.target labels links true) node ≡ Some walk → walk_of answer (number_of numbers node) ≡ Some walk
        walk_laid node walk is asked found =
            let parts = walk_found (label_of labels node) (linked_walk links node) walk found in
            let same = linked_same roads.nodes numbers nodes reverse answer.links links many (stored.followable has.walks) copied node is (asked_copied node is asked parts.0) (level_of node is asked parts.0) in
            walk_there (label_of answer.labels (number_of numbers node)) (linked_walk answer.links (number_of numbers node)) walk (λ none. parts.0 (said.each node is asked ∙ none)) (sym same ∙ parts.1)

        pub copied_answer : IsAnswer roads answers query (answer_of roads.nodes query.target labels links true)
        copied_answer =
            let it : IsAnswer (renamed_roads numbers roads) answers (asking (renamed_sources numbers query.sources)) answer = subst (λ (s : List Source). IsAnswer (renamed_roads numbers roads) answers (asking s) answer) asks.sources has in
            record {
              arrivals = copied_arrivals true has.arrivals;
              walks = refl;
              canonical = λ node walk is asked found.
                  canonical_again roads answers query.sources numbers nodes network reverse starts node walk is (it.canonical (number_of numbers node) walk (reverse.there_node node is) (asks.asks node asked) (walk_laid node walk is asked found));
              attains = λ node time walk is asked arrival found.
                  attains_back roads answers query.sources numbers nodes network reverse starts walk node time is (it.attains (number_of numbers node) time walk (reverse.there_node node is) (asks.asks node asked) (sym (ap (λ label. time_of label) (said.each node is asked)) ∙ arrival) (walk_laid node walk is asked found));
            }

        pub copied_stored : IsStoredAnswer (answer_of roads.nodes query.target labels links true)
        copied_stored = record {
          labels = said.places;
          links = λ walks. copied.places;
          followable = λ walks. copies_follow roads.nodes numbers nodes reverse answer.links links many (stored.followable has.walks) copied;
          linked = λ walks node is asked some. level_of node is asked some;
        }
