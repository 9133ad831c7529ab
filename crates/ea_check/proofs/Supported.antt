-- Marks of nodes whose reported times are supported, and the chains that they show.
use Rattle.std.proofs.Common.{◌≡◌, ◌∙◌, refl, ℕ, zero, suc, ◌-◌, ◌<◌, ◌≤◌, ◌⊎◌, inl, inr, Bool, true, false, List, [], ◌∷◌, length, get_or, min, arith, sym, subst}
use Rattle.std.proofs.lemmas.Bool.{false≢true}
use Rattle.std.proofs.lemmas.Bool.Decides.{leb_tells}
use Rattle.std.specs.Prelude.{◌≢◌, Some, None}
use Rattle.std.specs.List.{IsAmong}
use Rattle.ea_base.specs.declared.limits.TheConstants.{HORIZON}
use Rattle.ea_road.specs.declared.TheConstants.{NONE}
use Rattle.ea_road.specs.declared.arc.Arc.{Arc}
use Rattle.ea_road.specs.declared.source.Source.{Source}
use Rattle.ea_road.specs.Roads.{Roads, IsArc, IsNode}
use Rattle.ea_road.specs.Levels.{HasChain, begins, follows}
use Rattle.ea_check.specs.Supported.{AreSupported, IsMarked, IsSupported, from_earlier, from_source}
use Rattle.ea_check.specs.Verdicts.{WrittenWalk, Said, IsSaid, IsReported, IsTask, IsWellFormed, reported_time, AreAttained, AreCanonical}
use Rattle.ea_check.proofs.Right.{node_of_said, time_of_said}

module _
    (roads : Roads)
    (answers : ℕ → ℕ → ℕ → ℕ → Type 0)
    (classes : ℕ)
    (sources : List Source)
    (reported : List Said)
    (task : IsTask roads classes sources)
    (formed : IsWellFormed roads.nodes reported)
  where
    abbrev Chain : ℕ → Type 0
    Chain node = (count : ℕ) × HasChain roads answers sources (IsReported reported) node count

    -- a supported node has a chain if all nodes with earlier times have one
    chain_here : (node : ℕ) → ((tail : ℕ) → IsNode roads.nodes tail → reported_time reported tail < reported_time reported node → reported_time reported tail ≤ HORIZON → Chain tail) → IsSupported roads answers sources reported node → Chain node
    chain_here node earlier (from_source among at) = (0, begins among at)
    chain_here node earlier (from_earlier {number} {tail} tight less) =
        let is_tail = subst (λ n. IsNode roads.nodes n) tight.is_tail (task.network.each_fits number tight.arc tight.is_arc).tail in
        let chain = earlier tail is_tail less (subst (λ t. t ≤ HORIZON) (sym tight.at_tail.0) tight.at_tail.1) in
        (suc chain.0, follows chain.1 tight)

    chain_below : (bound node : ℕ) → reported_time reported node < bound → ((other : ℕ) → IsNode roads.nodes other → reported_time reported other ≢ NONE → IsSupported roads answers sources reported other) → IsNode roads.nodes node → reported_time reported node ≢ NONE → Chain node
    chain_below zero node below each is_node has_time = absurd (omega arith)
    chain_below (suc bound) node below each is_node has_time =
        chain_here node (λ tail is_tail less within. chain_below bound tail (omega arith) each is_tail (λ none. omega (arith, none))) (each node is_node has_time)

    -- all lines are attained and canonical if there is no walk and each node with a time is marked
    pub right_by_marks : (marks : List Bool) → AreSupported roads answers sources reported marks → ((node : ℕ) → IsNode (length reported) node → reported_time reported node ≢ NONE → IsMarked marks node) → ((node : ℕ) (said : Said) → IsSaid reported node said → said.walk ≡ None) → AreAttained roads answers sources reported × AreCanonical roads answers sources reported
    right_by_marks marks are all alone = (
      λ node. record {
        level = λ said is_said has_time.
            let is_node = node_of_said roads.nodes reported node said formed.each_node is_said in
            let same = time_of_said reported node said is_said in
            chain_below (suc (reported_time reported node)) node (omega arith)
            (λ other is_other with_time. are.each other is_other.from_one (all other (subst (λ n. IsNode n other) (sym formed.each_node) is_other) with_time))
            is_node (λ none. has_time (sym same ∙ none));
        walk = λ said walk is_said written. absurd (never node said walk is_said written);
      },
      λ node said walk is_said written. absurd (never node said walk is_said written),
    )
      where
        never : (node : ℕ) (said : Said) (walk : WrittenWalk) → IsSaid reported node said → said.walk ≡ Some walk → ⊥
        never node said walk is_said written = let none = alone node said is_said in cc

    -- an arc that arrives at the time of its head, from an earlier time
    pub arc_supports : (number departure arrival : ℕ) (arc : Arc) → IsArc roads number arc → departure ≡ reported_time reported arc.tail → answers arc.class arc.weight departure arrival → arrival ≤ HORIZON → arrival ≡ reported_time reported arc.head → departure < arrival → IsSupported roads answers sources reported arc.head
    arc_supports number departure arrival arc is_arc from answer within to less =
        from_earlier {number = number} {tail = arc.tail} (record {
          arc = arc;
          is_arc = is_arc;
          is_tail = refl;
          is_head = refl;
          departure = departure;
          arrival = arrival;
          at_tail = (sym from, omega arith);
          at_head = (sym to, within);
          answer = answer;
        }) (omega arith)

    pub source_supports : (source : Source) → IsAmong sources source → source.departure ≡ reported_time reported source.node → IsSupported roads answers sources reported source.node
    source_supports source among same = from_source among (sym same, (task.starts source among).1)

    -- one more mark
    pub marks_more : (old new : List Bool) (node : ℕ) → AreSupported roads answers sources reported old → length new ≡ length old → ((other : ℕ) → IsNode (length old) other → IsMarked new other → IsMarked old other ⊎ (node ≡ other)) → IsSupported roads answers sources reported node → AreSupported roads answers sources reported new
    marks_more old new node are same only here = record {
      each_node = same ∙ are.each_node;
      each = λ other some marked. by_place other some marked (get_or_inside new (other - 1) marked);
    }
      where
        get_or_inside : (marks : List Bool) (place : ℕ) → get_or marks place false ≡ true → place < length marks
        get_or_inside [] place marked = absurd (false≢true marked)
        get_or_inside (mark ∷ marks) zero marked = omega arith
        get_or_inside (mark ∷ marks) (suc place) marked = let inside = get_or_inside marks place marked in omega arith

        by_place : (other : ℕ) → 0 < other → IsMarked new other → other - 1 < length new → IsSupported roads answers sources reported other
        by_place other some marked inside =
            elim (only other (record { from_one = some; to_last = omega arith }) marked) [
              | inl before ↦ are.each other some before
              | inr is ↦ subst (λ n. IsSupported roads answers sources reported n) is here
            ]

-- the lower of what was found so far and a node that is found
pub lower_found : (IsFound : ℕ → Type 0) (lowest node now : ℕ) → now ≡ min lowest node → IsFound node → (now ≡ lowest) ⊎ IsFound now
lower_found IsFound lowest node now is found = elim (leb_tells lowest node) [
  | inl below ↦ inl (omega (arith, below.1))
  | inr above ↦ let same : node ≡ now = omega (arith, above.1) in inr (subst IsFound same found)
]
