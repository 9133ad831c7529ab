-- If two assignments of times agree at near nodes, so do their tight arcs, levels and canonical walks there.
use Rattle.std.proofs.Common.{ℕ, ◌≤◌, List, subst, sym}
use Rattle.std.specs.List.{IsAmong}
use Rattle.ea_base.specs.declared.limits.TheConstants.{HORIZON}
use Rattle.ea_road.specs.declared.arc.Arc.{Arc}
use Rattle.ea_road.specs.declared.source.Source.{Source}
use Rattle.ea_road.specs.Roads.{Roads, IsArc, IsNode, IsNetwork}
use Rattle.ea_road.specs.Levels.{IsTight, HasChain, begins, follows, IsLevel, IsCanonical, at_source, by_arc}
use Rattle.ea_road.proofs.Agree.{AreTimes}

-- A time of the first at a near node is one of the second.
abbrev pub SaysNear : ℕ → (ℕ → ℕ → Type 0) → (ℕ → ℕ → Type 0) → (ℕ → ℕ → Type 0) → Type 0
SaysNear nodes near first second = (node time : ℕ) → IsNode nodes node → near node time → first node time → second node time

module _
    (roads : Roads)
    (answers : ℕ → ℕ → ℕ → ℕ → Type 0)
    (sources : List Source)
    (network : IsNetwork roads)
    (starts : (source : Source) → IsAmong sources source → IsNode roads.nodes source.node)
    (near : ℕ → ℕ → Type 0)
    -- what leads to a near node is near
    (closed : (number departure arrival : ℕ) (arc : Arc) → IsArc roads number arc → departure ≤ HORIZON → arrival ≤ HORIZON → answers arc.class arc.weight departure arrival → near arc.head arrival → near arc.tail departure)
  where
    tail_node : {times : ℕ → ℕ → Type 0} {number tail head : ℕ} → IsTight roads answers times number tail head → IsNode roads.nodes tail
    tail_node {number} tight = subst (λ n. IsNode roads.nodes n) tight.is_tail (network.each_fits number tight.arc tight.is_arc).tail

    head_node : {times : ℕ → ℕ → Type 0} {number tail head : ℕ} → IsTight roads answers times number tail head → IsNode roads.nodes head
    head_node {number} tight = subst (λ n. IsNode roads.nodes n) tight.is_head (network.each_fits number tight.arc tight.is_arc).head

    module _ (first second : ℕ → ℕ → Type 0) (are : AreTimes first) (there : SaysNear roads.nodes near first second) where
      head_near : {number tail head : ℕ} (time : ℕ) → first head time → near head time → (tight : IsTight roads answers first number tail head) → near head tight.arrival
      head_near {number} {tail} {head} time at close tight = subst (λ t. near head t) (sym (are.one head tight.arrival time tight.at_head at)) close

      -- a tight arc's tail is near if its head is
      tail_near : {number tail head : ℕ} (time : ℕ) → first head time → near head time → (tight : IsTight roads answers first number tail head) → near tail tight.departure
      tail_near {number} {tail} {head} time at close tight =
          let arrives : near tight.arc.head tight.arrival = subst (λ n. near n tight.arrival) (sym tight.is_head) (head_near time at close tight) in
          subst (λ n. near n tight.departure) tight.is_tail (closed number tight.departure tight.arrival tight.arc tight.is_arc (are.within tail tight.departure tight.at_tail) (are.within head tight.arrival tight.at_head) tight.answer arrives)

      tight_there : {number tail head : ℕ} (time : ℕ) → first head time → near head time → IsTight roads answers first number tail head → IsTight roads answers second number tail head
      tight_there {number} {tail} {head} time at close tight = record {
        arc = tight.arc;
        is_arc = tight.is_arc;
        is_tail = tight.is_tail;
        is_head = tight.is_head;
        departure = tight.departure;
        arrival = tight.arrival;
        at_tail = there tail tight.departure (tail_node tight) (tail_near time at close tight) tight.at_tail;
        at_head = there head tight.arrival (head_node tight) (head_near time at close tight) tight.at_head;
        answer = tight.answer;
      }

      pub chain_there : {node count : ℕ} (time : ℕ) → first node time → near node time → HasChain roads answers sources first node count → HasChain roads answers sources second node count
      chain_there time at close (begins {source} among departs) =
          let same = are.one source.node time source.departure at departs in
          begins among (there source.node source.departure (starts source among) (subst (λ t. near source.node t) same close) departs)
      chain_there time at close (follows {tail} {head} chain tight) =
          follows (chain_there tight.departure tight.at_tail (tail_near time at close tight) chain) (tight_there time at close tight)

    module _ (first second : ℕ → ℕ → Type 0) (are : AreTimes first) (also : AreTimes second) (there : SaysNear roads.nodes near first second) (back : SaysNear roads.nodes near second first) where
      pub level_there : {node level : ℕ} (time : ℕ) → IsNode roads.nodes node → first node time → near node time → IsLevel roads answers sources first node level → IsLevel roads answers sources second node level
      level_there {node} time is_node at close level = record {
        chain = chain_there first second are there time at close level.chain;
        fewest = λ count chain. level.fewest count (chain_there second first also back time (there node time is_node close at) close chain);
      }

    module _ (first second : ℕ → ℕ → Type 0) (are : AreTimes first) (also : AreTimes second) (there : SaysNear roads.nodes near first second) (back : SaysNear roads.nodes near second first) where
      pub canonical_there : {node : ℕ} {walk : List ℕ} (time : ℕ) → IsNode roads.nodes node → first node time → near node time → IsCanonical roads answers sources first node walk → IsCanonical roads answers sources second node walk
      canonical_there time is_node at close (at_source {node} level) =
          at_source (level_there first second are also there back time is_node at close level)
      canonical_there time is_node at close (by_arc {tail} {head} {number} {level} front lower upper tight lowest) =
          let before = tail_near first second are there time at close tight in
          let moved = there head time is_node close at in
          by_arc
          (canonical_there tight.departure (tail_node tight) tight.at_tail before front)
          (level_there first second are also there back tight.departure (tail_node tight) tight.at_tail before lower)
          (level_there first second are also there back time is_node at close upper)
          (tight_there first second are there time at close tight)
          (λ other from next under.
          let sooner = tail_near second first also back time moved close next in
          lowest other from
          (tight_there second first also back time moved close next)
          (level_there second first also are back there next.departure (tail_node next) next.at_tail sooner under))
