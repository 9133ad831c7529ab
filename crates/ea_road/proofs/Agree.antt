-- If two assignments of times agree up to a time, so do their tight arcs, levels and canonical walks.
use Rattle.std.proofs.Common.{◌≡◌, ℕ, ◌≤◌, List, arith, subst}
use Rattle.std.specs.List.{IsAmong}
use Rattle.ea_base.specs.declared.limits.TheConstants.{HORIZON}
use Rattle.ea_road.specs.declared.source.Source.{Source}
use Rattle.ea_travel_times.specs.Answers.{IsFifo}
use Rattle.ea_road.specs.Roads.{Roads, IsNode, IsNetwork, top_class}
use Rattle.ea_road.specs.Levels.{IsTight, HasChain, begins, follows, IsLevel, IsCanonical, at_source, by_arc}
use Rattle.ea_road.proofs.Arcs.{is_question}

-- Each node has at most one time, within the horizon.
pub record AreTimes (times : ℕ → ℕ → Type 0) : Type 0 where
  pub within : (node time : ℕ) → times node time → time ≤ HORIZON
  pub one : (node time other : ℕ) → times node time → times node other → time ≡ other

-- A time of the first up to the bound is one of the second.
abbrev pub SaysToo : ℕ → (ℕ → ℕ → Type 0) → (ℕ → ℕ → Type 0) → ℕ → Type 0
SaysToo nodes first second top = (node time : ℕ) → IsNode nodes node → time ≤ top → first node time → second node time

module _
    (roads : Roads)
    (answers : ℕ → ℕ → ℕ → ℕ → Type 0)
    (classes : ℕ)
    (sources : List Source)
    (network : IsNetwork roads)
    (classed : top_class roads.arcs ≤ classes)
    (fifo : IsFifo answers classes)
    (starts : (source : Source) → IsAmong sources source → IsNode roads.nodes source.node)
  where
    tail_node : {times : ℕ → ℕ → Type 0} {number tail head : ℕ} → IsTight roads answers times number tail head → IsNode roads.nodes tail
    tail_node {number} tight = subst (λ n. IsNode roads.nodes n) tight.is_tail (network.each_fits number tight.arc tight.is_arc).tail

    head_node : {times : ℕ → ℕ → Type 0} {number tail head : ℕ} → IsTight roads answers times number tail head → IsNode roads.nodes head
    head_node {number} tight = subst (λ n. IsNode roads.nodes n) tight.is_head (network.each_fits number tight.arc tight.is_arc).head

    -- a tight arc's tail is no later than its head
    tail_le : (times : ℕ → ℕ → Type 0) → AreTimes times → {number tail head : ℕ} (time : ℕ) → times head time → (tight : IsTight roads answers times number tail head) → tight.departure ≤ time
    tail_le times are {number} {tail} {head} time at tight =
        let asked = is_question roads classes number tight.departure tight.arc network classed tight.is_arc (are.within tail tight.departure tight.at_tail) in
        let onward = fifo.not_before tight.arc.class tight.arc.weight tight.departure tight.arrival asked tight.answer in
        let same = are.one head tight.arrival time tight.at_head at in
        omega arith

    module _ (first second : ℕ → ℕ → Type 0) (top : ℕ) (are : AreTimes first) (there : SaysToo roads.nodes first second top) where
      tight_there : {number tail head : ℕ} (time : ℕ) → first head time → time ≤ top → IsTight roads answers first number tail head → IsTight roads answers second number tail head
      tight_there {number} {tail} {head} time at low tight =
          let before = tail_le first are time at tight in
          let same = are.one head tight.arrival time tight.at_head at in
          record {
            arc = tight.arc;
            is_arc = tight.is_arc;
            is_tail = tight.is_tail;
            is_head = tight.is_head;
            departure = tight.departure;
            arrival = tight.arrival;
            at_tail = there tail tight.departure (tail_node tight) (omega arith) tight.at_tail;
            at_head = there head tight.arrival (head_node tight) (omega arith) tight.at_head;
            answer = tight.answer;
          }

      chain_there : {node count : ℕ} (time : ℕ) → first node time → time ≤ top → HasChain roads answers sources first node count → HasChain roads answers sources second node count
      chain_there time at low (begins {source} among departs) =
          let same = are.one source.node source.departure time departs at in
          begins among (there source.node source.departure (starts source among) (omega arith) departs)
      chain_there time at low (follows {tail} {head} chain tight) =
          let before = tail_le first are time at tight in
          follows (chain_there tight.departure tight.at_tail (omega arith) chain) (tight_there time at low tight)

    module _ (first second : ℕ → ℕ → Type 0) (top : ℕ) (are : AreTimes first) (also : AreTimes second) (there : SaysToo roads.nodes first second top) (back : SaysToo roads.nodes second first top) where
      pub level_there : {node level : ℕ} (time : ℕ) → IsNode roads.nodes node → first node time → time ≤ top → IsLevel roads answers sources first node level → IsLevel roads answers sources second node level
      level_there {node} time is_node at low level = record {
        chain = chain_there first second top are there time at low level.chain;
        fewest = λ count chain. level.fewest count (chain_there second first top also back time (there node time is_node low at) low chain);
      }

    module _ (first second : ℕ → ℕ → Type 0) (top : ℕ) (are : AreTimes first) (also : AreTimes second) (there : SaysToo roads.nodes first second top) (back : SaysToo roads.nodes second first top) where
      pub canonical_there : {node : ℕ} {walk : List ℕ} (time : ℕ) → IsNode roads.nodes node → first node time → time ≤ top → IsCanonical roads answers sources first node walk → IsCanonical roads answers sources second node walk
      canonical_there time is_node at low (at_source {node} level) =
          at_source (level_there first second top are also there back time is_node at low level)
      canonical_there time is_node at low (by_arc {tail} {head} {number} {level} front lower upper tight lowest) =
          let before = tail_le first are time at tight in
          let moved = there head time is_node low at in
          by_arc
          (canonical_there tight.departure (tail_node tight) tight.at_tail (omega arith) front)
          (level_there first second top are also there back tight.departure (tail_node tight) tight.at_tail (omega arith) lower)
          (level_there first second top are also there back time is_node at low upper)
          (tight_there first second top are there time at low tight)
          (λ other from close under.
          let sooner = tail_le second also time moved close in
          lowest other from
          (tight_there second first top also back time moved low close)
          (level_there second first top also are back there close.departure (tail_node close) close.at_tail (omega arith) under))
