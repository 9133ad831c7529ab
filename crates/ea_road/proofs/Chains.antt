-- It is decidable whether a chain of a length leads to a node; so a node with a chain has a level, and a node
-- with a level has exactly one canonical walk.
use Rattle.std.proofs.Common.{◌≡◌, ◌∙◌, refl, ℕ, zero, suc, ◌+◌, ◌-◌, ◌<◌, ◌≤◌, List, [], ◌∷◌, ◌++◌, length, get_or, inl, inr, arith, ap, subst, sym}
use Rattle.std.proofs.lemmas.Bool.Decides.{eqb_tells}
use Rattle.std.proofs.lemmas.List.{get_or_read, get_or_default}
use Rattle.std.proofs.lemmas.Option.{get_or_from_slice_get}
use Rattle.std.specs.List.{IsAmong}
use Rattle.ea_base.specs.declared.limits.TheConstants.{HORIZON}
use Rattle.ea_road.specs.declared.arc.Arc.{Arc}
use Rattle.ea_road.specs.declared.source.Source.{Source}
use Rattle.ea_travel_times.specs.Answers.{IsFifo}
use Rattle.ea_road.specs.Roads.{Roads, IsArc, IsNetwork, top_class}
use Rattle.ea_road.specs.Labels.{IsLabel}
use Rattle.ea_road.specs.Levels.{IsTight, HasChain, begins, follows, IsLevel, IsCanonical, at_source, by_arc}
use Rattle.ea_road.proofs.Arcs.{is_question, arc_at, arc_inside}
use Rattle.ea_road.proofs.Decide.{Decided, decide_both, decide_same, decide_le, decide_below, least_of}
use Rattle.ea_road.proofs.Same.{one_answer}

no_source : Source
no_source = record { node = 0; departure = 0 }

no_arc : Arc
no_arc = record { tail = 0; head = 0; weight = 0; class = 0 }

module _
    (roads : Roads)
    (answers : ℕ → ℕ → ℕ → ℕ → Type 0)
    (classes : ℕ)
    (sources : List Source)
    (label : ℕ → ℕ)
    (network : IsNetwork roads)
    (classed : top_class roads.arcs ≤ classes)
    (fifo : IsFifo answers classes)
  where
    -- a tight arc, by the labels
    pub tight_answer : {number tail head : ℕ} (tight : IsTight roads answers (IsLabel label) number tail head) → answers tight.arc.class tight.arc.weight (label tail) (label head)
    tight_answer {tail} {head} tight =
        let before : answers tight.arc.class tight.arc.weight (label tail) tight.arrival = subst (λ t. answers tight.arc.class tight.arc.weight t tight.arrival) (sym tight.at_tail.0) tight.answer in
        subst (λ t. answers tight.arc.class tight.arc.weight (label tail) t) (sym tight.at_head.0) before

    pub tail_within : {number tail head : ℕ} → IsTight roads answers (IsLabel label) number tail head → label tail ≤ HORIZON
    tail_within tight = let at = tight.at_tail in omega arith

    pub head_within : {number tail head : ℕ} → IsTight roads answers (IsLabel label) number tail head → label head ≤ HORIZON
    head_within tight = let at = tight.at_head in omega arith

    pub make_tight : (number tail head : ℕ) (arc : Arc) → IsArc roads number arc → arc.tail ≡ tail → arc.head ≡ head → label tail ≤ HORIZON → label head ≤ HORIZON → answers arc.class arc.weight (label tail) (label head) → IsTight roads answers (IsLabel label) number tail head
    make_tight number tail head arc is_arc is_tail is_head tail_low head_low answer = record {
      arc = arc;
      is_arc = is_arc;
      is_tail = is_tail;
      is_head = is_head;
      departure = label tail;
      arrival = label head;
      at_tail = (refl, tail_low);
      at_head = (refl, head_low);
      answer = answer;
    }

    decide_answer : (arc : Arc) (number departure arrival : ℕ) → IsArc roads number arc → departure ≤ HORIZON → Decided (answers arc.class arc.weight departure arrival)
    decide_answer arc number departure arrival is_arc within =
        let question = is_question roads classes number departure arc network classed is_arc within in
        let best = fifo.has_answer arc.class arc.weight departure question in
        elim (eqb_tells best.0 arrival) [
          | inl same ↦ inl (subst (λ a. answers arc.class arc.weight departure a) same.1 best.1)
          | inr other ↦ inr (λ answer. other.1 (one_answer answers classes fifo arc.class arc.weight departure best.0 arrival question best.1 answer))
        ]

    -- the source at a place of the list begins a chain
    abbrev BeginsAt : ℕ → ℕ → Type 0
    BeginsAt node place =
        ((get_or sources place no_source).node ≡ node) × IsLabel label node (get_or sources place no_source).departure

    decide_begins : (node place : ℕ) → Decided (BeginsAt node place)
    decide_begins node place =
        decide_both _ _ (decide_same _ _) (λ same. decide_both _ _ (decide_same _ _) (λ too. decide_le _ _))

    begins_at : (node place : ℕ) → place < length sources → BeginsAt node place → HasChain roads answers sources (IsLabel label) node 0
    begins_at node place inside here =
        let source = get_or sources place no_source in
        let among : IsAmong sources source = (place, (inside, get_or_same place inside)) in
        let at : IsLabel label source.node source.departure = (ap label here.0 ∙ here.1.0, here.1.1) in
        subst (λ n. HasChain roads answers sources (IsLabel label) n 0) here.0 (begins among at)
      where
        get_or_same : (place : ℕ) → place < length sources → get_or sources place no_source ≡ get_or sources place (get_or sources place no_source)
        get_or_same place inside = get_or_default sources place no_source (get_or sources place no_source) inside

    begins_of : {node count : ℕ} → HasChain roads answers sources (IsLabel label) node count → count ≡ 0 → (place : ℕ) × (place < length sources) × BeginsAt node place
    begins_of (begins {source} among at) none =
        let read = get_or_read sources among.0 source among.1.0 among.1.1 no_source in
        (among.0, among.1.0, (ap (λ (s : Source). s.node) (sym read), (at.0 ∙ ap (λ (s : Source). s.departure) read, subst (λ (s : Source). s.departure ≤ HORIZON) read at.1)))
    begins_of (follows chain tight) none = absurd (omega arith)

    decide_start : (node : ℕ) → Decided (HasChain roads answers sources (IsLabel label) node 0)
    decide_start node =
        elim (decide_below (BeginsAt node) (decide_begins node) (length sources)) [
          | inl found ↦ inl (begins_at node found.0 found.1 found.2)
          | inr none ↦ inr (λ chain. none (begins_of chain refl))
        ]

    -- the arc at a place of the list ends a chain
    abbrev EndsAt : ℕ → ℕ → ℕ → Type 0
    EndsAt count node place =
        (place < length roads.arcs) × ((get_or roads.arcs place no_arc).head ≡ node) × (label (get_or roads.arcs place no_arc).tail ≤ HORIZON) × (label node ≤ HORIZON) × answers (get_or roads.arcs place no_arc).class (get_or roads.arcs place no_arc).weight (label (get_or roads.arcs place no_arc).tail) (label node) × HasChain roads answers sources (IsLabel label) (get_or roads.arcs place no_arc).tail count

    tight_at : (count node place : ℕ) → EndsAt count node place → IsTight roads answers (IsLabel label) (place + 1) (get_or roads.arcs place no_arc).tail node
    tight_at count node place ends =
        make_tight (place + 1) (get_or roads.arcs place no_arc).tail node (get_or roads.arcs place no_arc) (arc_at roads place no_arc ends.0) refl ends.1 ends.2 ends.3 ends.4

    ends_at : (count number tail head : ℕ) → HasChain roads answers sources (IsLabel label) tail count → IsTight roads answers (IsLabel label) number tail head → EndsAt count head (number - 1)
    ends_at count number tail head chain tight =
        let place = number - 1 in
        let inside : place < length roads.arcs = arc_inside roads.arcs place tight.arc tight.is_arc.found in
        let found : get_or roads.arcs place no_arc ≡ tight.arc = get_or_from_slice_get roads.arcs place tight.arc no_arc tight.is_arc.found in
        let tail_is : tail ≡ (get_or roads.arcs place no_arc).tail = sym tight.is_tail ∙ ap (λ (a : Arc). a.tail) (sym found) in
        let answer = subst (λ (a : Arc). answers a.class a.weight (label tail) (label head)) (sym found) (tight_answer tight) in (
          inside,
          ap (λ (a : Arc). a.head) found ∙ tight.is_head,
          subst (λ n. label n ≤ HORIZON) tail_is (tail_within tight),
          head_within tight,
          subst (λ n. answers (get_or roads.arcs place no_arc).class (get_or roads.arcs place no_arc).weight (label n) (label head)) tail_is answer,
          subst (λ n. HasChain roads answers sources (IsLabel label) n count) tail_is chain,
        )

    ends_of : {node size : ℕ} (count : ℕ) → HasChain roads answers sources (IsLabel label) node size → size ≡ suc count → (place : ℕ) × (place < length roads.arcs) × EndsAt count node place
    ends_of count (begins among at) same = absurd (omega arith)
    ends_of count (follows {tail} {head} {number} {count = size} chain tight) same =
        let size_is : size ≡ count = omega arith in
        let ends = ends_at count number tail head (subst (λ n. HasChain roads answers sources (IsLabel label) tail n) size_is chain) tight in
        (number - 1, ends.0, ends)

    decide_ends : (count node : ℕ) → ((tail : ℕ) → Decided (HasChain roads answers sources (IsLabel label) tail count)) → (place : ℕ) → Decided (EndsAt count node place)
    decide_ends count node earlier place =
        let arc = get_or roads.arcs place no_arc in
        elim (decide_le (place + 1) (length roads.arcs)) [
          | inr outside ↦ inr (λ ends. let inside = ends.0 in outside (omega arith))
          | inl inside ↦ elim (decide_same arc.head node) [
            | inr differs ↦ inr (λ ends. differs ends.1)
            | inl head ↦ elim (decide_le (label arc.tail) HORIZON) [
              | inr late ↦ inr (λ ends. late ends.2)
              | inl tail_within ↦ elim (decide_le (label node) HORIZON) [
                | inr late ↦ inr (λ ends. late ends.3)
                | inl head_within ↦ elim (decide_answer arc (place + 1) (label arc.tail) (label node) (arc_at roads place no_arc (omega arith)) tail_within) [
                  | inr not ↦ inr (λ ends. not ends.4)
                  | inl answer ↦ elim (earlier arc.tail) [
                    | inr none ↦ inr (λ ends. none ends.5)
                    | inl chain ↦ inl (omega arith, head, tail_within, head_within, answer, chain)
                  ]
                ]
              ]
            ]
          ]
        ]

    pub decide_chain : (count node : ℕ) → Decided (HasChain roads answers sources (IsLabel label) node count)
    decide_chain zero node = decide_start node
    decide_chain (suc count) node =
        elim (decide_below (EndsAt count node) (decide_ends count node (decide_chain count)) (length roads.arcs)) [
          | inl found ↦ inl (follows found.2.5 (tight_at count node found.0 found.2))
          | inr none ↦ inr (λ chain. none (ends_of count chain refl))
        ]

    pub level_of : (node count : ℕ) → HasChain roads answers sources (IsLabel label) node count → (level : ℕ) × IsLevel roads answers sources (IsLabel label) node level
    level_of node count chain =
        let best = least_of (λ n. HasChain roads answers sources (IsLabel label) node n) (λ n. decide_chain n node) count chain in
        (best.number, record { chain = best.holds; fewest = best.least })

    -- the tail of the last arc of a shortest chain is one level below
    below_level : (head count number tail : ℕ) → IsLevel roads answers sources (IsLabel label) head (suc count) → HasChain roads answers sources (IsLabel label) tail count → IsTight roads answers (IsLabel label) number tail head → IsLevel roads answers sources (IsLabel label) tail count
    below_level head count number tail level chain tight = record {
      chain = chain;
      fewest = λ other also. let bound = level.fewest (suc other) (follows also tight) in omega arith;
    }

    pub canonical_walk : (level node : ℕ) → IsLevel roads answers sources (IsLabel label) node level → (walk : List ℕ) × IsCanonical roads answers sources (IsLabel label) node walk
    canonical_walk zero node is_level = ([], at_source is_level)
    canonical_walk (suc count) node is_level =
        let last = ends_of count is_level.chain refl in
        let first = least_of (EndsAt count node) (decide_ends count node (decide_chain count)) last.0 last.2 in
        let tail = (get_or roads.arcs first.number no_arc).tail in
        let tight = tight_at count node first.number first.holds in
        let below = below_level node count (first.number + 1) tail is_level first.holds.5 tight in
        let front = canonical_walk count tail below in (
          front.0 ++ (first.number + 1) ∷ [],
          by_arc front.1 below is_level tight (λ other from also lower.
              let bound = first.least (other - 1) (ends_at count other from node lower.chain also) in
              let some = also.is_arc.from_one in
              omega arith),
        )
