-- How the moves of a run keep its invariant.
use Rattle.std.proofs.Common.{◌≡◌, ◌≢◌, ℕ, zero, suc, ◌+◌, ◌-◌, ◌<◌, ◌≤◌, List, [], ◌∷◌, ◌++◌, length, get_or, set, replicate, refl, sym, ap, ◌∙◌, arith, subst, ◌⊎◌, inl, inr, Contains, Option}
use Rattle.std.specs.List.{IsAmong}
use Rattle.std.proofs.lemmas.Bool.{cases_eq, cases_lt}
use Rattle.std.proofs.lemmas.List.{get_or_default, get_or-set_same, get_or-set_other, length-set}
use Rattle.ea_base.specs.declared.limits.TheConstants.{HORIZON}
use Rattle.ea_road.specs.declared.TheConstants.{NONE}
use Rattle.ea_road.specs.declared.arc.Arc.{Arc}
use Rattle.ea_road.specs.declared.source.Source.{Source}
use Rattle.ea_travel_times.specs.Answers.{IsFifo}
use Rattle.ea_road.specs.Roads.{Roads, IsArc, IsNode, IsNetwork, top_class}
use Rattle.ea_road.proofs.Arcs.{is_question, one_arc}
use Rattle.ea_road.proofs.Reached.{reaches_more}
use Rattle.ea_road.proofs.Same.{one_answer}
use Rattle.ea_road.specs.Arrivals.{Reaches}
use Rattle.ea_road.specs.Labels.{label_of, IsFixed}
use Rattle.ea_pool.specs.declared.heap.entry.Entry.{Entry}
use Rattle.ea_machine.specs.Totals.{total}
use Rattle.ea_pool.specs.Entries.{times, only}
use Rattle.ea_machine.proofs.Totals.{total-append}
use Rattle.ea_pool.proofs.Weights.{only-same, only-one}
use Rattle.ea_rank.specs.Runs.{State, LowersNode, PopsFound, KeepsEntries, weighs, entry_of}
use Rattle.ea_rank.specs.Tallies.{added}
use Rattle.ea_rank.proofs.Books.{takes-weighs, none_weighs}

-- a label after one is set
label-same : (labels : List ℕ) (node v time : ℕ) → 0 < node → node ≤ length labels → v ≡ node → label_of (set labels (node - 1) time) v ≡ time
label-same labels node v time some near same =
    ap (λ (n : ℕ). get_or (set labels (node - 1) time) (n - 1) 0) same ∙ get_or-set_same labels (node - 1) time 0 (omega arith)

label-other : (labels : List ℕ) (node v time : ℕ) → 0 < node → 0 < v → v ≢ node → label_of (set labels (node - 1) time) v ≡ label_of labels v
label-other labels node v time some there apart =
    get_or-set_other labels (node - 1) (v - 1) time 0 (λ e. apart (omega arith))

-- the label that was lowered
pub lowered_label : (node time : ℕ) (old new : State) → 0 < node → node ≤ length old.labels → LowersNode node time old new → label_of new.labels node ≡ time
lowered_label node time old new some near m = ap (λ (l : List ℕ). label_of l node) m.labels ∙ label-same old.labels node node time some near refl

-- no label rises
falls : (labels : List ℕ) (node v time : ℕ) → 0 < node → node ≤ length labels → time ≤ label_of labels node → label_of (set labels (node - 1) time) v ≤ label_of labels v
falls labels node v time some near low = elim (cases_eq (v - 1) (node - 1)) [
  | inl e ↦ (
      let new = get_or-set_same labels (node - 1) time 0 (omega arith) in
      omega (arith, ap (λ (n : ℕ). get_or (set labels (node - 1) time) n 0) e, ap (λ (n : ℕ). get_or labels n 0) e))
  | inr n ↦ omega (arith, get_or-set_other labels (node - 1) (v - 1) time 0 n)
]

added-set : (xs : List ℕ) (k x : ℕ) → k < length xs → added (set xs k x) + get_or xs k 0 ≡ added xs + x
added-set [] k x near = absurd (omega arith)
added-set (y ∷ xs) zero x near = omega arith
added-set (y ∷ xs) (suc k) x near = omega (arith, added-set xs k x (omega arith))

-- a lowering takes at least one from the sum, and adds one entry
pub less-lowers : (node time : ℕ) (old new : State) → 0 < node → node ≤ length old.labels → time < label_of old.labels node → LowersNode node time old new → added new.labels + weighs (λ e. 1) new.heaps ≤ added old.labels + weighs (λ e. 1) old.heaps
less-lowers node time old new some near low m =
    omega (arith, ap added m.labels, added-set old.labels (node - 1) time (omega arith), m.heaps (λ e. 1))

pub less-pops : (first second : ℕ) (entry : Entry) (old new : State) → PopsFound first second entry old new → added new.labels + weighs (λ e. 1) new.heaps < added old.labels + weighs (λ e. 1) old.heaps
less-pops first second entry old new m = omega (arith, ap added m.labels, takes-weighs _ entry old.heaps new.heaps m.heaps.taken (λ e. 1))

pub among_at : (xs : List Source) (i : ℕ) (d : Source) → i < length xs → IsAmong xs (get_or xs i d)
among_at xs i d near = (i, (near, get_or_default xs i d (get_or xs i d) near))

among_more : (begun : List Source) (source other : Source) → IsAmong (begun ++ source ∷ []) other → IsAmong begun other ⊎ (other ≡ source)
among_more [] source other (zero, (near, is)) = inr is
among_more [] source other (suc k, (near, is)) = absurd (omega arith)
among_more (s ∷ begun) source other (zero, (near, is)) = inl (zero, (omega arith, is))
among_more (s ∷ begun) source other (suc k, (near, is)) = elim (among_more begun source other (k, (omega arith, is))) [
  | inl h ↦ inl (suc h.0, (omega (arith, h.1.0), h.1.1))
  | inr e ↦ inr e
]

contains_more : (first : ℕ) (rest : List ℕ) (number : ℕ) → Contains (first ∷ rest) number → (first ≡ number) ⊎ Contains rest number
contains_more first rest number (zero, near, is) = inl is
contains_more first rest number (suc k, near, is) = inr (k, omega arith, is)

module _ (roads : Roads) (answers : ℕ → ℕ → ℕ → ℕ → Type 0) (sources : List Source) (network : IsNetwork roads) where
  pub underway-lowers : (begun : List Source) (left : List ℕ) (popped : List Entry) (node time : ℕ) (old new : State) → IsNode roads.nodes node → time ≤ HORIZON → time < label_of old.labels node → Reaches roads answers sources node time
      → KeepsEntries roads answers sources begun left popped old → LowersNode node time old new → KeepsEntries roads answers sources begun left popped new
  underway-lowers begun left popped node time old new is_node within low reaches u m = record {
    places = ap (λ (l : List ℕ). length l) m.labels ∙ length-set old.labels (node - 1) time ∙ u.places;
    at_sources = λ source among. (let was = u.at_sources source among in let down = fall source.node in omega arith);
    reached = λ v there labelled. elim (cases_eq v node) [
      | inl e ↦ subst (λ (x : ℕ). Reaches roads answers sources v x) (sym (here v e)) (subst (λ (n : ℕ). Reaches roads answers sources n time) (sym e) reaches)
      | inr n ↦ subst (λ (x : ℕ). Reaches roads answers sources v x) (sym (other v there.from_one n)) (u.reached v there (λ z. labelled (other v there.from_one n ∙ z)))
    ];
    entries = λ e there. (
        let sum = m.heaps (only e) in
        elim (cases_lt 0 (weighs (only e) old.heaps)) [
          | inl was ↦ (let o = u.entries e was in let down = fall e.node in (o.0, o.1, omega (arith, o.2)))
          | inr none ↦ (
              let same : e ≡ entry_of node time = only-one e (entry_of node time) (omega arith) in
              let n : e.node ≡ node = ap (λ (x : Entry). x.node) same in
              let k : e.key ≡ time = ap (λ (x : Entry). x.key) same in
              let now = here e.node n in (subst (λ (v : ℕ). IsNode roads.nodes v) (sym n) is_node, omega arith, omega arith))
        ]);
    entered = λ v there labelled. elim (cases_eq v node) [
      | inl e ↦ (let p = pushed v e in omega arith)
      | inr n ↦ (
          let o = other v there.from_one n in
          let was = u.entered v there (λ z. labelled (o ∙ z)) in
          subst (λ (x : ℕ). 0 < weighs (only (entry_of v x)) new.heaps + times (entry_of v x) popped) (sym o) (let sum = m.heaps (only (entry_of v (label_of old.labels v))) in omega arith))
    ];
    passed = λ number arc is_arc labelled. (
        let tail = (network.each_fits number arc is_arc).tail in
        elim (cases_eq arc.tail node) [
          | inl e ↦ inl (pushed arc.tail e)
          | inr n ↦ (
              let o = other arc.tail tail.from_one n in
              subst (λ (x : ℕ). (0 < weighs (only (entry_of arc.tail x)) new.heaps) ⊎ (Contains left number ⊎ ((arrival : ℕ) → answers arc.class arc.weight x arrival → arrival ≤ HORIZON → label_of new.labels arc.head ≤ arrival))) (sym o)
              (elim (u.passed number arc is_arc (λ z. labelled (o ∙ z))) [
                | inl h ↦ inl (let sum = m.heaps (only (entry_of arc.tail (label_of old.labels arc.tail))) in omega arith)
                | inr rest ↦ elim rest [
                  | inl h ↦ inr (inl h)
                  | inr h ↦ inr (inr (λ arrival answer early. (let was = h arrival answer early in let down = fall arc.head in omega arith)))
                ]
              ]))
        ]);
  }
    where
      near : node ≤ length old.labels
      near = omega (arith, u.places, is_node.to_last)

      fall : (v : ℕ) → label_of new.labels v ≤ label_of old.labels v
      fall v = omega (arith, ap (λ (l : List ℕ). label_of l v) m.labels, falls old.labels node v time is_node.from_one near (omega arith))

      here : (v : ℕ) → v ≡ node → label_of new.labels v ≡ time
      here v e = ap (λ (l : List ℕ). label_of l v) m.labels ∙ label-same old.labels node v time is_node.from_one near e

      other : (v : ℕ) → 0 < v → v ≢ node → label_of new.labels v ≡ label_of old.labels v
      other v some n = ap (λ (l : List ℕ). label_of l v) m.labels ∙ label-other old.labels node v time is_node.from_one some n

      pushed : (v : ℕ) → v ≡ node → 0 < weighs (only (entry_of v (label_of new.labels v))) new.heaps
      pushed v e =
          let is : entry_of v (label_of new.labels v) ≡ entry_of node time = ap (λ (x : ℕ). entry_of v x) (here v e) ∙ ap (λ (n : ℕ). entry_of n time) e in
          subst (λ (x : Entry). 0 < weighs (only x) new.heaps) (sym is) (let sum = m.heaps (only (entry_of node time)) in let one = only-same (entry_of node time) in omega arith)

  -- what was popped was stale, or the arcs from its node are left
  pub underway-pops : (left : List ℕ) (popped : List Entry) (first second : ℕ) (entry : Entry) (old new : State)
      → (label_of old.labels entry.node < entry.key) ⊎ ((number : ℕ) (arc : Arc) → IsArc roads number arc → arc.tail ≡ entry.node → Contains left number)
      → KeepsEntries roads answers sources sources [] popped old → PopsFound first second entry old new → KeepsEntries roads answers sources sources left (popped ++ entry ∷ []) new
  underway-pops left popped first second entry old new why u m = record {
    places = ap (λ (l : List ℕ). length l) m.labels ∙ u.places;
    at_sources = λ source among. subst (λ (l : List ℕ). label_of l source.node ≤ source.departure) (sym m.labels) (u.at_sources source among);
    reached = λ v there. subst (λ (l : List ℕ). label_of l v ≢ NONE → Reaches roads answers sources v (label_of l v)) (sym m.labels) (u.reached v there);
    entries = λ e there. subst (λ (l : List ℕ). IsNode roads.nodes e.node × (e.key ≤ HORIZON) × (label_of l e.node ≤ e.key)) (sym m.labels) (u.entries e (let sum = takes (only e) in omega arith));
    entered = λ v there. subst (λ (l : List ℕ). label_of l v ≢ NONE → 0 < weighs (only (entry_of v (label_of l v))) new.heaps + times (entry_of v (label_of l v)) (popped ++ entry ∷ [])) (sym m.labels)
        (λ labelled. (
        let e : Entry = entry_of v (label_of old.labels v) in
        let was = u.entered v there labelled in
        let sum = takes (only e) in
        let more = total-append (only e) popped (entry ∷ []) in
        omega arith));
    passed = λ number arc is_arc. subst (λ (l : List ℕ). label_of l arc.tail ≢ NONE → (0 < weighs (only (entry_of arc.tail (label_of l arc.tail))) new.heaps) ⊎ (Contains left number ⊎ ((arrival : ℕ) → answers arc.class arc.weight (label_of l arc.tail) arrival → arrival ≤ HORIZON → label_of l arc.head ≤ arrival))) (sym m.labels)
        (λ labelled. elim (u.passed number arc is_arc labelled) [
          | inl h ↦ still number arc is_arc h
          | inr rest ↦ elim rest [
            | inl none ↦ absurd (omega (arith, none.1))
            | inr h ↦ inr (inr h)
          ]
        ]);
  }
    where
      takes : (f : Entry → ℕ) → weighs f old.heaps ≡ f entry + weighs f new.heaps
      takes f = takes-weighs _ entry old.heaps new.heaps m.heaps.taken f

      still : (number : ℕ) (arc : Arc) → IsArc roads number arc → 0 < weighs (only (entry_of arc.tail (label_of old.labels arc.tail))) old.heaps
          → (0 < weighs (only (entry_of arc.tail (label_of old.labels arc.tail))) new.heaps) ⊎ (Contains left number ⊎ ((arrival : ℕ) → answers arc.class arc.weight (label_of old.labels arc.tail) arrival → arrival ≤ HORIZON → label_of old.labels arc.head ≤ arrival))
      still number arc is_arc h =
          let e : Entry = entry_of arc.tail (label_of old.labels arc.tail) in
          let sum = takes (only e) in
          elim (cases_lt 0 (only e entry)) [
            | inl one ↦ (
                let same : e ≡ entry = only-one e entry one in
                let n : arc.tail ≡ entry.node = ap (λ (x : Entry). x.node) same in
                let k : label_of old.labels arc.tail ≡ entry.key = ap (λ (x : Entry). x.key) same in
                elim why [
                  | inl stale ↦ absurd (omega (arith, ap (λ (v : ℕ). label_of old.labels v) n))
                  | inr all ↦ inr (inl (all number arc is_arc n))
                ])
            | inr none ↦ inl (omega arith)
          ]

  -- the next arc that was left is relaxed
  pub underway-passes : (number : ℕ) (rest : List ℕ) (popped : List Entry) (arc : Arc) (state : State) → IsArc roads number arc
      → ((arrival : ℕ) → answers arc.class arc.weight (label_of state.labels arc.tail) arrival → arrival ≤ HORIZON → label_of state.labels arc.head ≤ arrival)
      → KeepsEntries roads answers sources sources (number ∷ rest) popped state → KeepsEntries roads answers sources sources rest popped state
  underway-passes number rest popped arc state is_arc done u = record {
    places = u.places;
    at_sources = u.at_sources;
    reached = u.reached;
    entries = u.entries;
    entered = u.entered;
    passed = λ other that is_that labelled. elim (u.passed other that is_that labelled) [
      | inl h ↦ inl h
      | inr more ↦ elim more [
        | inl listed ↦ elim (contains_more number rest other listed) [
          | inl e ↦ (
              let same : arc ≡ that = one_arc roads other arc that (subst (λ (n : ℕ). IsArc roads n arc) e is_arc) is_that in
              inr (inr (subst (λ (a : Arc). (arrival : ℕ) → answers a.class a.weight (label_of state.labels a.tail) arrival → arrival ≤ HORIZON → label_of state.labels a.head ≤ arrival) same done)))
          | inr later ↦ inr (inl later)
        ]
        | inr h ↦ inr (inr h)
      ]
    ];
  }

  -- if no entry is left, the labels are fixed
  pub underway-fixed : (target : Option ℕ) (popped : List Entry) (state : State) → total (λ (es : List Entry). length es) state.heaps ≡ 0 → KeepsEntries roads answers sources sources [] popped state → IsFixed roads answers (record { sources = sources; target = target }) (label_of state.labels)
  underway-fixed target popped state none u = record {
    at_sources = u.at_sources;
    reached = u.reached;
    satisfied = λ v there labelled low number arc arrival is_arc tail answer within. (
        let same = ap (λ (n : ℕ). label_of state.labels n) tail in
        elim (u.passed number arc is_arc (λ z. labelled (sym same ∙ z))) [
          | inl h ↦ absurd (let z = none_weighs (only (entry_of arc.tail (label_of state.labels arc.tail))) state.heaps none in omega arith)
          | inr rest ↦ elim rest [
            | inl listed ↦ absurd (omega (arith, listed.1))
            | inr h ↦ h arrival (subst (λ (x : ℕ). answers arc.class arc.weight x arrival) (sym same) answer) within
          ]
        ]);
  }

  -- and the entry of each label was popped
  pub underway-popped : (popped : List Entry) (state : State) → total (λ (es : List Entry). length es) state.heaps ≡ 0 → KeepsEntries roads answers sources sources [] popped state → (node : ℕ) → IsNode roads.nodes node → label_of state.labels node ≢ NONE → 0 < times (entry_of node (label_of state.labels node)) popped
  underway-popped popped state none u node there labelled =
      let z = none_weighs (only (entry_of node (label_of state.labels node))) state.heaps none in
      let was = u.entered node there labelled in
      omega arith

  -- before the first source
  pub underway-none : (begun : List Source) (state : State) → state.labels ≡ replicate roads.nodes NONE → weighs (λ e. 1) state.heaps ≡ 0 → total (λ (es : List Entry). length es) state.heaps ≡ 0 → KeepsEntries roads answers sources [] [] [] state
  underway-none begun state labels none empty = record {
    places = ap (λ (l : List ℕ). length l) labels ∙ long roads.nodes;
    at_sources = λ source among. absurd (omega (arith, among.1.0));
    reached = λ v there labelled. absurd (labelled (all v there));
    entries = λ e there. absurd (let z = none_weighs (only e) state.heaps empty in omega arith);
    entered = λ v there labelled. absurd (labelled (all v there));
    passed = λ number arc is_arc labelled. absurd (labelled (all arc.tail (network.each_fits number arc is_arc).tail));
  }
    where
      long : (n : ℕ) → length (replicate {A = ℕ} n NONE) ≡ n
      long zero = refl
      long (suc n) = ap suc (long n)

      at : (n k : ℕ) → k < n → get_or (replicate {A = ℕ} n NONE) k 0 ≡ NONE
      at zero k near = absurd (omega arith)
      at (suc n) zero near = refl
      at (suc n) (suc k) near = at n k (omega arith)

      all : (v : ℕ) → IsNode roads.nodes v → label_of state.labels v ≡ NONE
      all v there = ap (λ (l : List ℕ). label_of l v) labels ∙ at roads.nodes (v - 1) (omega (arith, there.from_one, there.to_last))

  module _ (classes : ℕ) (fifo : IsFifo answers classes) (classed : top_class roads.arcs ≤ classes) where
    same_arrival : (number departure arrival other : ℕ) (arc : Arc) → departure ≤ HORIZON → IsArc roads number arc → answers arc.class arc.weight departure arrival → answers arc.class arc.weight departure other → arrival ≡ other
    same_arrival number departure arrival other arc within is_arc this that =
        one_answer answers classes fifo arc.class arc.weight departure arrival other (is_question roads classes number departure arc network classed is_arc within) this that

    -- an arc that lowers the label of its head is relaxed
    pub pass-lowers : (rest : List ℕ) (popped : List Entry) (number node departure arrival : ℕ) (arc : Arc) (old new : State) → IsNode roads.nodes node → departure ≤ HORIZON → label_of old.labels node ≡ departure → IsArc roads number arc → arc.tail ≡ node
        → answers arc.class arc.weight departure arrival → departure ≤ arrival → arrival ≤ HORIZON → arrival < label_of old.labels arc.head
        → KeepsEntries roads answers sources sources (number ∷ rest) popped old → LowersNode arc.head arrival old new → KeepsEntries roads answers sources sources rest popped new × (label_of new.labels node ≡ departure)
    pass-lowers rest popped number node departure arrival arc old new is_node within label is_arc tail answer later early low u m = (
      underway-passes number rest popped arc new is_arc
          (λ other that soon. (
          let at : label_of new.labels arc.tail ≡ departure = ap (λ (n : ℕ). label_of new.labels n) tail ∙ kept in
          let one = same_arrival number departure arrival other arc within is_arc answer (subst (λ (x : ℕ). answers arc.class arc.weight x other) at that) in
          let now = ap (λ (l : List ℕ). label_of l arc.head) m.labels ∙ label-same old.labels arc.head arc.head arrival head.from_one near refl in
          omega arith))
          (underway-lowers sources (number ∷ rest) popped arc.head arrival old new head early low
          (reaches_more roads answers sources node departure number arc.head arrival arc (subst (λ (x : ℕ). Reaches roads answers sources node x) label (u.reached node is_node (λ z. absurd (omega arith)))) is_arc tail refl answer early)
          u m),
      kept,
    )
      where
        head : IsNode roads.nodes arc.head
        head = (network.each_fits number arc is_arc).head

        near : arc.head ≤ length old.labels
        near = omega (arith, u.places, head.to_last)

        kept : label_of new.labels node ≡ departure
        kept = ap (λ (l : List ℕ). label_of l node) m.labels ∙ label-other old.labels arc.head node arrival head.from_one is_node.from_one (λ e. absurd (omega (arith, ap (λ (n : ℕ). label_of old.labels n) e))) ∙ label

    -- and so is one that arrives no earlier than the label, or too late
    pub pass-keeps : (rest : List ℕ) (popped : List Entry) (number node departure arrival : ℕ) (arc : Arc) (state : State) → departure ≤ HORIZON → label_of state.labels node ≡ departure → IsArc roads number arc → arc.tail ≡ node
        → answers arc.class arc.weight departure arrival → (HORIZON < arrival) ⊎ (label_of state.labels arc.head ≤ arrival)
        → KeepsEntries roads answers sources sources (number ∷ rest) popped state → KeepsEntries roads answers sources sources rest popped state
    pass-keeps rest popped number node departure arrival arc state within label is_arc tail answer why u =
        underway-passes number rest popped arc state is_arc
        (λ other that soon. (
        let at : label_of state.labels arc.tail ≡ departure = ap (λ (n : ℕ). label_of state.labels n) tail ∙ label in
        let one = same_arrival number departure arrival other arc within is_arc answer (subst (λ (x : ℕ). answers arc.class arc.weight x other) at that) in
        elim why [ inl late ↦ absurd (omega arith) | inr low ↦ omega arith ]))
        u

  -- one more source has been offered
  pub underway-begins : (begun : List Source) (source : Source) (popped : List Entry) (state : State) → label_of state.labels source.node ≤ source.departure → KeepsEntries roads answers sources begun [] popped state → KeepsEntries roads answers sources (begun ++ source ∷ []) [] popped state
  underway-begins begun source popped state low u = record {
    places = u.places;
    at_sources = λ other among. elim (among_more begun source other among) [
      | inl h ↦ u.at_sources other h
      | inr e ↦ subst (λ (s : Source). label_of state.labels s.node ≤ s.departure) (sym e) low
    ];
    reached = u.reached;
    entries = u.entries;
    entered = u.entered;
    passed = u.passed;
  }

  -- what is known of an entry that was popped
  pub popped_known : (popped : List Entry) (first second : ℕ) (entry : Entry) (old new : State) → KeepsEntries roads answers sources sources [] popped old → PopsFound first second entry old new → IsNode roads.nodes entry.node × (entry.key ≤ HORIZON) × (label_of new.labels entry.node ≤ entry.key)
  popped_known popped first second entry old new u m =
      subst (λ (l : List ℕ). IsNode roads.nodes entry.node × (entry.key ≤ HORIZON) × (label_of l entry.node ≤ entry.key)) (sym m.labels)
      (u.entries entry (let sum = takes-weighs _ entry old.heaps new.heaps m.heaps.taken (only entry) in let one = only-same entry in omega arith))
