-- A report of one problem without a fault is right, and a right one has no fault.
use Rattle.std.proofs.Common.{◌≡◌, ◌∙◌, refl, ℕ, zero, suc, ◌-◌, ◌<◌, ◌≤◌, List, [], ◌∷◌, length, get_or, inl, inr, arith, ap, subst, sym, Bool, true, false, eq-eqb, eqb-true}
use Rattle.std.proofs.lemmas.Bool.Decides.{eqb_tells, leb_tells}
use Rattle.std.specs.Prelude.{◌≢◌, ◌==◌, Some, None, slice_get}
use Rattle.std.specs.List.{IsAmong}
use Rattle.ea_base.specs.declared.limits.TheConstants.{HORIZON}
use Rattle.ea_road.specs.declared.TheConstants.{NONE}
use Rattle.ea_road.specs.declared.source.Source.{Source}
use Rattle.ea_travel_times.specs.Answers.{IsFifo}
use Rattle.ea_road.specs.Roads.{Roads, IsNode, IsNetwork}
use Rattle.ea_road.specs.Queries.{Asking, IsProblem}
use Rattle.ea_road.specs.Arrivals.{Reaches, IsLeast, IsLeastAt}
use Rattle.ea_road.specs.Labels.{IsFixed, IsLabel, time_of}
use Rattle.ea_road.specs.Levels.{HasChain, begins, follows}
use Rattle.ea_road.proofs.Agree.{canonical_there}
use Rattle.ea_road.proofs.Chains.{tight_answer, head_within}
use Rattle.ea_road.proofs.Fixed.{asked_labels_are_least, label_is_least, least_is_label}
use Rattle.ea_road.proofs.Reached.{reaches_more, reaches_source}
use Rattle.ea_road.proofs.Rooted.{chain_to}
use Rattle.ea_road.proofs.Walked.{labels_are_times, least_are_times, least_attains, canonical_over_least}
use Rattle.ea_check.specs.Verdicts.{Said, IsSaid, times_of, reported_time, Improves, by_source, by_arc, AreUnimproved, IsFaultless, IsRight, IsWellFormed, IsTask}

said_at : (reported : List Said) (place : ℕ) → place < length reported → (said : Said) × (slice_get reported place ≡ Some said)
said_at [] place inside = absurd (omega arith)
said_at (said ∷ rest) zero inside = (said, refl)
said_at (said ∷ rest) (suc place) inside = said_at rest place (omega arith)

pub said_of : (reported : List Said) (node : ℕ) → IsNode (length reported) node → (said : Said) × IsSaid reported node said
said_of reported node is_node =
    let some = is_node.from_one in
    let few = is_node.to_last in
    let found = said_at reported (node - 1) (omega arith) in
    (found.0, (some, found.1))

time_at : (reported : List Said) (place : ℕ) (said : Said) → slice_get reported place ≡ Some said → get_or (times_of reported) place 0 ≡ said.time
time_at [] place said found = cc
time_at (first ∷ rest) zero said found = let e : first ≡ said = cc in ap (λ (s : Said). s.time) e
time_at (first ∷ rest) (suc place) said found = time_at rest place said found

pub time_of_said : (reported : List Said) (node : ℕ) (said : Said) → IsSaid reported node said → reported_time reported node ≡ said.time
time_of_said reported node said is_said = time_at reported (node - 1) said is_said.1

time_of_none : (label : ℕ) → label ≡ NONE → time_of label ≡ None
time_of_none label same = rw (eq-eqb label NONE same) refl

pub time_of_some : (label : ℕ) → label ≢ NONE → time_of label ≡ Some label
time_of_some label differs = by_test (label == NONE) refl
  where
    by_test : (none : Bool) → (label == NONE) ≡ none → time_of label ≡ Some label
    by_test true same = absurd (differs (eqb-true label NONE same))
    by_test false same = rw same refl

pub node_of_said : (nodes : ℕ) (reported : List Said) (node : ℕ) (said : Said) → length reported ≡ nodes → IsSaid reported node said → IsNode nodes node
node_of_said nodes reported node said each_node is_said =
    let inside = found_inside reported (node - 1) said is_said.1 in
    let some = is_said.0 in
    record { from_one = some; to_last = omega arith }
  where
    found_inside : (reported : List Said) (place : ℕ) (said : Said) → slice_get reported place ≡ Some said → place < length reported
    found_inside [] place said found = cc
    found_inside (first ∷ rest) zero said found = omega arith
    found_inside (first ∷ rest) (suc place) said found = omega (arith, found_inside rest place said found)

-- a query of all nodes from the sources
abbrev pub all_from : List Source → Asking
all_from sources = record { sources = sources; target = None }

pub task_of : (roads : Roads) (classes : ℕ) (query : Asking) → IsNetwork roads → IsProblem roads classes query → IsTask roads classes query.sources
task_of roads classes query network problem = record {
  network = network;
  classed = problem.classed;
  starts = λ source among. (problem.sources source among, problem.departures source among);
}

pub problem_of : (roads : Roads) (classes : ℕ) (sources : List Source) → IsTask roads classes sources → IsProblem roads classes (all_from sources)
problem_of roads classes sources task = record {
  classed = task.classed;
  sources = λ source among. (task.starts source among).0;
  departures = λ source among. (task.starts source among).1;
  target = λ node none. cc;
}

module _
    (roads : Roads)
    (answers : ℕ → ℕ → ℕ → ℕ → Type 0)
    (classes : ℕ)
    (sources : List Source)
    (task : IsTask roads classes sources)
    (fifo : IsFifo answers classes)
  where
    -- a chain of tight arcs is a walk that attains the label
    chain_reaches : (label : ℕ → ℕ) {node count : ℕ} → HasChain roads answers sources (IsLabel label) node count → Reaches roads answers sources node (label node)
    chain_reaches label (begins {source} among at) =
        subst (λ t. Reaches roads answers sources source.node t) (sym at.0) (reaches_source roads answers sources source among (task.starts source among).1)
    chain_reaches label (follows {tail} {head} {number} chain tight) =
        reaches_more roads answers sources tail (label tail) number head (label head) tight.arc (chain_reaches label chain) tight.is_arc tight.is_tail tight.is_head
        (tight_answer roads answers classes sources label task.network task.classed fifo tight)
        (head_within roads answers classes sources label task.network task.classed fifo tight)

    unimproved_le : (reported : List Said) → AreUnimproved roads answers sources reported → (node bound : ℕ) → IsNode roads.nodes node → (bound < reported_time reported node → Improves roads answers sources (reported_time reported) node) → reported_time reported node ≤ bound
    unimproved_le reported unimproved node bound is_node improves =
        elim (leb_tells (reported_time reported node) bound) [
          | inl low ↦ low.1
          | inr high ↦ absurd (unimproved node is_node (improves (omega (arith, high.1))))
        ]

    fixed_from_faultless : (reported : List Said) → IsWellFormed roads.nodes reported → IsFaultless roads answers sources reported → IsFixed roads answers (all_from sources) (reported_time reported)
    fixed_from_faultless reported formed faultless = record {
      at_sources = λ source among.
          unimproved_le reported faultless.unimproved source.node source.departure (task.starts source among).0 (λ late. by_source among late);
      reached = λ node is_node has_label.
          let said = said_of reported node (subst (λ n. IsNode n node) (sym formed.each_node) is_node) in
          let same = time_of_said reported node said.0 said.1 in
          chain_reaches (reported_time reported) ((faultless.attained node).level said.0 said.1 (λ none. has_label (same ∙ none))).1;
      satisfied = λ node is_node has_label low number arc arrival is_arc tail answer horizon.
          let said = said_of reported node (subst (λ n. IsNode n node) (sym formed.each_node) is_node) in
          let same = time_of_said reported node said.0 said.1 in
          let within : said.0.time ≤ HORIZON = formed.times node said.0 said.1 (λ none. has_label (same ∙ none)) in
          let label_within : reported_time reported node ≤ HORIZON = subst (λ t. t ≤ HORIZON) (sym same) within in
          unimproved_le reported faultless.unimproved arc.head arrival (task.network.each_fits number arc is_arc).head (λ late.
          by_arc is_arc
          (subst (λ n. reported_time reported n ≤ HORIZON) (sym tail) label_within)
          (subst (λ n. answers arc.class arc.weight (reported_time reported n) arrival) (sym tail) answer)
          horizon late);
    }

    -- a label is below NONE if it is a time within the horizon
    low_label : (time : ℕ) → time ≤ HORIZON → time ≤ NONE
    low_label time within = omega arith

    pub faultless_right : (reported : List Said) → IsWellFormed roads.nodes reported → IsFaultless roads answers sources reported → IsRight roads answers sources reported
    faultless_right reported formed faultless =
        let label = reported_time reported in
        let fixed = fixed_from_faultless reported formed faultless in
        record {
          least = λ node said is_said.
              let is_node = node_of_said roads.nodes reported node said formed.each_node is_said in
              subst (λ t. IsLeast roads answers sources node (time_of t)) (time_of_said reported node said is_said)
              (asked_labels_are_least roads answers classes (all_from sources) label task.network task.classed fifo fixed node is_node tt);
          walks = λ node said walk is_said written.
              let is_node = node_of_said roads.nodes reported node said formed.each_node is_said in
              let same = time_of_said reported node said is_said in
              let has = (formed.walks node said walk is_said written).0 in
              let within = subst (λ t. t ≤ HORIZON) (sym same) (formed.times node said is_said has) in
              canonical_over_least roads answers classes (all_from sources) label task.network (problem_of roads classes sources task) fifo fixed node (label node) walk.arcs is_node (refl, within) (low_label (label node) within) (faultless.canonical node said walk is_said written);
        }

    abbrev AreLeast : (ℕ → ℕ) → Type 0
    AreLeast label = (node : ℕ) → IsNode roads.nodes node → IsLeast roads answers sources node (time_of (label node))

    least_at : (label : ℕ → ℕ) → AreLeast label → (node : ℕ) → IsNode roads.nodes node → label node ≢ NONE → IsLeastAt roads answers sources node (label node)
    least_at label least node is_node has_label = subst (λ t. IsLeast roads answers sources node t) (time_of_some (label node) has_label) (least node is_node)

    least_le : (label : ℕ → ℕ) → AreLeast label → (node time : ℕ) → IsNode roads.nodes node → Reaches roads answers sources node time → label node ≤ time
    least_le label least node time is_node reaches =
        elim (eqb_tells (label node) NONE) [
          | inl none ↦
              let here = subst (λ t. IsLeast roads answers sources node t) (time_of_none (label node) none.1) (least node is_node) in
              absurd (here time reaches)
          | inr some ↦ (least_at label least node is_node some.1).1 time reaches
        ]

    fixed_from_least : (label : ℕ → ℕ) → AreLeast label → IsFixed roads answers (all_from sources) label
    fixed_from_least label least = record {
      at_sources = λ source among.
          least_le label least source.node source.departure (task.starts source among).0 (reaches_source roads answers sources source among (task.starts source among).1);
      reached = λ node is_node has_label. (least_at label least node is_node has_label).0;
      satisfied = λ node is_node has_label low number arc arrival is_arc tail answer horizon.
          least_le label least arc.head arrival (task.network.each_fits number arc is_arc).head (reaches_more roads answers sources node (label node) number arc.head arrival arc (least_at label least node is_node has_label).0 is_arc tail refl answer horizon);
    }

    improves_late : (label : ℕ → ℕ) → AreLeast label → (node : ℕ) → Improves roads answers sources label node → ⊥
    improves_late label least node (by_source {source} among late) =
        let bound = least_le label least source.node source.departure (task.starts source among).0 (reaches_source roads answers sources source among (task.starts source among).1) in
        omega arith
    improves_late label least node (by_arc {number} {arrival} {arc} is_arc within answer horizon late) =
        let tail = (task.network.each_fits number arc is_arc).tail in
        let has_label : label arc.tail ≢ NONE = λ none. omega arith in
        let bound = least_le label least arc.head arrival (task.network.each_fits number arc is_arc).head (reaches_more roads answers sources arc.tail (label arc.tail) number arc.head arrival arc (least_at label least arc.tail tail has_label).0 is_arc refl refl answer horizon) in
        omega arith

    pub right_faultless : (reported : List Said) → IsWellFormed roads.nodes reported → IsRight roads answers sources reported → IsFaultless roads answers sources reported
    right_faultless reported formed right =
        let label = reported_time reported in
        let query = all_from sources in
        let least : AreLeast label = λ node is_node.
        let said = said_of reported node (subst (λ n. IsNode n node) (sym formed.each_node) is_node) in
        subst (λ t. IsLeast roads answers sources node (time_of t)) (sym (time_of_said reported node said.0 said.1)) (right.least node said.0 said.1) in
        let fixed = fixed_from_least label least in
        let starts : (source : Source) → IsAmong sources source → IsNode roads.nodes source.node = λ source among. (task.starts source among).0 in
        record {
          attained = λ node. record {
            level = λ said is_said has_time.
                let same = time_of_said reported node said is_said in
                let within = subst (λ t. t ≤ HORIZON) (sym same) (formed.times node said is_said has_time) in
                chain_to roads answers classes query label task.network task.classed fifo fixed starts node (node_of_said roads.nodes reported node said formed.each_node is_said) (λ none. has_time (sym same ∙ none)) (low_label (label node) within);
            walk = λ said walk is_said written.
                let has = (formed.walks node said walk is_said written).0 in
                let here : IsLeastAt roads answers sources node said.time = subst (λ t. IsLeast roads answers sources node t) (time_of_some said.time has) (right.least node said is_said) in
                least_attains roads answers classes query node said.time walk.arcs here (right.walks node said walk is_said written);
          };
          canonical = λ node said walk is_said written.
              let has = (formed.walks node said walk is_said written).0 in
              let is_node = node_of_said roads.nodes reported node said formed.each_node is_said in
              let here : IsLeastAt roads answers sources node said.time = subst (λ t. IsLeast roads answers sources node t) (time_of_some said.time has) (right.least node said is_said) in
              let within = formed.times node said is_said has in
              canonical_there roads answers classes sources task.network task.classed fifo starts (IsLeastAt roads answers sources) (IsLabel label) NONE
              (least_are_times roads answers classes query) (labels_are_times label)
              (λ place time at_node low at. least_is_label roads answers classes query label task.network task.classed fifo fixed place time at_node low at)
              (λ place time at_node low at. label_is_least roads answers classes query label task.network task.classed fifo fixed place time at_node low at)
              said.time is_node here (low_label said.time within) (right.walks node said walk is_said written);
          unimproved = λ node is_node improves. improves_late label least node improves;
        }
