-- A table that is under way by bounds is under way by labels, and the reverse.
use Rattle.std.proofs.Common.{◌≡◌, ◌≢◌, ℕ, ◌<◌, ◌≤◌, List, Option, Some, None, [], length, Contains, refl, sym, ◌∙◌, subst, ◌⊎◌, inl, inr, arith}
use Rattle.ea_road.specs.declared.arc.Arc.{Arc}
use Rattle.ea_road.specs.declared.TheConstants.{NONE}
use Rattle.std.proofs.lemmas.List.{get_or_default}
use Rattle.ea_road.specs.Roads.{Roads, IsArc, IsNode, IsNetwork, leaving}
use Rattle.ea_road.specs.Queries.{Asking, IsProblem}
use Rattle.ea_road.specs.Arrivals.{Reaches}
use Rattle.ea_road.specs.Labels.{IsFixed, Satisfies, label_of, limit}
use Rattle.ea_search.specs.Underway.{IsUnderway, bound_of}
use Rattle.ea_search.specs.Scans.{AwaitsScansFrom, IsPlaced, MeetsAll}
use Rattle.ea_road.proofs.ByTail.{leaving_has}
use Rattle.ea_search.proofs.Entries.{bound_of_label, bound_of-node}

module _
    (roads : Roads)
    (answers : ℕ → ℕ → ℕ → ℕ → Type 0)
    (classes : ℕ)
    (query : Asking)
    (network : IsNetwork roads)
    (problem : IsProblem roads classes query)
    (table : List ℕ)
    (places : length table ≡ roads.nodes)
  where
    same_label : (node : ℕ) → IsNode roads.nodes node → bound_of table node ≡ label_of table node
    same_label node is_node = bound_of_label table node (record { from_one = is_node.from_one; to_last = omega (arith, is_node.to_last) })

    limit_by : (target : Option ℕ) → ((node : ℕ) → target ≡ Some node → IsNode roads.nodes node) → limit target (bound_of table) ≡ limit target (label_of table)
    limit_by None are = refl
    limit_by (Some node) are = same_label node (are node refl)

    pub same_limit : limit query.target (bound_of table) ≡ limit query.target (label_of table)
    same_limit = limit_by query.target problem.target

    head_node : (number : ℕ) (arc : Arc) → IsArc roads number arc → IsNode roads.nodes arc.head
    head_node number arc is_arc = (network.each_fits number arc is_arc).head

    module _ (met : ℕ → ℕ → ℕ → Type 0) where
      satisfies_of : (node time : ℕ) → MeetsAll roads answers table met node time → Satisfies roads answers (label_of table) node time
      satisfies_of node time satisfied = λ number arc arrival is_arc tail answer within.
          let low = (satisfied number arc.head arrival (record { arc = arc; is_arc = is_arc; is_tail = tail; is_head = refl; answer = answer; in_time = within })).0 in
          let same = same_label arc.head (head_node number arc is_arc) in
          omega arith

      -- an arc is at a place among those that leave its tail
      placed_of : (node number : ℕ) (arc : Arc) → IsArc roads number arc → arc.tail ≡ node → (place : ℕ) × IsPlaced roads node place number
      placed_of node number arc is_arc tail =
          let among = leaving_has roads node number arc is_arc tail in
          (among.0, (among.1, get_or_default (leaving roads node) among.0 0 number among.1 ∙ among.2))

      satisfied_of : ((v u k : ℕ) → met v u k) → (node time : ℕ) → Satisfies roads answers (label_of table) node time → MeetsAll roads answers table met node time
      satisfied_of all node time satisfies = λ number head arrival step.
          let low = satisfies number step.arc arrival step.is_arc step.is_tail step.answer step.in_time in
          let same = same_label step.arc.head (head_node number step.arc step.is_arc) in
          let P : ℕ → Type 0 = λ x. bound_of table x ≤ arrival in
          let here : bound_of table step.arc.head ≤ arrival = omega arith in
          let placed = placed_of node number step.arc step.is_arc step.is_tail in
          (subst P step.is_head here, λ meets. (placed.0, placed.1, all head node placed.0))

      pub underway_of : ((v u k : ℕ) → met v u k) → (waiting : List ℕ) → IsUnderway roads answers query table waiting → AwaitsScansFrom roads answers query.sources query.target table met (Contains waiting)
      underway_of all waiting under = record {
        places = places;
        reached = reached;
        started = λ source among.
            let same = same_label source.node (problem.sources source among) in
            let low = under.labels.at_sources source among in
            omega arith;
        settled = settled;
      }
        where
          node_of : (v : ℕ) → bound_of table v ≢ NONE → IsNode roads.nodes v
          node_of v there = let node = bound_of-node table v there in record { from_one = node.0; to_last = omega (arith, node.1) }

          reached : (v : ℕ) → bound_of table v ≢ NONE → Reaches roads answers query.sources v (bound_of table v)
          reached v there =
              let node = node_of v there in
              let same = same_label v node in
              let P : ℕ → Type 0 = λ x. Reaches roads answers query.sources v x in
              subst P (sym same) (under.labels.reached v node (λ e. omega (arith, e)))

          settled : (v : ℕ) → bound_of table v ≢ NONE → MeetsAll roads answers table met v (bound_of table v) ⊎ (Contains waiting v ⊎ (limit query.target (bound_of table) < bound_of table v))
          settled v there =
              let node = node_of v there in
              let same = same_label v node in
              let P : ℕ → Type 0 = λ x. MeetsAll roads answers table met v x in
              elim (under.labels.settled v node (λ e. omega (arith, e))) [
                | inl old ↦ inl (subst P (sym same) (satisfied_of all v (label_of table v) old))
                | inr (inl waits) ↦ inr (inl waits)
                | inr (inr above) ↦ inr (inr (omega (arith, same_limit)))
              ]

      labelled : (waiting : List ℕ) → AwaitsScansFrom roads answers query.sources query.target table met (Contains waiting) → (v : ℕ) → IsNode roads.nodes v → label_of table v ≢ NONE → bound_of table v ≢ NONE → Reaches roads answers query.sources v (label_of table v)
      labelled waiting under v node some there =
          let P : ℕ → Type 0 = λ x. Reaches roads answers query.sources v x in
          subst P (same_label v node) (under.reached v there)

      pub public_of : (waiting : List ℕ) → AwaitsScansFrom roads answers query.sources query.target table met (Contains waiting) → IsUnderway roads answers query table waiting
      public_of waiting under = record {
        places = places;
        labels = record {
          at_sources = λ source among.
              let same = same_label source.node (problem.sources source among) in
              let low = under.started source among in
              omega arith;
          reached = λ v node some. labelled waiting under v node some (there v node some);
          settled = λ v node some.
              let same = same_label v node in
              let P : ℕ → Type 0 = λ x. Satisfies roads answers (label_of table) v x in
              elim (under.settled v (there v node some)) [
                | inl old ↦ inl (subst P same (satisfies_of v (bound_of table v) old))
                | inr (inl waits) ↦ inr (inl waits)
                | inr (inr above) ↦ inr (inr (omega (arith, same_limit)))
              ];
        };
      }
        where
          there : (v : ℕ) → IsNode roads.nodes v → label_of table v ≢ NONE → bound_of table v ≢ NONE
          there v node some = λ e. some (sym (same_label v node) ∙ e)

      pub fixed_of : AwaitsScansFrom roads answers query.sources query.target table met (Contains []) → IsFixed roads answers query (label_of table)
      fixed_of under =
          let open_to = public_of [] under in
          record {
            at_sources = open_to.labels.at_sources;
            reached = open_to.labels.reached;
            satisfied = λ v node some low. elim (open_to.labels.settled v node some) [
              | inl satisfied ↦ satisfied
              | inr (inl waits) ↦ absurd (omega (arith, waits.1))
              | inr (inr above) ↦ absurd (omega arith)
            ];
          }
