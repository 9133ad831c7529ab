-- If no node waits, the links give the levels of nodes and their canonical walks, over the labels of the
-- table.
use Rattle.std.proofs.Common.{◌≡◌, ◌≢◌, ℕ, zero, suc, ◌+◌, ◌-◌, ◌<◌, ◌≤◌, List, [], length, refl, sym, ◌∙◌, ap, subst, ◌⊎◌, inl, inr, arith}
use Rattle.std.specs.List.{IsAmong}
use Rattle.std.proofs.lemmas.Bool.{cases_lt}
use Rattle.ea_base.specs.declared.limits.TheConstants.{HORIZON}
use Rattle.ea_road.specs.declared.source.Source.{Source}
use Rattle.ea_travel_times.specs.Answers.{IsFifo}
use Rattle.ea_road.specs.Roads.{Roads, IsNode, IsNetwork, top_class}
use Rattle.ea_road.specs.Labels.{IsLabel, label_of}
use Rattle.ea_road.specs.Levels.{IsTight, HasChain, begins, follows, IsLevel, IsCanonical, at_source, by_arc}
use Rattle.ea_road.proofs.Chains.{make_tight, tight_answer, tail_within, head_within}
use Rattle.ea_search.specs.declared.link.Link.{Link}
use Rattle.ea_search.specs.declared.link.TheConstants.{NO_LEVEL}
use Rattle.ea_search.specs.Underway.{bound_of}
use Rattle.ea_search.specs.Links.{AreLinks, IsLinked, link, linked_walk, walk_along}
use Rattle.ea_paths.specs.Offers.{MeetsBound, IsSeed, Precedes, IsSpent, Linking, AreSown}
use Rattle.ea_search.proofs.Entries.{bound_of_label}

-- Each link begins a walk or follows a tight arc from a lower level, none is better, and one more level fits.
pub record Settled
    (roads : Roads)
    (answers : ℕ → ℕ → ℕ → ℕ → Type 0)
    (sources : List Source)
    (table : List ℕ)
    (links : List Link)
    : Type 0 where
  pub places : length links ≡ roads.nodes
  pub linked : (v : ℕ) → (link links v).level < NO_LEVEL → (((link links v).level ≡ 0) × IsSeed sources table v) ⊎ (MeetsBound roads answers table (link links v).from (link links v).arc v × ((link links (link links v).from).level < (link links v).level))
  pub spent : (u : ℕ) → (link links u).level < NO_LEVEL → IsSpent roads answers table links u ((link links u).level + 1)
  pub room : (v : ℕ) → (link links v).level < NO_LEVEL → (link links v).level + 1 < NO_LEVEL
  pub low : (v : ℕ) → (link links v).level ≤ NO_LEVEL

-- links are settled if no node waits
pub Settled-linking : (roads : Roads) (answers : ℕ → ℕ → ℕ → ℕ → Type 0) (sources : List Source) (table : List ℕ) (links : List Link) → roads.nodes < NO_LEVEL → Linking roads answers sources table links [] → Settled roads answers sources table links
Settled-linking roads answers sources table links few linking = record {
  places = linking.places;
  linked = linking.linked;
  spent = λ u there. elim (linking.spent u there) [ inl done ↦ done | inr waits ↦ absurd (omega (arith, waits.1)) ];
  room = λ v there. (let bound = linking.bounded v there in omega arith);
  low = linking.low;
}

-- what a link does not precede is no higher
not_above : (a b : Link) → (Precedes a b → ⊥) → b.level ≤ a.level
not_above a b never = elim (cases_lt a.level b.level) [
  | inl less ↦ absurd (never (inl less))
  | inr h ↦ h
]

module _
    (roads : Roads)
    (answers : ℕ → ℕ → ℕ → ℕ → Type 0)
    (classes : ℕ)
    (sources : List Source)
    (network : IsNetwork roads)
    (classed : top_class roads.arcs ≤ classes)
    (fifo : IsFifo answers classes)
    (starts : (source : Source) → IsAmong sources source → IsNode roads.nodes source.node × (source.departure ≤ HORIZON))
    (table : List ℕ)
    (places : length table ≡ roads.nodes)
  where
    abbrev label : ℕ → ℕ
    label = label_of table

    same_label : (node : ℕ) → IsNode roads.nodes node → bound_of table node ≡ label_of table node
    same_label node is_node = bound_of_label table node (record { from_one = is_node.from_one; to_last = omega (arith, is_node.to_last) })

    tail_node : (times : ℕ → ℕ → Type 0) (number tail head : ℕ) → IsTight roads answers times number tail head → IsNode roads.nodes tail
    tail_node times number tail head tight = subst (λ n. IsNode roads.nodes n) tight.is_tail (network.each_fits number tight.arc tight.is_arc).tail

    head_node : (times : ℕ → ℕ → Type 0) (number tail head : ℕ) → IsTight roads answers times number tail head → IsNode roads.nodes head
    head_node times number tail head tight = subst (λ n. IsNode roads.nodes n) tight.is_head (network.each_fits number tight.arc tight.is_arc).head

    -- tight arcs by entries are those by labels
    tight_of : (number tail head : ℕ) → MeetsBound roads answers table tail number head → IsTight roads answers (IsLabel label) number tail head
    tight_of number tail head tight =
        let step = tight.step in
        let from : IsNode roads.nodes tail = subst (λ n. IsNode roads.nodes n) step.is_tail (network.each_fits number step.arc step.is_arc).tail in
        let to : IsNode roads.nodes head = subst (λ n. IsNode roads.nodes n) step.is_head (network.each_fits number step.arc step.is_arc).head in
        let at_tail = same_label tail from in
        let at_head = same_label head to in
        let left : answers step.arc.class step.arc.weight (label tail) (bound_of table head) = subst (λ t. answers step.arc.class step.arc.weight t (bound_of table head)) at_tail step.answer in
        let low = tight.from_within in
        let high = step.in_time in
        make_tight roads answers classes sources label network classed fifo number tail head step.arc step.is_arc step.is_tail step.is_head (omega arith) (omega arith) (subst (λ t. answers step.arc.class step.arc.weight (label tail) t) at_head left)

    of_tight : (number tail head : ℕ) → IsTight roads answers (IsLabel label) number tail head → MeetsBound roads answers table tail number head
    of_tight number tail head tight =
        let at_tail = same_label tail (tail_node (IsLabel label) number tail head tight) in
        let at_head = same_label head (head_node (IsLabel label) number tail head tight) in
        let answer = tight_answer roads answers classes sources label network classed fifo tight in
        let left : answers tight.arc.class tight.arc.weight (bound_of table tail) (label head) = subst (λ t. answers tight.arc.class tight.arc.weight t (label head)) (sym at_tail) answer in
        let low = tail_within roads answers classes sources label network classed fifo tight in
        let high = head_within roads answers classes sources label network classed fifo tight in
        record {
          step = record {
            arc = tight.arc;
            is_arc = tight.is_arc;
            is_tail = tight.is_tail;
            is_head = tight.is_head;
            answer = subst (λ t. answers tight.arc.class tight.arc.weight (bound_of table tail) t) (sym at_head) left;
            in_time = omega arith;
          };
          from_within = omega arith;
        }

    module _ (links : List Link) (settled : Settled roads answers sources table links) (sown : AreSown sources table links (length sources)) where
      abbrev Chain : ℕ → ℕ → Type 0
      Chain node count = HasChain roads answers sources (IsLabel label) node count

      abbrev Level : ℕ → ℕ → Type 0
      Level node level = IsLevel roads answers sources (IsLabel label) node level

      seed_level : (source : Source) → IsAmong sources source → source.departure ≡ bound_of table source.node → (link links source.node).level ≡ 0
      seed_level source among =
          let P : Source → Type 0 = λ x. x.departure ≡ bound_of table x.node → (link links x.node).level ≡ 0 in
          subst P (sym among.1.1) (sown among.0 source among.1.0)

      -- a tight arc leads at most one level up
      next_level : (tail number head : ℕ) → (link links tail).level < NO_LEVEL → MeetsBound roads answers table tail number head → (link links head).level ≤ (link links tail).level + 1
      next_level tail number head there tight = not_above (record { level = (link links tail).level + 1; arc = number; from = tail }) (link links head) (settled.spent tail there number head tight)

      -- a node at the end of a chain has a level that is no higher
      record Linked (node count : ℕ) : Type 0 where
        there : (link links node).level < NO_LEVEL
        low : (link links node).level ≤ count

      chain_linked : {node count : ℕ} → Chain node count → Linked node count
      chain_linked (begins {source} among at) =
          let same = same_label source.node (starts source among).0 in
          let zero_level = seed_level source among (sym (same ∙ at.0)) in
          record { there = omega arith; low = omega arith }
      chain_linked (follows {tail} {head} {number} {count} chain tight) =
          let before = chain_linked chain in
          let next = next_level tail number head before.there (of_tight number tail head tight) in
          let room = settled.room tail before.there in
          let low = before.low in
          record { there = omega arith; low = omega arith }

      -- the link of a node above the sources
      record Above (level node : ℕ) : Type 0 where
        tight : MeetsBound roads answers table (link links node).from (link links node).arc node
        below : (link links (link links node).from).level ≡ level

      above : (level node : ℕ) → (link links node).level ≡ suc level → suc level < NO_LEVEL → Above level node
      above level node at small = elim (settled.linked node (omega arith)) [
        | inl seed ↦ absurd (omega (arith, seed.0))
        | inr tight ↦ (
            let lower : (link links (link links node).from).level < (link links node).level = tight.1 in
            let next = next_level (link links node).from (link links node).arc node (omega arith) tight.0 in
            record { tight = tight.0; below = omega arith })
      ]

      seed_chain : (node : ℕ) → IsSeed sources table node → Chain node 0
      seed_chain node seed =
          let same = same_label seed.source.node (starts seed.source seed.among).0 in
          let P : ℕ → Type 0 = λ x. bound_of table seed.source.node ≡ bound_of table x in
          let moved : bound_of table seed.source.node ≡ bound_of table node = ap (bound_of table) seed.is_node in
          let at : label seed.source.node ≡ seed.source.departure = sym same ∙ moved ∙ sym seed.departs in
          subst (λ n. Chain n 0) seed.is_node (begins seed.among (at, seed.within))

      level_chain : (level node : ℕ) → (link links node).level ≡ level → level < NO_LEVEL → Chain node level
      level_chain zero node at small = elim (settled.linked node (omega arith)) [
        | inl seed ↦ seed_chain node seed.1
        | inr tight ↦ absurd (omega (arith, tight.1))
      ]
      level_chain (suc level) node at small =
          let up = above level node at small in
          follows (level_chain level (link links node).from up.below (omega arith)) (tight_of (link links node).arc (link links node).from node up.tight)

      is_level : (level node : ℕ) → (link links node).level ≡ level → level < NO_LEVEL → Level node level
      is_level level node at small = record {
        chain = level_chain level node at small;
        fewest = λ count chain. (let found = chain_linked chain in let low = found.low in omega arith);
      }

      -- a node of a level has a link of that level
      link_level : (level node : ℕ) → Level node level → (link links node).level ≡ level
      link_level level node is =
          let found = chain_linked is.chain in
          let there = found.there in
          let low = found.low in
          let high = is.fewest (link links node).level (level_chain (link links node).level node refl there) in
          omega arith

      lowest : (level node : ℕ) → (link links node).level ≡ suc level → suc level < NO_LEVEL → (other from : ℕ) → IsTight roads answers (IsLabel label) other from node → Level from level → (link links node).arc ≤ other
      lowest level node at small other from tight is =
          let same = link_level level from is in
          elim (cases_lt other (link links node).arc) [
            | inl less ↦ absurd (settled.spent from (omega arith) other node (of_tight other from node tight) (inr (omega arith, less)))
            | inr high ↦ high
          ]

      canonical : (level node : ℕ) → (link links node).level ≡ level → level < NO_LEVEL → IsCanonical roads answers sources (IsLabel label) node (walk_along links level node)
      unfolding walk_along
      canonical zero node at small = at_source (is_level 0 node at small)
      canonical (suc level) node at small =
          let up = above level node at small in
          by_arc
          (canonical level (link links node).from up.below (omega arith))
          (is_level level (link links node).from up.below (omega arith))
          (is_level (suc level) node at small)
          (tight_of (link links node).arc (link links node).from node up.tight)
          (lowest level node at small)

      pub is_linked : (node : ℕ) → IsLinked roads answers sources (IsLabel label) links node
      unfolding linked_walk
      is_linked node = record {
        low = settled.low node;
        without = λ none count chain. (let found = chain_linked chain in let there = found.there in omega arith);
        level = λ some. is_level (link links node).level node refl (there some);
        tight = λ some high. (let up = above ((link links node).level - 1) node (omega arith) (before some high) in tight_of (link links node).arc (link links node).from node up.tight);
        below = λ some high. (let up = above ((link links node).level - 1) node (omega arith) (before some high) in is_level ((link links node).level - 1) (link links node).from up.below (omega (arith, there some)));
        lowest = λ some high. lowest ((link links node).level - 1) node (omega arith) (before some high);
        walk = λ some. canonical (link links node).level node refl (there some);
      }
        where
          there : (link links node).level ≢ NO_LEVEL → (link links node).level < NO_LEVEL
          there some = let low = settled.low node in omega arith

          before : (link links node).level ≢ NO_LEVEL → 0 < (link links node).level → suc ((link links node).level - 1) < NO_LEVEL
          before some high = let low = there some in omega arith

      pub are_links : AreLinks roads answers sources (IsLabel label) links
      are_links = record {
        places = settled.places;
        each = λ node is_node. is_linked node;
      }
