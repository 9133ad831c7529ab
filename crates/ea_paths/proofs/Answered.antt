-- A finished table and its links make an answer.
use Rattle.std.proofs.Common.{◌≡◌, ◌≢◌, ◌==◌, ℕ, ◌-◌, ◌<◌, Bool, true, false, Some, None, List, length, refl, subst, eq-eqb, arith}
use Rattle.std.specs.Prelude.{if◌then◌else◌}
use Rattle.ea_road.specs.declared.TheConstants.{NONE}
use Rattle.ea_road.specs.declared.source.Source.{Source}
use Rattle.ea_travel_times.specs.Answers.{IsFifo}
use Rattle.ea_road.specs.Roads.{Roads, IsNode, IsNetwork}
use Rattle.ea_road.specs.Queries.{Asking, IsAsked, IsProblem}
use Rattle.ea_road.specs.Arrivals.{IsLeastAt}
use Rattle.ea_road.specs.Labels.{IsFixed, IsLabel, label_of}
use Rattle.ea_road.specs.Levels.{IsCanonical}
use Rattle.ea_road.proofs.Canonical.{same_level}
use Rattle.ea_road.proofs.Fixed.{asked_labels_are_least, asked_up_to, label_is_least}
use Rattle.ea_road.proofs.Rooted.{chain_to}
use Rattle.ea_road.proofs.Walked.{canonical_over_least, least_attains}
use Rattle.ea_search.specs.declared.link.Link.{Link}
use Rattle.ea_search.specs.declared.link.TheConstants.{NO_LEVEL}
use Rattle.ea_search.specs.Answers.{HasArrivals, IsAnswer}
use Rattle.ea_search.specs.Links.{AreLinks, link, linked_walk}
use Rattle.ea_paths.specs.Stored.{AreFollowable, IsStoredAnswer}
use Rattle.ea_paths.proofs.Linkings.{link-node}

-- what an entry says that is present exactly if there is a label
pub record Gives (A : Type 0) (label : ℕ) (given found : A) : Type 0 where
  pub some : label ≢ NONE
  pub same : given ≡ found

pub gives : {A : Type 0} (label : ℕ) (given found : A) → (if label == NONE then None else Some given) ≡ Some found → Gives A label given found
gives {A} label given found same = by_test (label == NONE) refl same
  where
    by_test : (b : Bool) → (label == NONE) ≡ b → (if b then None else Some given) ≡ Some found → Gives A label given found
    by_test true is equal = cc
    by_test false differs equal = record { some = λ e. (let h : (label == NONE) ≡ true = eq-eqb label NONE e in cc); same = cc }

-- the links over any times lead back to a source
pub followable : (roads : Roads) (answers : ℕ → ℕ → ℕ → ℕ → Type 0) (sources : List Source) (label : ℕ → ℕ) → IsNetwork roads → (links : List Link) → AreLinks roads answers sources (IsLabel label) links → AreFollowable links
followable roads answers sources label network links are node high there =
    let at = link-node links node there in
    let is_node : IsNode roads.nodes node = record { from_one = at.0; to_last = omega (arith, at.1, are.places) } in
    let each = are.each node is_node in
    let some : (link links node).level ≢ NO_LEVEL = omega arith in
    let tight = each.tight some high in
    let from : IsNode roads.nodes (link links node).from = subst (λ n. IsNode roads.nodes n) tight.is_tail (network.each_fits (link links node).arc tight.arc tight.is_arc).tail in
    let below = each.below some high in
    let before = are.each (link links node).from from in
    let has : (link links (link links node).from).level ≢ NO_LEVEL = λ none. before.without none ((link links node).level - 1) below.chain in
    let same = same_level roads answers sources (IsLabel label) (link links node).from (link links (link links node).from).level ((link links node).level - 1) (before.level has) below in
    let to_last = from.to_last in
    let count = are.places in
    (record { from_one = from.from_one; to_last = omega arith }, omega arith)

module _
    (roads : Roads)
    (answers : ℕ → ℕ → ℕ → ℕ → Type 0)
    (classes : ℕ)
    (query : Asking)
    (network : IsNetwork roads)
    (problem : IsProblem roads classes query)
    (fifo : IsFifo answers classes)
    (table : List ℕ)
    (places : length table ≡ roads.nodes)
    (fixed : IsFixed roads answers query (label_of table))
  where
    abbrev label : ℕ → ℕ
    label = label_of table

    pub has_arrivals : (links : List Link) (walks : Bool) → HasArrivals roads answers query (record { nodes = roads.nodes; target = query.target; labels = table; links = links; walks = walks })
    has_arrivals links walks = record {
      nodes = refl;
      target = refl;
      least = λ node is_node asked. asked_labels_are_least roads answers classes query label network problem.classed fifo fixed node is_node asked;
    }

    pub stored_without : (links : List Link) → IsStoredAnswer (record { nodes = roads.nodes; target = query.target; labels = table; links = links; walks = false })
    stored_without links = record {
      labels = places;
      links = λ same. cc;
      followable = λ same. cc;
      linked = λ same. cc;
    }

    module _ (links : List Link) (are : AreLinks roads answers query.sources (IsLabel label) links) where
      -- an asked node that has a label has a level
      linked : (node : ℕ) → IsNode roads.nodes node → IsAsked query node → label node ≢ NONE → (link links node).level < NO_LEVEL
      linked node is_node asked some =
          let low = asked_up_to roads answers classes query label network problem.classed fifo fixed node is_node asked in
          let chain = chain_to roads answers classes query label network problem.classed fifo fixed problem.sources node is_node some low in
          let each = are.each node is_node in
          let bound = each.low in
          let level : (link links node).level ≢ NO_LEVEL = λ none. each.without none chain.0 chain.1 in
          omega arith

      pub stored : IsStoredAnswer (record { nodes = roads.nodes; target = query.target; labels = table; links = links; walks = true })
      stored = record {
        labels = places;
        links = λ same. are.places;
        followable = λ same. followable roads answers query.sources label network links are;
        linked = λ same node is_node asked some. linked node is_node asked some;
      }

      canonical : (node : ℕ) → IsNode roads.nodes node → IsAsked query node → label node ≢ NONE → IsCanonical roads answers query.sources (IsLeastAt roads answers query.sources) node (linked_walk links node)
      canonical node is_node asked some =
          let there = linked node is_node asked some in
          let low = asked_up_to roads answers classes query label network problem.classed fifo fixed node is_node asked in
          let within = (fixed.reached node is_node some).within in
          canonical_over_least roads answers classes query label network problem fifo fixed node (label node) (linked_walk links node) is_node (refl, within) low ((are.each node is_node).walk (omega arith))

      pub is_answer : IsAnswer roads answers query (record { nodes = roads.nodes; target = query.target; labels = table; links = links; walks = true })
      is_answer = record {
        arrivals = has_arrivals links true;
        walks = refl;
        canonical = λ node walk is_node asked found.
            let said = gives (label node) (linked_walk links node) walk found in
            let P : List ℕ → Type 0 = λ w. IsCanonical roads answers query.sources (IsLeastAt roads answers query.sources) node w in
            subst P said.same (canonical node is_node asked said.some);
        attains = λ node time walk is_node asked arrival found.
            let said = gives (label node) (linked_walk links node) walk found in
            let at = gives (label node) (label node) time arrival in
            let P : List ℕ → Type 0 = λ w. IsCanonical roads answers query.sources (IsLeastAt roads answers query.sources) node w in
            let within = (fixed.reached node is_node said.some).within in
            let low = asked_up_to roads answers classes query label network problem.classed fifo fixed node is_node asked in
            let least = label_is_least roads answers classes query label network problem.classed fifo fixed node (label node) is_node low (refl, within) in
            let Q : ℕ → Type 0 = λ t. IsLeastAt roads answers query.sources node t in
            least_attains roads answers classes query node time walk (subst Q at.same least) (subst P said.same (canonical node is_node asked said.some));
      }
