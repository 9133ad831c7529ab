-- Labels of asked nodes are written.
use Rattle.std.proofs.Common.{◌≡◌, ℕ, ◌+◌, ◌-◌, ◌<◌, arith, inl, inr, sym, ap, subst, ◌∙◌, get_or, List, length, replicate, set, Contains}
use Rattle.std.specs.Prelude.{slice_index}
use Rattle.std.proofs.lemmas.Bool.{cases_eq}
use Rattle.std.proofs.lemmas.Bool.Decides.{leb_tells}
use Rattle.std.proofs.lemmas.List.{length-replicate, length-set}
use Rattle.std.proofs.lemmas.List.Elements.{Contains-get_or}
use Rattle.ea_road.specs.declared.TheConstants.{NONE}
use Rattle.ea_road.specs.Roads.{IsNode}
use Rattle.ea_search.specs.Listings.{AreLabelsListed, IsListed, KeepsListed, Listing}
use Rattle.ea_search.specs.Underway.{bound_of}
use Rattle.ea_search.proofs.Entries.{bound_of-none, bound_of-set_other, bound_of-set_same}
use Rattle.ea_search.proofs.Places.{bound_of_read}
use Rattle.ea_asked.specs.Stores.{Shows}

pub shows_none : (table asked labels : List ℕ) → labels ≡ replicate (length table) NONE → Shows table asked 0 labels
shows_none table asked labels is = rw is (record {
  places = length-replicate (length table) NONE;
  each = λ place early. absurd (omega arith);
  others = λ node. inl (bound_of-none (length table) node);
})

module _ (table asked labels : List ℕ) (count : ℕ) (inside : count < length asked) (is_node : IsNode (length table) (slice_index asked count)) (before : Shows table asked count labels) where
  abbrev node : ℕ
  node = slice_index asked count

  abbrev after : List ℕ
  after = set labels (node - 1) (get_or table (node - 1) 0)

  here : bound_of after node ≡ bound_of table node
  here = bound_of-set_same labels node (get_or table (node - 1) 0) is_node.from_one (omega (arith, is_node.to_last, before.places)) ∙ bound_of_read table node is_node.from_one is_node.to_last

  at : (other : ℕ) → other ≡ node → bound_of after other ≡ bound_of table other
  at other same = ap (bound_of after) same ∙ here ∙ sym (ap (bound_of table) same)

  -- one more node is shown
  pub shows_more : Shows table asked (count + 1) after
  shows_more = record {
    places = length-set labels (node - 1) (get_or table (node - 1) 0) ∙ before.places;
    each = λ place early. elim (cases_eq (slice_index asked place) node) [
      | inl same ↦ at (slice_index asked place) same
      | inr differs ↦ elim (leb_tells count place) [
        | inl this ↦ (let same : place ≡ count = omega (arith, this.1, early) in absurd (differs (ap (slice_index asked) same)))
        | inr earlier ↦ bound_of-set_other labels node (slice_index asked place) (get_or table (node - 1) 0) is_node.from_one differs ∙ before.each place earlier.1
      ]
    ];
    others = λ other. elim (cases_eq other node) [
      | inl same ↦ inr (subst (λ n. Contains asked n) (sym same) (Contains-get_or asked count 0 inside), at other same)
      | inr differs ↦
          let kept = bound_of-set_other labels node other (get_or table (node - 1) 0) is_node.from_one differs in
          elim (before.others other) [
            | inl none ↦ inl (kept ∙ none)
            | inr shown ↦ inr (shown.0, kept ∙ shown.1)
          ]
    ];
  }

  pub listed_more : (listed then : Listing) → AreLabelsListed labels (IsListed listed) → IsListed then node → KeepsListed (IsListed listed) (IsListed then) → AreLabelsListed after (IsListed then)
  listed_more listed then first there kept other has = elim (cases_eq other node) [
    | inl same ↦ subst (λ n. IsListed then n) (sym same) there
    | inr differs ↦ kept other (first other (λ none. has (bound_of-set_other labels node other (get_or table (node - 1) 0) is_node.from_one differs ∙ none)))
  ]

pub listed_none : (nodes : ℕ) (labels : List ℕ) (listed : Listing) → labels ≡ replicate nodes NONE → AreLabelsListed labels (IsListed listed)
listed_none nodes labels listed is node has = absurd (has (ap (λ (xs : List ℕ). bound_of xs node) is ∙ bound_of-none nodes node))
