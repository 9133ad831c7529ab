-- Reached nodes are listed while labels fall.
use Rattle.std.proofs.Common.{◌≡◌, ℕ, ◌-◌, ◌<◌, inl, inr, refl, ap, sym, subst, ◌∙◌, List, length, set}
use Rattle.std.proofs.lemmas.Bool.{cases_eq}
use Rattle.std.proofs.lemmas.List.{length-set}
use Rattle.ea_search.specs.Listings.{IsListed, KeepsListed}
use Rattle.ea_search.specs.Underway.{bound_of}
use Rattle.ea_search.specs.declared.labels.table.Reached.{Reached}
use Rattle.ea_search.proofs.Entries.{bound_of-set_other}
use Rattle.ea_goal.specs.Visits.{KeepsReached}

pub reached_none : (table : Reached) → KeepsReached table table
reached_none table = record { count = refl; listed = λ first. first }

pub reached_then : (table middle after : Reached) → KeepsReached table middle → KeepsReached middle after → KeepsReached table after
reached_then table middle after one two = record { count = two.count ∙ one.count; listed = λ first. two.listed (one.listed first) }

-- the label of a node fell, and the node was listed
pub reached_more : (table after : Reached) (node time : ℕ) → 0 < node → after.labels.items ≡ set table.labels.items (node - 1) time → IsListed after.listed node → KeepsListed (IsListed table.listed) (IsListed after.listed) → KeepsReached table after
reached_more table after node time from is there kept = record {
  count = ap (λ (xs : List ℕ). length xs) is ∙ length-set table.labels.items (node - 1) time;
  listed = λ first v has. elim (cases_eq v node) [
    | inl same ↦ subst (λ n. IsListed after.listed n) (sym same) there
    | inr differs ↦ kept v (first v (λ none. has (ap (λ xs. bound_of xs v) is ∙ bound_of-set_other table.labels.items node v time from differs ∙ none)))
  ];
}
