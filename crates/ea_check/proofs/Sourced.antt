-- Sources at the places of a list.
use Rattle.std.proofs.Common.{◌≡◌, ◌∙◌, ℕ, ◌+◌, ◌<◌, ◌≤◌, List, length, get_or, inl, inr, arith, subst, sym}
use Rattle.std.proofs.lemmas.Bool.Decides.{eqb_tells}
use Rattle.std.proofs.lemmas.List.{get_or_default}
use Rattle.std.specs.List.{IsAmong}
use Rattle.ea_base.specs.declared.limits.TheConstants.{HORIZON}
use Rattle.ea_road.specs.declared.source.Source.{Source}
use Rattle.ea_road.specs.Queries.{Asking}
use Rattle.ea_road.specs.Roads.{IsNode}

pub source_among : (sources : List Source) (place : ℕ) (default : Source) → place < length sources → IsAmong sources (get_or sources place default)
source_among sources place default inside =
    (place, (inside, get_or_default sources place default (get_or sources place default) inside))

pub item_among : (sources items : List Source) (place : ℕ) (default : Source) → items ≡ sources → place < length items → IsAmong sources (get_or items place default)
item_among sources items place default same inside =
    subst (λ (xs : List Source). IsAmong xs (get_or items place default)) same (source_among items place default inside)

pub source_is_node : (nodes : ℕ) (sources items : List Source) (place size : ℕ) (default : Source) → ((source : Source) → IsAmong sources source → IsNode nodes source.node × (source.departure ≤ HORIZON)) → items ≡ sources → place < length items → size ≡ nodes → IsNode size (get_or items place default).node
source_is_node nodes sources items place size default starts same inside sized =
    subst (λ n. IsNode n (get_or items place default).node) (sym sized) (starts (get_or items place default) (item_among sources items place default same inside)).0

-- queries at the places of a list
pub all_queries : (queries : List Asking) (P : Asking → Type 0) → ((place : ℕ) (query : Asking) → place < length queries → P (get_or queries place query)) → (query : Asking) → IsAmong queries query → P query
all_queries queries P each query among =
    subst P (sym among.1.1) (each among.0 query among.1.0)

pub more_queries : (queries : List Asking) (P : Asking → Type 0) (done : ℕ) (here : Asking) → here ≡ get_or queries done here → done < length queries → P here → ((place : ℕ) (query : Asking) → place < done → P (get_or queries place query)) → (place : ℕ) (query : Asking) → place < done + 1 → P (get_or queries place query)
more_queries queries P done here is inside holds before place query less =
    elim (eqb_tells place done) [
      | inl same ↦ subst (λ n. P (get_or queries n query)) (sym same.1) (subst P (is ∙ get_or_default queries done here query inside) holds)
      | inr other ↦ before place query (omega (arith, other.1))
    ]
