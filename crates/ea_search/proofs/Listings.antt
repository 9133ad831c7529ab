-- Labels and links after a reset.
use Rattle.std.proofs.Common.{◌≡◌, ℕ, zero, suc, ◌<◌, ◌≤◌, Bool, List, length, replicate, refl, ◌∙◌, sym, ap, inl, inr, arith}
use Rattle.std.specs.Prelude.{if◌then◌else◌}
use Rattle.std.proofs.lemmas.Bool.{cases_lt}
use Rattle.std.proofs.lemmas.List.{get_or_past, get_or-replicate, length-replicate, ext_get_or}
use Rattle.ea_road.specs.declared.TheConstants.{NONE}
use Rattle.ea_search.specs.declared.link.Link.{Link}
use Rattle.ea_search.specs.Links.{link, no_link, no_links}
use Rattle.ea_search.specs.Underway.{bound_of}

-- a place that is no node's has no label, and no link
pub no_label_outside : (table : List ℕ) (node : ℕ) → ((0 < node) → (node ≤ length table) → ⊥) → bound_of table node ≡ NONE
unfolding bound_of
no_label_outside table zero outside = refl
no_label_outside table (suc k) outside = get_or_past table k NONE (elim (cases_lt k (length table)) [
  | inl inside ↦ absurd (outside (omega arith) (omega arith))
  | inr past ↦ past
])

pub no_link_outside : (links : List Link) (node : ℕ) → ((0 < node) → (node ≤ length links) → ⊥) → link links node ≡ no_link
unfolding link
no_link_outside links zero outside = refl
no_link_outside links (suc k) outside = get_or_past links k no_link (elim (cases_lt k (length links)) [
  | inl inside ↦ absurd (outside (omega arith) (omega arith))
  | inr past ↦ past
])

-- if no node has a label or a link, the arrays are as at first
pub no_labels : (table : List ℕ) → ((v : ℕ) → bound_of table v ≡ NONE) → table ≡ replicate (length table) NONE
unfolding bound_of
no_labels table none =
    ext_get_or NONE table (replicate (length table) NONE) (sym (length-replicate (length table) NONE)) (λ k inside. none (suc k) ∙ sym (get_or-replicate (length table) k NONE NONE inside))

pub no_links_left : (links : List Link) → ((v : ℕ) → link links v ≡ no_link) → links ≡ replicate (length links) no_link
unfolding link
no_links_left links none =
    ext_get_or no_link links (replicate (length links) no_link) (sym (length-replicate (length links) no_link)) (λ k inside. none (suc k) ∙ sym (get_or-replicate (length links) k no_link no_link inside))

-- there is room for as many links as at first
pub room_again : (nodes nodes' : ℕ) (walks walks' : Bool) (links : List Link) → links ≡ no_links nodes walks → nodes' ≡ nodes → walks ≡ walks' → length links ≡ (if walks' then nodes' else 0)
room_again nodes nodes' walks walks' links is same kept =
    let room : ℕ → Bool → ℕ = λ n w. if w then n else 0 in
    ap length is ∙ length-replicate (room nodes walks) no_link ∙ ap (λ n. room n walks) (sym same) ∙ ap (room nodes') kept
