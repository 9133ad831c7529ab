-- The link and the label of a node, at its place of a list.
use Rattle.std.proofs.Common.{◌≡◌, ◌≢◌, ℕ, zero, suc, ◌-◌, ◌<◌, ◌≤◌, List, length, get_or, set, refl, sym, ◌∙◌, arith}
use Rattle.std.proofs.lemmas.List.{get_or-set_same, get_or-set_other, get_or_default}
use Rattle.ea_road.specs.declared.TheConstants.{NONE}
use Rattle.ea_search.specs.declared.link.Link.{Link}
use Rattle.ea_search.specs.Links.{no_link, link}
use Rattle.ea_search.specs.Underway.{bound_of}
use Rattle.ea_search.proofs.Entries.{bound_of-at}

pub link-at : (links : List Link) (v : ℕ) → 0 < v → link links v ≡ get_or links (v - 1) no_link
unfolding link
link-at links zero h = absurd (omega arith)
link-at links (suc k) h = let e : suc k - 1 ≡ k = omega arith in rw e refl

pub link-set_same : (links : List Link) (v : ℕ) (x : Link) → 0 < v → v ≤ length links → link (set links (v - 1) x) v ≡ x
link-set_same links v x h l = link-at (set links (v - 1) x) v h ∙ get_or-set_same links (v - 1) x no_link (omega arith)

pub link-set_other : (links : List Link) (v w : ℕ) (x : Link) → 0 < v → w ≢ v → link (set links (v - 1) x) w ≡ link links w
unfolding link
link-set_other links v zero x h ne = refl
link-set_other links v (suc k) x h ne = get_or-set_other links (v - 1) k x no_link (omega arith)

pub bound_of_read : (table : List ℕ) (v : ℕ) → 0 < v → v ≤ length table → get_or table (v - 1) 0 ≡ bound_of table v
bound_of_read table v h l = sym (bound_of-at table v h ∙ get_or_default table (v - 1) NONE 0 (omega arith))
