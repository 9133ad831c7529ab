-- Upward arcs that two others replace, and rows of those that are left.
use Rattle.std.specs.Prelude.{◌≡◌, ◌⊎◌, ℕ, ◌+◌, ◌-◌, ◌<◌, ◌≤◌, List, Bool, Contains, length, slice_index, slice_index_or, true, false}
use Rattle.std.specs.List.Sorted.{IsNonDecreasingBy}
use Rattle.ea_hierarchy.specs.Hierarchies.{IsFrom, Joins}
use Rattle.ea_hierarchy.specs.Numbers.{plus}
use Rattle.ea_hierarchy.specs.declared.trimmed.Link.{Link}
use Rattle.ea_hierarchy.specs.declared.trimmed.LeftArcs.{LeftArcs}

-- The arc at a place is replaced by an earlier one of its rank and one from there to its head: together they are no longer.
pub record IsReplaced (firsts heads numbers : List ℕ) (rank place : ℕ) : Type 0 where
  pub earlier : ℕ
  pub is_from : IsFrom firsts rank earlier
  pub before : earlier < place
  pub joining : ℕ
  pub joins : Joins firsts heads (slice_index heads earlier) (slice_index heads place) joining
  pub shorter : plus (slice_index numbers earlier) (slice_index numbers joining) ≤ slice_index numbers place

-- Each arc of a rank that has a mark is replaced.
pub record AreMarked (firsts heads numbers : List ℕ) (rank : ℕ) (marks : List Bool) : Type 0 where
  pub count : slice_index firsts rank + length marks ≡ slice_index firsts (rank + 1)
  pub replaced : (place : ℕ) → IsFrom firsts rank place → slice_index_or marks (place - slice_index firsts rank) false ≡ true → IsReplaced firsts heads numbers rank place

-- A link is an arc of a rank.
pub record IsLink (firsts heads numbers : List ℕ) (rank : ℕ) (link : Link) : Type 0 where
  pub place : ℕ
  pub is_from : IsFrom firsts rank place
  pub head : slice_index heads place ≡ link.head
  pub number : slice_index numbers place ≡ link.number

-- Links by ascending numbers.
abbrev pub AreAscending : List Link → Type 0
AreAscending links = IsNonDecreasingBy (λ (link : Link). link.number) links

-- Links are arcs of a rank, by ascending numbers, and each other arc of it is replaced.
pub record IsTrimmed (firsts heads numbers : List ℕ) (rank : ℕ) (links : List Link) : Type 0 where
  pub ascending : AreAscending links
  pub arcs : (link : Link) → Contains links link → IsLink firsts heads numbers rank link
  pub rest : (place : ℕ) → IsFrom firsts rank place → Contains links (record { head = slice_index heads place; number = slice_index numbers place }) ⊎ IsReplaced firsts heads numbers rank place

-- Each row has the arcs that are left of its rank.
pub record AreTrimmed (firsts heads numbers : List ℕ) (rows : List LeftArcs) : Type 0 where
  pub each : (row : LeftArcs) → Contains rows row → IsTrimmed firsts heads numbers row.rank row.links.items

-- A number is the least of another and of those over links.
pub record IsLeastBy (bound : ℕ → ℕ) (links : List Link) (reach least : ℕ) : Type 0 where
  pub to_reach : least ≤ reach
  pub to_each : (link : Link) → Contains links link → least ≤ plus link.number (bound link.head)
  pub is_one : (least ≡ reach) ⊎ ((link : Link) × Contains links link × (least ≡ plus link.number (bound link.head)))
