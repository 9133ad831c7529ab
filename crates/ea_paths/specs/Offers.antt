-- Finding links: nodes offer links to their heads, and each node keeps the one that precedes.
use Rattle.std.specs.Prelude.{◌≡◌, ℕ, ◌+◌, ◌<◌, ◌≤◌, nat_le, List, length, slice_index_or, Contains, ◌⊎◌, sum_by, count_by}
use Rattle.std.specs.List.{IsAmong}
use Rattle.ea_base.specs.declared.limits.TheConstants.{HORIZON}
use Rattle.ea_road.specs.declared.source.Source.{Source}
use Rattle.ea_road.specs.Roads.{Roads}
use Rattle.ea_search.specs.declared.link.Link.{Link}
use Rattle.ea_search.specs.declared.link.TheConstants.{NO_LEVEL}
use Rattle.ea_search.specs.Underway.{bound_of}
use Rattle.ea_search.specs.Scans.{Step}
use Rattle.ea_search.specs.Links.{link, no_link}
use Rattle.ea_search.specs.Worklist.{Ring}

-- Left at the bound of its tail, the arc arrives at the bound of its head, both within the horizon: `IsTight`
-- for the bounds of a table, as the proofs use it.
pub record MeetsBound
    (roads : Roads)
    (answers : ℕ → ℕ → ℕ → ℕ → Type 0)
    (table : List ℕ)
    (node number head : ℕ)
    : Type 0 where
  pub step : Step roads answers node (bound_of table node) number head (bound_of table head)
  pub from_within : bound_of table node ≤ HORIZON

-- A source's departure is its node's label.
pub record IsSeed (sources : List Source) (table : List ℕ) (node : ℕ) : Type 0 where
  pub source : Source
  pub among : IsAmong sources source
  pub is_node : source.node ≡ node
  pub departs : source.departure ≡ bound_of table node
  pub within : source.departure ≤ HORIZON

-- Fewer arcs, or as many and a lower number.
abbrev pub Precedes : Link → Link → Type 0
Precedes a b = (a.level < b.level) ⊎ ((a.level ≡ b.level) × (a.arc < b.arc))

-- The number of nodes without a level.
abbrev pub unlinked : List Link → ℕ
unlinked links = count_by (λ l. nat_le NO_LEVEL l.level) links

abbrev pub levels : List Link → ℕ
levels links = sum_by (λ l. l.level) links

-- No level is so high that the nodes without one could not all lie above it.
abbrev pub IsBounded : ℕ → List Link → Type 0
IsBounded nodes links = (v : ℕ) → (link links v).level < NO_LEVEL → (link links v).level + unlinked links < nodes

-- Links were offered, and each node kept the one that precedes. Each node whose level fell waits.
pub record Offers
    (nodes : ℕ)
    (offer : ℕ → Link → Type 0)
    (links : List Link)
    (waiting : List ℕ)
    (links' : List Link)
    (waiting' : List ℕ)
    : Type 0 where
  pub places : length links' ≡ length links
  pub each : (v : ℕ) → (link links' v ≡ link links v) ⊎ (offer v (link links' v) × Precedes (link links' v) (link links v))
  pub fallen : (v : ℕ) → (link links' v).level < (link links v).level → Contains waiting' v
  pub kept : (v : ℕ) → Contains waiting v → Contains waiting' v
  pub only : (v : ℕ) → Contains waiting' v → Contains waiting v ⊎ ((link links' v).level < (link links v).level)
  pub spent : levels links' + length waiting' ≤ levels links + length waiting
  pub free : unlinked links' ≤ unlinked links
  pub bounded : ((v : ℕ) (l : Link) → offer v l → l.level + unlinked links ≤ nodes) → IsBounded nodes links → IsBounded nodes links'

-- Links were offered, and none of them precedes the link that its node now has. The waiting list keeps its room.
pub record OffersEach
    (nodes : ℕ)
    (offer : ℕ → Link → Type 0)
    (links : List Link)
    (waiting : Ring)
    (links' : List Link)
    (waiting' : Ring)
    : Type 0 where
  pub offers : Offers nodes offer links waiting.waiting links' waiting'.waiting
  pub passed : (v : ℕ) (l : Link) → offer v l → Precedes l (link links' v) → ⊥
  pub room : waiting'.nodes ≡ waiting.nodes

-- One link for one node.
abbrev pub IsOne : ℕ → Link → ℕ → Link → Type 0
IsOne v new w l = (w ≡ v) × (l ≡ new)

-- The links by tight arcs from a node at this level.
abbrev pub IsSpread : Roads → (ℕ → ℕ → ℕ → ℕ → Type 0) → List ℕ → ℕ → ℕ → ℕ → Link → Type 0
IsSpread roads answers table u level v l = (e : ℕ) × MeetsBound roads answers table u e v × (l ≡ record { level = level; arc = e; from = u })

-- A link by its arc, for the node to which the arc is tight.
abbrev pub IsAlong : Roads → (ℕ → ℕ → ℕ → ℕ → Type 0) → List ℕ → Link → ℕ → Link → Type 0
IsAlong roads answers table new v l = MeetsBound roads answers table new.from new.arc v × (l ≡ new)

-- No tight arc from the node is left to offer.
abbrev pub IsSpent : Roads → (ℕ → ℕ → ℕ → ℕ → Type 0) → List ℕ → List Link → ℕ → ℕ → Type 0
IsSpent roads answers table links u level = (e v : ℕ) → MeetsBound roads answers table u e v → Precedes (record { level = level; arc = e; from = u }) (link links v) → ⊥

-- Only the waiting nodes are left to process.
pub record Linking
    (roads : Roads)
    (answers : ℕ → ℕ → ℕ → ℕ → Type 0)
    (sources : List Source)
    (table : List ℕ)
    (links : List Link)
    (waiting : List ℕ)
    : Type 0 where
  pub places : length links ≡ roads.nodes
  pub linked : (v : ℕ) → (link links v).level < NO_LEVEL → (((link links v).level ≡ 0) × IsSeed sources table v) ⊎ (MeetsBound roads answers table (link links v).from (link links v).arc v × ((link links (link links v).from).level < (link links v).level))
  pub spent : (u : ℕ) → (link links u).level < NO_LEVEL → IsSpent roads answers table links u ((link links u).level + 1) ⊎ Contains waiting u
  pub bounded : IsBounded roads.nodes links
  pub waits : (v : ℕ) → Contains waiting v → (link links v).level < NO_LEVEL
  pub low : (v : ℕ) → (link links v).level ≤ NO_LEVEL
  pub clean : (v : ℕ) → (link links v).level ≡ NO_LEVEL → link links v ≡ no_link

-- Among this many first sources, each that departs at its node's label begins a walk.
abbrev pub AreSown : List Source → List ℕ → List Link → ℕ → Type 0
AreSown sources table links n = (k : ℕ) (d : Source) → k < n → (slice_index_or sources k d).departure ≡ bound_of table (slice_index_or sources k d).node → (link links (slice_index_or sources k d).node).level ≡ 0

-- A source was linked: if it departs at its node's label, its node was offered the link that begins a walk, and
-- is at level 0. Else nothing changed.
pub record LinksSource
    (table : List ℕ)
    (source : Source)
    (links : List Link)
    (waiting : Ring)
    (links' : List Link)
    (waiting' : Ring)
    : Type 0 where
  pub seeds : source.departure ≡ bound_of table source.node → Offers waiting.nodes (IsOne source.node (record { level = 0; arc = 0; from = 0 })) links waiting.waiting links' waiting'.waiting × ((link links' source.node).level ≡ 0)
  pub others : (source.departure ≡ bound_of table source.node → ⊥) → (links' ≡ links) × (waiting' ≡ waiting)
  pub room : waiting'.nodes ≡ waiting.nodes
