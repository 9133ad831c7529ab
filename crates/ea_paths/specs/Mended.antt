-- Links during the repair.
use Rattle.std.specs.Prelude.{◌≡◌, ℕ, ◌+◌, ◌<◌, ◌≤◌, Bool, IsTrue, List, length, Contains, ◌⊎◌}
use Rattle.ea_road.specs.declared.source.Source.{Source}
use Rattle.ea_road.specs.Roads.{Roads}
use Rattle.ea_search.specs.declared.link.Link.{Link}
use Rattle.ea_search.specs.declared.link.TheConstants.{NO_LEVEL}
use Rattle.ea_search.specs.Links.{link}
use Rattle.ea_search.specs.Worklist.{Ring}
use Rattle.ea_paths.specs.Offers.{IsSeed, IsSpent, IsSpread, MeetsBound, Offers, Precedes}
use Rattle.ea_paths.specs.Places.{HavePlaces}

-- Each link with a level begins a walk at a source or follows a tight arc from a lower level; no tight arc
-- gives a better one, except arcs from waiting nodes.
pub record AreMended
    (roads : Roads)
    (answers : ℕ → ℕ → ℕ → ℕ → Type 0)
    (sources : List Source)
    (table : List ℕ)
    (links : List Link)
    (waiting : List ℕ)
    : Type 0 where
  pub places : length links ≡ roads.nodes
  pub low : (v : ℕ) → (link links v).level ≤ NO_LEVEL
  pub linked : (v : ℕ) → (link links v).level < NO_LEVEL → (((link links v).level ≡ 0) × IsSeed sources table v) ⊎ (MeetsBound roads answers table (link links v).from (link links v).arc v × ((link links (link links v).from).level < (link links v).level))
  pub passed : (e u v : ℕ) → MeetsBound roads answers table u e v → (link links u).level + 1 < NO_LEVEL → (Precedes (record { level = (link links u).level + 1; arc = e; from = u }) (link links v) → ⊥) ⊎ Contains waiting u

-- One more level fits above a link's.
abbrev pub IsReady : Link → Type 0
IsReady l = l.level < NO_LEVEL → l.level + 1 < NO_LEVEL

abbrev pub AreReady : List Link → Type 0
AreReady links = (v : ℕ) → IsReady (link links v)

-- A node was repaired: links by its tight arcs were offered, all of them if one more level fits above its own.
-- The repair may continue only if it does.
pub record MendsNode
    (roads : Roads)
    (answers : ℕ → ℕ → ℕ → ℕ → Type 0)
    (table : List ℕ)
    (node : ℕ)
    (goes_on : Bool)
    (links : List Link)
    (waiting : Ring)
    (links' : List Link)
    (waiting' : Ring)
    : Type 0 where
  pub offers : Offers roads.nodes (IsSpread roads answers table node ((link links node).level + 1)) links waiting.waiting links' waiting'.waiting
  pub spent : (link links node).level + 1 < NO_LEVEL → IsSpent roads answers table links' node ((link links node).level + 1)
  pub room : waiting'.nodes ≡ waiting.nodes
  pub ready : IsTrue goes_on → IsReady (link links node)

-- Some waiting nodes were repaired: mended links stay mended, from any sources, and no level rose.
pub record KeepsMended
    (roads : Roads)
    (answers : ℕ → ℕ → ℕ → ℕ → Type 0)
    (table : List ℕ)
    (links : List Link)
    (waiting : Ring)
    (links' : List Link)
    (waiting' : Ring)
    : Type 0 where
  pub places : HavePlaces roads.nodes links' waiting'
  pub mended : (sources : List Source) → AreMended roads answers sources table links waiting.waiting → AreMended roads answers sources table links' waiting'.waiting
  pub lower : (v : ℕ) → (link links' v).level ≤ (link links v).level
