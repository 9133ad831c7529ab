-- Links during the replay of the log. They name an arc by its place among those that leave its tail, from 0.
use Rattle.std.specs.Prelude.{◌≡◌, ◌≢◌, ℕ, ◌+◌, ◌<◌, ◌≤◌, min, Bool, true, false, IsTrue, List, length, Contains, ◌⊎◌}
use Rattle.ea_road.specs.declared.source.Source.{Source}
use Rattle.ea_road.specs.Roads.{Roads, leaving}
use Rattle.ea_search.specs.declared.link.Link.{Link}
use Rattle.ea_search.specs.declared.link.TheConstants.{NO_LEVEL}
use Rattle.ea_search.specs.declared.log.note.Note.{Note}
use Rattle.ea_search.specs.Links.{link}
use Rattle.ea_search.specs.Notes.{by_none, had_after, met_after}
use Rattle.ea_search.specs.Worklist.{Ring}
use Rattle.ea_paths.specs.Offers.{IsSeed, Precedes}
use Rattle.ea_paths.specs.Places.{HavePlaces}
use Rattle.ea_search.specs.Scans.{number_at}

-- A link, with the number of its arc.
abbrev pub with_number : Roads → Link → Link
with_number roads l = record { level = l.level; arc = number_at roads l.from l.arc; from = l.from }

-- Each link with a level begins a walk at a source or has an arc from which its node's label was had; no arc
-- by which labels were met gives a better one, except arcs from waiting nodes.
pub record AreReplayed
    (roads : Roads)
    (sources : List Source)
    (table : List ℕ)
    (had met : ℕ → ℕ → ℕ → Type 0)
    (links : List Link)
    (waiting : List ℕ)
    : Type 0 where
  pub places : length links ≡ roads.nodes
  pub low : (v : ℕ) → (link links v).level ≤ NO_LEVEL
  pub linked : (v : ℕ) → (link links v).level < NO_LEVEL → (((link links v).level ≡ 0) × (((link links v).from ≡ 0) × IsSeed sources table v)) ⊎ had v (link links v).from (link links v).arc
  pub passed : (v u k : ℕ) → met v u k → (link links u).level + 1 < NO_LEVEL → (Precedes (record { level = (link links u).level + 1; arc = number_at roads u k; from = u }) (with_number roads (link links v)) → ⊥) ⊎ Contains waiting u

-- A node has at most one arc from which its label was had, that of its link; or it begins a walk; or it is
-- listed with the arc's tail.
abbrev pub AreTied : (ℕ → ℕ → ℕ → Type 0) → List Link → List (ℕ × ℕ) → Type 0
AreTied had links ties = (v u k : ℕ) → had v u k → ((link links v).level ≡ 0) ⊎ ((u ≡ (link links v).from) × (k ≡ (link links v).arc)) ⊎ Contains ties (v, u)

-- What links are after some notes, from any sources.
abbrev pub AreAfter : Roads → List Source → List ℕ → List Note → List Link → List ℕ → List (ℕ × ℕ) → Type 0
AreAfter roads sources table notes links waiting ties = AreReplayed roads sources table (had_after notes by_none) (met_after notes by_none) links waiting × AreTied (had_after notes by_none) links ties

-- If these links are after some notes, from any sources, so are the others.
abbrev pub StayAfter : List Link → List ℕ → List (ℕ × ℕ) → List Link → List ℕ → List (ℕ × ℕ) → Type 0
StayAfter links waiting ties links' waiting' ties' = (roads : Roads) (sources : List Source) (table : List ℕ) (notes : List Note) → AreAfter roads sources table notes links waiting ties → AreAfter roads sources table notes links' waiting' ties'

-- Each tail with which a node is listed waits.
abbrev pub AreWoken : List (ℕ × ℕ) → ℕ → List ℕ → Type 0
AreWoken ties node waiting = (u : ℕ) → Contains ties (node, u) → Contains waiting u

-- Waiting nodes still wait and, unless the replay is given up, so does each tail with which a node is listed.
pub record WakesTails (ties : List (ℕ × ℕ)) (node : ℕ) (goes_on : Bool) (waiting waiting' : Ring) : Type 0 where
  pub room : waiting'.nodes ≡ waiting.nodes
  pub kept : (v : ℕ) → Contains waiting.waiting v → Contains waiting'.waiting v
  pub woken : IsTrue goes_on → AreWoken ties node waiting'.waiting

-- Links and waiting nodes keep their places, and the list of ties stays.
pub record KeepsTies (nodes : ℕ) (links' : List Link) (waiting' : Ring) (ties ties' : List (ℕ × ℕ)) : Type 0 where
  pub places : HavePlaces nodes links' waiting'
  pub list : ties' ≡ ties

-- Two links with the same arc.
abbrev pub HaveOneArc : Link → Link → Type 0
HaveOneArc a b = (a.from ≡ b.from) × (a.arc ≡ b.arc)

-- A node was met by the arc of a new link. It has the new link or its old one, and the new one is no better
-- than what it has. What is better than that was better before, unless both links have the same arc and the
-- tails with which the node is listed wait. If the level fell, the node waits. If the node begins no walk and
-- the links have different arcs, it is listed with both tails.
pub record IsReachedAgain
    (roads : Roads)
    (node : ℕ)
    (new : Link)
    (links : List Link)
    (waiting : List ℕ)
    (ties : List (ℕ × ℕ))
    (links' : List Link)
    (waiting' : List ℕ)
    (ties' : List (ℕ × ℕ))
    : Type 0 where
  pub places : length links' ≡ length links
  pub others : (v : ℕ) → v ≢ node → link links' v ≡ link links v
  pub here : (link links' node ≡ link links node) ⊎ (link links' node ≡ new)
  pub fallen : (link links' node).level < (link links node).level → Contains waiting' node
  pub kept : (v : ℕ) → Contains waiting v → Contains waiting' v
  pub passed : new.level < NO_LEVEL → Precedes (with_number roads new) (with_number roads (link links' node)) → ⊥
  pub better : ((l : Link) → Precedes l (with_number roads (link links' node)) → Precedes l (with_number roads (link links node))) ⊎ ((((link links node).level ≢ 0) × HaveOneArc (link links node) new) × AreWoken ties node waiting')
  pub listed : (tie : ℕ × ℕ) → Contains ties tie → Contains ties' tie
  pub tied : ((link links' node).level ≡ 0) ⊎ ((((link links node).level ≢ 0) × (HaveOneArc (link links node) new × HaveOneArc (link links' node) new)) ⊎ (((link links node).level ≢ 0) × (Contains ties' (node, new.from) × Contains ties' (node, (link links node).from))))

-- The link by the arc of a note, one level above the arc's tail.
abbrev pub link_of : Note → List Link → Link
link_of note links = record { level = min ((link links note.from).level + 1) NO_LEVEL; arc = note.place; from = note.from }

-- A node's label fell: it has a new link.
pub record IsFallen (node : ℕ) (new : Link) (links links' : List Link) : Type 0 where
  pub places : length links' ≡ length links
  pub others : (v : ℕ) → v ≢ node → link links' v ≡ link links v
  pub here : link links' node ≡ new

-- A note was replayed: its node's label fell and it has a new link, or the label was met.
pub record IsFollowed
    (roads : Roads)
    (note : Note)
    (links : List Link)
    (waiting : List ℕ)
    (ties : List (ℕ × ℕ))
    (links' : List Link)
    (waiting' : List ℕ)
    (ties' : List (ℕ × ℕ))
    : Type 0 where
  pub fell : note.again ≡ false → IsFallen note.node (link_of note links) links links' × ((waiting' ≡ waiting) × (ties' ≡ ties))
  pub again : note.again ≡ true → IsReachedAgain roads note.node (link_of note links) links waiting ties links' waiting' ties'

-- The link that begins a walk, for a node with a source that departs at its label.
abbrev pub IsSeedLink : List Source → List ℕ → ℕ → Link → Type 0
IsSeedLink sources table v l = IsSeed sources table v × (l ≡ record { level = 0; arc = 0; from = 0 })

-- A link with the place of its arc gets the arc's number, and its tail lies lower. A link that begins a walk
-- stays.
pub record IsSettled (roads : Roads) (links : List Link) (v : ℕ) (l : Link) : Type 0 where
  pub level : l.level ≡ (link links v).level
  pub begins : (link links v).from ≡ 0 → l ≡ link links v
  pub by_arc : (link links v).level < NO_LEVEL → (link links v).from ≢ 0 → l ≡ with_number roads (link links v)
  pub inside : (link links v).level < NO_LEVEL → (link links v).from ≢ 0 → (link links v).arc < length (leaving roads (link links v).from)
  pub lower : (link links v).level < NO_LEVEL → (link links v).from ≢ 0 → (link links (link links v).from).level < (link links v).level

-- The same for each link.
abbrev pub AreSettled : Roads → List Link → List Link → Type 0
AreSettled roads links links' = (v : ℕ) → IsSettled roads links v (link links' v)
