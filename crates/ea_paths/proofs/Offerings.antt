-- Links were offered, and none of them precedes what its node now has.
use Rattle.std.proofs.Common.{◌≡◌, ℕ, List, refl, sym, subst}
use Rattle.ea_road.specs.declared.arc.Arc.{Arc}
use Rattle.ea_road.specs.Roads.{Roads, IsArc}
use Rattle.ea_search.specs.declared.link.Link.{Link}
use Rattle.ea_search.specs.Links.{link}
use Rattle.ea_search.specs.Worklist.{Ring}
use Rattle.ea_paths.specs.Offers.{IsAlong, IsOne, IsSpent, IsSpread, MeetsBound, Offers, OffersEach, Precedes}
use Rattle.ea_paths.proofs.Linkings.{Offers-none, Offers-weaker, passed-at}

-- one link was offered to one node
pub passed_one : (links : List Link) (node : ℕ) (new : Link) → (Precedes new (link links node) → ⊥) → (v : ℕ) (l : Link) → IsOne node new v l → Precedes l (link links v) → ⊥
passed_one links node new passed v l one =
    let P : ℕ → Type 0 = λ x. Precedes l (link links x) → ⊥ in
    let Q : Link → Type 0 = λ x. Precedes x (link links node) → ⊥ in
    subst P (sym one.0) (subst Q (sym one.1) passed)

module _ (roads : Roads) (answers : ℕ → ℕ → ℕ → ℕ → Type 0) (table : List ℕ) (nodes : ℕ) (new : Link) where
  -- that node is the head of a tight arc
  pub along_one : (arc : Arc) (links links' : List Link) (waiting waiting' : Ring) → IsArc roads new.arc arc → MeetsBound roads answers table new.from new.arc arc.head → OffersEach nodes (IsOne arc.head new) links waiting links' waiting' → OffersEach nodes (IsAlong roads answers table new) links waiting links' waiting'
  along_one arc links links' waiting waiting' is tight each = record {
    offers = Offers-weaker nodes (IsOne arc.head new) (IsAlong roads answers table new) links links' waiting.waiting waiting'.waiting wider each.offers;
    passed = λ v l along.
        let P : Link → Type 0 = λ x. Precedes x (link links' v) → ⊥ in
        subst P (sym along.1) (passed-at roads answers table new.from new.arc arc new links' is (each.passed arc.head new (refl, refl)) v along.0);
    room = each.room;
  }
    where
      wider : (v : ℕ) (l : Link) → IsOne arc.head new v l → IsAlong roads answers table new v l
      wider v l one =
          let P : ℕ → Type 0 = λ x. MeetsBound roads answers table new.from new.arc x in
          (subst P (sym one.0) tight, one.1)

  -- nothing was offered, and nothing is better
  pub along_none : (links : List Link) (waiting : Ring) → ((v : ℕ) → MeetsBound roads answers table new.from new.arc v → Precedes new (link links v) → ⊥) → OffersEach nodes (IsAlong roads answers table new) links waiting links waiting
  along_none links waiting never = record {
    offers = Offers-none nodes (IsAlong roads answers table new) links waiting.waiting;
    passed = λ v l along.
        let P : Link → Type 0 = λ x. Precedes x (link links v) → ⊥ in
        subst P (sym along.1) (never v along.0);
    room = refl;
  }

  -- the link by one arc is among those by all
  pub along_wider : (level : ℕ) → new ≡ record { level = level; arc = new.arc; from = new.from } → (links links' : List Link) (waiting waiting' : List ℕ) → Offers nodes (IsAlong roads answers table new) links waiting links' waiting' → Offers nodes (IsSpread roads answers table new.from level) links waiting links' waiting'
  along_wider level is links links' waiting waiting' offers =
      Offers-weaker nodes (IsAlong roads answers table new) (IsSpread roads answers table new.from level) links links' waiting waiting' (λ v l along. (new.arc, along.0, rw along.1 is)) offers

-- no tight arc from the node is left to offer
pub spent_each : (roads : Roads) (answers : ℕ → ℕ → ℕ → ℕ → Type 0) (table : List ℕ) (links' : List Link) (node level : ℕ) → ((v : ℕ) (l : Link) → IsSpread roads answers table node level v l → Precedes l (link links' v) → ⊥) → IsSpent roads answers table links' node level
spent_each roads answers table links' node level passed e v tight = passed v (record { level = level; arc = e; from = node }) (e, tight, refl)

pub each_spent : (roads : Roads) (answers : ℕ → ℕ → ℕ → ℕ → Type 0) (table : List ℕ) (links' : List Link) (node level : ℕ) → IsSpent roads answers table links' node level → (v : ℕ) (l : Link) → IsSpread roads answers table node level v l → Precedes l (link links' v) → ⊥
each_spent roads answers table links' node level spent v l along =
    let P : Link → Type 0 = λ x. Precedes x (link links' v) → ⊥ in
    subst P (sym along.2) (spent along.0 v along.1)
