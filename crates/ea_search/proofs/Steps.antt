-- What each step of a search keeps.
use Rattle.std.proofs.Common.{◌≡◌, ℕ, ◌+◌, ◌<◌, ◌≤◌, List, Option, Some, ◌∙◌, ap, inl, inr, refl, subst, sym, arith}
use Rattle.std.proofs.lemmas.Bool.{cases_eq}
use Rattle.ea_road.specs.Labels.{limit}
use Rattle.ea_road.specs.Roads.{Roads, IsNode}
use Rattle.ea_search.specs.Listings.{AreLabelsListed, KeepsListed}
use Rattle.ea_search.specs.Notes.{AreHad}
use Rattle.ea_search.specs.Scans.{FallsBy}
use Rattle.ea_search.specs.Searching.{KeepsRoom, KeepsSearch, SearchesOn}
use Rattle.ea_search.specs.Tables.{CanFallTo, SetsLabel}
use Rattle.ea_search.specs.Underway.{bound_of}
use Rattle.ea_search.specs.Worklist.{Room, Worklist}
use Rattle.ea_search.proofs.Entries.{bound_of-set_other, sum-falls}
use Rattle.ea_search.proofs.Falls.{FallsBy-same, FallsBy-then, limit_falls}

-- the room of a list of waiting nodes
abbrev room_of : Worklist → Room
room_of todo = record { nodes = todo.nodes; walks = todo.walks }

-- a step that changes nothing
pub KeepsSearch-same : (table : List ℕ) (lists : ℕ → Type 0) (room : Room) (size : ℕ) → KeepsSearch table lists room size table lists room size
KeepsSearch-same table lists room size = record { same_room = refl; listed = λ first. first; spent = omega arith }

-- a step that changes no label
pub KeepsSearch-meets : (table table' : List ℕ) (lists lists' : ℕ → Type 0) (room : Room) (size : ℕ) → table' ≡ table → KeepsListed lists lists' → KeepsSearch table lists room size table' lists' room size
KeepsSearch-meets table table' lists lists' room size same kept = record {
  same_room = refl;
  listed = λ first v has. kept v (first v (λ none. has (ap (λ xs. bound_of xs v) same ∙ none)));
  spent = rw same (omega arith);
}

-- a label falls, and its node is opened
pub KeepsSearch-falls : (table table' : List ℕ) (lists lists' : ℕ → Type 0) (room room' : Room) (size size' node time : ℕ) → CanFallTo table node time → time < bound_of table node → SetsLabel node time table lists table' lists' → room' ≡ room → size' ≤ size + 1 → KeepsSearch table lists room size table' lists' room' size'
KeepsSearch-falls table table' lists lists' room room' size size' node time can less sets same few = record {
  same_room = same;
  listed = λ first v has. elim (cases_eq v node) [
    | inl is ↦ subst lists' (sym is) sets.there
    | inr differs ↦ sets.kept v (first v (λ none. has (ap (λ xs. bound_of xs v) sets.labels ∙ bound_of-set_other table node v time can.is_node.0 differs ∙ none)))
  ];
  spent = let fell = sum-falls table node time can.is_node.0 can.is_node.1 less in rw sets.labels (omega (arith, fell, few));
}

-- one step and then another
pub KeepsSearch-then : (table table' table'' : List ℕ) (lists lists' lists'' : ℕ → Type 0) (room room' room'' : Room) (size size' size'' : ℕ) → KeepsSearch table lists room size table' lists' room' size' → KeepsSearch table' lists' room' size' table'' lists'' room'' size'' → KeepsSearch table lists room size table'' lists'' room'' size''
KeepsSearch-then table table' table'' lists lists' lists'' room room' room'' size size' size'' first last = record {
  same_room = last.same_room ∙ first.same_room;
  listed = λ are. last.listed (first.listed are);
  spent = omega (arith, first.spent, last.spent);
}

pub KeepsRoom-same : (todo : Worklist) → KeepsRoom todo todo
KeepsRoom-same todo = record { nodes = refl; walks = refl }

-- a step that keeps the room
pub KeepsRoom-by : (before middle after : Worklist) → KeepsRoom before middle → room_of after ≡ room_of middle → KeepsRoom before after
KeepsRoom-by before middle after first same = record {
  nodes = ap (λ (r : Room). r.nodes) same ∙ first.nodes;
  walks = ap (λ (r : Room). r.walks) same ∙ first.walks;
}

module _ (roads : Roads) (answers : ℕ → ℕ → ℕ → ℕ → Type 0) (target : Option ℕ) where
  pub SearchesOn-same : (table : List ℕ) (lists : ℕ → Type 0) (had : ℕ → ℕ → ℕ → Type 0) → SearchesOn roads answers target table lists had table lists had
  SearchesOn-same table lists had = record { falls = FallsBy-same roads answers _ _; listed = λ first. first; are_had = λ first. first }

  -- a step after others, of arcs that are left no later than the target's label
  pub SearchesOn-then : (table table' table'' : List ℕ) (lists lists' lists'' : ℕ → Type 0) (had had' had'' : ℕ → ℕ → ℕ → Type 0) {last : ℕ} → SearchesOn roads answers target table lists had table' lists' had' → ((node : ℕ) → target ≡ Some node → IsNode roads.nodes node) → FallsBy roads answers last (bound_of table') (bound_of table'') → last ≤ limit target (bound_of table') → (AreLabelsListed table' lists' → AreLabelsListed table'' lists'') → (AreHad roads answers table' had' → AreHad roads answers table'' had'') → SearchesOn roads answers target table lists had table'' lists'' had''
  SearchesOn-then table table' table'' lists lists' lists'' had had' had'' {last} first is_node falls in_time listed are_had = record {
    falls = let fell = limit_falls roads answers _ _ _ target first.falls is_node in FallsBy-then roads answers _ last _ _ _ first.falls falls (omega (arith, in_time, fell));
    listed = λ are. listed (first.listed are);
    are_had = λ are. are_had (first.are_had are);
  }
