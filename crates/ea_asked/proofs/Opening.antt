-- Entries that come and go, and a time that no label of some is below.
use Rattle.std.proofs.Common.{◌≡◌, ℕ, ◌+◌, ◌-◌, ◌≤◌, arith, sym, subst, List, [], ◌∷◌, ◌++◌, length, map}
use Rattle.std.specs.List.{All}
use Rattle.std.specs.List.Sorted.{IsPermutation}
use Rattle.std.specs.Vec.{with_items}
use Rattle.std.specs.declared.vec.Vec.{Vec}
use Rattle.std.proofs.lemmas.List.{length-map, with_items_is}
use Rattle.std.proofs.lemmas.List.Elements.{All-contains, All-map}
use Rattle.std.proofs.lemmas.List.Sorted.{IsPermutation-append_comm, IsPermutation-map, IsPermutation-trans, length_permutation}
use Rattle.ea_goal.specs.Frontiers.{Opens, Takes}
use Rattle.ea_goal.specs.declared.frontier.Entry.{Entry as Met}
use Rattle.ea_goal.proofs.Waiting.{opens, takes}
use Rattle.ea_road.specs.declared.TheConstants.{NONE}
use Rattle.ea_asked.specs.Open.{AreFrom, IsFrom, met}
use Rattle.ea_asked.specs.declared.frontier.Entry.{Entry}

pub are_from : (least : ℕ) (entries : List Entry) → All (IsFrom least) entries → AreFrom least (map met entries)
are_from least entries all label node waits =
    All-contains (λ (m : Met). least ≤ m.label) (map met entries) (record { nearness = waits.nearness; label = label; node = node }) (All-map (λ (m : Met). least ≤ m.label) met entries all) waits.there

-- An entry comes to the end, and entries are moved.
pub opened : (before pushed after : List Entry) (entry : Entry) → pushed ≡ before ++ entry ∷ [] → IsPermutation pushed after → Opens (map met before) (map met after) entry.label entry.node entry.label
opened before pushed after entry is moved =
    let last : List Entry = entry ∷ [] in
    let comes : IsPermutation (entry ∷ before) after =
    IsPermutation-trans (entry ∷ before) pushed after (subst (λ (xs : List Entry). IsPermutation (entry ∷ before) xs) (sym is) (IsPermutation-append_comm last before)) moved in
    let long : length (map met after) ≡ length (map met before) + 1 = simp length-map (omega (arith, length_permutation (entry ∷ before) after comes)) in
    opens (map met before) (map met after) (NONE - entry.label) entry.label entry.node entry.label (IsPermutation-map met (entry ∷ before) after comes) (omega arith) long

-- Entries are moved, and the last one goes.
pub taken : (before moved : List Met) (after : List Entry) (entry : Entry) → IsPermutation before moved → moved ≡ map met (after ++ entry ∷ []) → Takes before (map met after) (met entry)
taken before moved after entry is at_end =
    let last : List Entry = entry ∷ [] in
    let goes : IsPermutation (map met (after ++ last)) (map met (entry ∷ after)) = IsPermutation-map met (after ++ last) (entry ∷ after) (IsPermutation-append_comm after last) in
    let all : IsPermutation before (met entry ∷ map met after) =
    IsPermutation-trans before moved (met entry ∷ map met after) is (subst (λ (xs : List Met). IsPermutation xs (met entry ∷ map met after)) (sym at_end) goes) in
    takes before (map met after) (met entry) all (omega (arith, length_permutation before (met entry ∷ map met after) all))

-- The entries of a vector are moved in their places.
pub divided : {Z : Type 0} (before : Vec Entry Z) (value after : List Entry) → value ≡ before.items → IsPermutation value after → IsPermutation before.items (with_items before after).items
divided before value after is moved =
    let there : IsPermutation before.items after = subst (λ (xs : List Entry). IsPermutation xs after) is moved in
    let long : length after ≡ before.len = omega (arith, length_permutation before.items after there, before.ok) in
    subst (λ (xs : List Entry). IsPermutation before.items xs) (sym (with_items_is before after long)) there
