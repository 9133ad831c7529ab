-- Entries that come and go.
use Rattle.std.proofs.Common.{◌≡◌, ℕ, zero, suc, ◌+◌, ◌-◌, ◌≤◌, ◌⊎◌, inl, inr, refl, ap, sym, subst, arith, List, [], ◌∷◌, ◌++◌, append_assoc, length, Contains}
use Rattle.std.specs.List.Sorted.{IsPermutation}
use Rattle.std.proofs.lemmas.List.Sorted.{Contains-permutation, IsPermutation-append_comm, IsPermutation-sym}
use Rattle.ea_goal.specs.Frontiers.{IsKeyed, Opens, Takes}
use Rattle.ea_goal.specs.declared.frontier.Entry.{Entry}
use Rattle.ea_goal.specs.declared.frontier.TheConstants.{FARTHEST}

at_front : (e : Entry) (es : List Entry) → Contains (e ∷ es) e
at_front e es = (0, omega arith, refl)

behind : (e other : Entry) (es : List Entry) → Contains es other → Contains (e ∷ es) other
behind e other es there = (suc there.0, omega (arith, there.1), there.2)

front_or_behind : (e other : Entry) (es : List Entry) → Contains (e ∷ es) other → (e ≡ other) ⊎ Contains es other
front_or_behind e other es (zero, inside, is) = inl is
front_or_behind e other es (suc place, inside, is) = inr (place, omega (arith, inside), is)

pub opens : (entries after : List Entry) (nearness label node key : ℕ) → IsPermutation (record { nearness = nearness; label = label; node = node } ∷ entries) after → FARTHEST - nearness ≤ key → length after ≡ length entries + 1 → Opens entries after label node key
opens entries after nearness label node key moved near long = record {
  there = record { nearness = nearness; there = Contains-permutation (it ∷ entries) after it moved (at_front it entries) };
  kept = λ time other waits. record { nearness = waits.nearness; there = Contains-permutation (it ∷ entries) after _ moved (behind it _ entries waits.there) };
  came = λ time other waits. elim (back (record { nearness = waits.nearness; label = time; node = other }) waits.there) [
    | inl same ↦ inr (sym (ap (λ (e : Entry). e.label) same), sym (ap (λ (e : Entry). e.node) same))
    | inr old ↦ inl (record { nearness = waits.nearness; there = old })
  ];
  keyed = λ bound low are other there. elim (back other there) [
    | inl same ↦ subst (λ (e : Entry). IsKeyed bound e) same (omega (arith, near, low))
    | inr old ↦ are other old
  ];
  long = long;
}
  where
    it : Entry
    it = record { nearness = nearness; label = label; node = node }

    back : (other : Entry) → Contains after other → (it ≡ other) ⊎ Contains entries other
    back other there = front_or_behind it other entries (Contains-permutation after (it ∷ entries) other (IsPermutation-sym (it ∷ entries) after moved) there)

pub takes : (entries after : List Entry) (entry : Entry) → IsPermutation entries (entry ∷ after) → length after + 1 ≡ length entries → Takes entries after entry
takes entries after entry moved long = record {
  here = Contains-permutation (entry ∷ after) entries entry (IsPermutation-sym entries (entry ∷ after) moved) (at_front entry after);
  rest = λ time other waits. elim (front_or_behind entry (record { nearness = waits.nearness; label = time; node = other }) after (Contains-permutation entries (entry ∷ after) _ moved waits.there)) [
    | inl same ↦ inr (sym (ap (λ (e : Entry). e.label) same), sym (ap (λ (e : Entry). e.node) same))
    | inr old ↦ inl (record { nearness = waits.nearness; there = old })
  ];
  fewer = λ other there. Contains-permutation (entry ∷ after) entries other (IsPermutation-sym entries (entry ∷ after) moved) (behind entry other after there);
  long = long;
}

-- what is last on the stack is at the front of a permutation
pub last_in_front : (heap stack : List Entry) (entry : Entry) → IsPermutation (entry ∷ (heap ++ stack)) (heap ++ (stack ++ (entry ∷ [])))
last_in_front heap stack entry = subst (λ (xs : List Entry). IsPermutation (entry ∷ (heap ++ stack)) xs) (append_assoc heap stack (entry ∷ [])) (IsPermutation-append_comm (entry ∷ []) (heap ++ stack))

pub front_of_last : (heap stack : List Entry) (entry : Entry) → IsPermutation (heap ++ (stack ++ (entry ∷ []))) (entry ∷ (heap ++ stack))
front_of_last heap stack entry = IsPermutation-sym (entry ∷ (heap ++ stack)) (heap ++ (stack ++ (entry ∷ []))) (last_in_front heap stack entry)
