-- Lists: what they contain, and what lies at a place.
use Rattle.std.proofs.Common.{◌≡◌, refl, ℕ, zero, suc, ◌+◌, ◌<◌, ◌≤◌, List, [], ◌∷◌, ◌++◌, length, map, take, get_or, ◌⊎◌, inl, inr, arith, subst}
use Rattle.std.specs.Prelude.{Contains}
use Rattle.std.proofs.lemmas.List.{length-map, length-take-le, map-append, take_more}

pub Contains-head : {A : Type 0} (x : A) (xs : List A) → Contains (x ∷ xs) x
Contains-head x xs = (0, omega arith, refl)

pub Contains-later : {A : Type 0} (x y : A) (xs : List A) → Contains xs y → Contains (x ∷ xs) y
Contains-later x y xs inside = (suc inside.0, omega (arith, inside.1), inside.2)

pub Contains-tail : {A : Type 0} (x : A) (xs : List A) (y : A) → Contains (x ∷ xs) y → (x ≡ y) ⊎ Contains xs y
Contains-tail x xs y (zero, low, same) = inl same
Contains-tail x xs y (suc place, low, same) = inr (place, omega (arith, low), same)

-- the place of a list does not depend on the default
pub any_default : {A : Type 0} (xs : List A) (place : ℕ) (default other : A) → place < length xs → get_or xs place default ≡ get_or xs place other
any_default [] place default other inside = absurd (omega (arith, inside))
any_default (x ∷ xs) zero default other inside = refl
any_default (x ∷ xs) (suc place) default other inside = any_default xs place default other (omega (arith, inside))

pub at_place : (xs ys : List ℕ) (place : ℕ) → xs ≡ ys → place < length xs → Contains ys (get_or xs place 0)
at_place xs ys place same inside = subst (λ zs. Contains zs (get_or xs place 0)) same (place, inside, any_default xs place (get_or xs place 0) 0 inside)

-- a list that grows by what lies at the places of another
pub more_taken : {A : Type 0} (xs : List A) (place : ℕ) (default : A) (items : List A) → items ≡ take place xs → place < length xs → items ++ get_or xs place default ∷ [] ≡ take (place + 1) xs
more_taken xs place default items before inside = rw (take_more xs place default inside, before) refl

pub more_mapped : {A B : Type 0} (f : A → B) (xs : List A) (place : ℕ) (default : A) (items : List B) → items ≡ map f (take place xs) → place < length xs → items ++ f (get_or xs place default) ∷ [] ≡ map f (take (place + 1) xs)
more_mapped f xs place default items before inside =
    rw (take_more xs place default inside, map-append f (take place xs) (get_or xs place default ∷ []), before) refl

pub room_for_more : {A B : Type 0} (f : A → B) (xs : List A) (place : ℕ) (items : List B) (room : ℕ) → items ≡ map f (take place xs) → place < length xs → length xs ≤ room → length items < room
room_for_more f xs place items room before inside enough =
    rw (before, length-map (take place xs) f, length-take-le place xs (omega arith)) (omega arith)
