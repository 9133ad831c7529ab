-- One assignment more changes the class of its arc alone.
use Rattle.std.proofs.Common.{◌≡◌, ◌≢◌, ◌∙◌, refl, ℕ, ◌+◌, Bool, true, false, List, [], ◌∷◌, ◌++◌, length, arith, eq-eqb, eqb-true}
use Rattle.std.specs.Prelude.{◌==◌, if◌then◌else◌}
use Rattle.ea_base.specs.declared.graph.RawArc.{RawArc}
use Rattle.ea_road.specs.Assigned.{arcs_from, class_after, class_of}

choose_same : (number place class other : ℕ) → number ≡ place → (if number == place then class else other) ≡ class
choose_same number place class other same = by_test (number == place) (eq-eqb _ _ same)
  where
    by_test : (b : Bool) → b ≡ true → (if b then class else other) ≡ class
    by_test true e = refl
    by_test false e = cc

choose_other : (number place class other : ℕ) → number ≢ place → (if number == place then class else other) ≡ other
choose_other number place class other differs = by_test (number == place) refl
  where
    by_test : (b : Bool) → (number == place) ≡ b → (if b then class else other) ≡ other
    by_test true e = absurd (differs (eqb-true _ _ e))
    by_test false e = refl

after_push : (assigned : List (ℕ × ℕ)) (given : ℕ × ℕ) (number class : ℕ) → class_after (assigned ++ given ∷ []) number class ≡ (if given.0 == number then given.1 else class_after assigned number class)
after_push [] given number class = refl
after_push (first ∷ rest) given number class = after_push rest given number (if first.0 == number then first.1 else class)

pub same_class : (assigned : List (ℕ × ℕ)) (number class place : ℕ) → number ≡ place → class_of (assigned ++ (number, class) ∷ []) place ≡ class
same_class assigned number class place same = after_push assigned (number, class) place 0 ∙ choose_same number place class _ same

pub other_class : (assigned : List (ℕ × ℕ)) (number class place : ℕ) → number ≢ place → class_of (assigned ++ (number, class) ∷ []) place ≡ class_of assigned place
other_class assigned number class place differs = after_push assigned (number, class) place 0 ∙ choose_other number place class _ differs

pub length-arcs_from : (assigned : List (ℕ × ℕ)) (first : ℕ) (raw : List RawArc) → length (arcs_from assigned first raw) ≡ length raw
length-arcs_from assigned first [] = refl
length-arcs_from assigned first (arc ∷ rest) = let more = length-arcs_from assigned (first + 1) rest in omega arith
