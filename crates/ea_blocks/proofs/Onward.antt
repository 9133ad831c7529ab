-- A reader that gets a text in several parts.
use Rattle.std.proofs.Common.{◌≡◌, ℕ, zero, suc, ◌∷◌, ◌-◌, ◌≤◌, List, [], ◌++◌, append-nil, append_assoc, length, length-append, take, drop, arith, ap, sym, ◌∙◌, subst}
use Rattle.std.specs.Prelude.{Option, slice_range}
use Rattle.ea_blocks.specs.Streams.{EndsLine, FeedsOn, HasFed}
use Rattle.ea_blocks.proofs.Cuts.{both_end}
use Rattle.ea_blocks.proofs.Steps.{Step}
use Rattle.ea_blocks.specs.declared.fault.InputFault.{InputFault}

minus_zero : (n : ℕ) → n - 0 ≡ n
minus_zero n = omega arith

minus_both : (n m : ℕ) → suc n - suc m ≡ n - m
minus_both n m = omega arith

-- It gets nothing.
pub gets_nothing : {S : Type 0} (step : Step S) (s : S) (lines : ℕ) (fault : Option InputFault) → FeedsOn step s lines fault s lines fault []
gets_nothing step s lines fault = record {
  fed = λ start before ends fed. subst (λ l. HasFed step start l s lines fault) (sym (append-nil before)) fed;
  lines = omega arith;
}

-- It gets a text, and then another.
pub gets_both : {S : Type 0} (step : Step S) (a b c : S) (i j k : ℕ) (x y z : Option InputFault) (front back : List ℕ) → EndsLine front
    → FeedsOn step a i x b j y front → FeedsOn step b j y c k z back → FeedsOn step a i x c k z (front ++ back)
gets_both step a b c i j k x y z front back ends one two = record {
  fed = λ start before stop fed. subst (λ l. HasFed step start l c k z) (append_assoc before front back) (two.fed start (before ++ front) (both_end before front stop ends) (one.fed start before stop fed));
  lines = omega (arith, one.lines, two.lines, length-append front back);
}

-- The front of a text up to a place, and what follows up to another.
pub front_onward : (text : List ℕ) (from to : ℕ) → from ≤ to → to ≤ length text → take from text ++ slice_range text from to ≡ take to text
front_onward text zero to low inside = ap (λ n. take n text) (minus_zero to)
front_onward [] (suc from) to low inside = absurd (omega (arith, low, inside))
front_onward (b ∷ bs) (suc from) zero low inside = absurd (omega (arith, low))
front_onward (b ∷ bs) (suc from) (suc to) low inside = ap (λ l. b ∷ l) (ap (λ n. take from bs ++ take n (drop from bs)) (minus_both to from) ∙ front_onward bs from to (omega (arith, low)) (omega (arith, inside)))

-- The same of a reader that is as it was.
pub gets_kept : {S : Type 0} (step : Step S) (a b c : S) (i j k : ℕ) (x y z : Option InputFault) (text : List ℕ) → b ≡ a → j ≡ i → y ≡ x → FeedsOn step b j y c k z text → FeedsOn step a i x c k z text
gets_kept step a b c i j k x y z text state lines fault fed =
    subst (λ s. FeedsOn step s i x c k z text) state (subst (λ n. FeedsOn step b n x c k z text) lines (subst (λ f. FeedsOn step b j f c k z text) fault fed))
