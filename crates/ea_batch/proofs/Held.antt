-- A property of each element of a list that grows at its end and is consumed from its front.
use Rattle.std.proofs.Common.{ℕ, ◌+◌, ◌<◌, List, ◌++◌, length, get_or, subst, arith, length-append}
use Rattle.std.proofs.lemmas.List.{get_or_append_left, get_or-append-add}

module _ {X : Type 0} (P : X → Type 0) (front back : List X) (held : (k : ℕ) (d : X) → k < length (front ++ back) → P (get_or (front ++ back) k d)) where
  -- It holds of what is taken,
  pub held_in_front : (k : ℕ) (d : X) → k < length front → P (get_or front k d)
  held_in_front k d inside = subst P (get_or_append_left front back d k inside) (held k d (omega (arith, inside, length-append front back)))

  -- and of what is left.
  pub held_behind : (k : ℕ) (d : X) → k < length back → P (get_or back k d)
  held_behind k d inside = subst P (get_or-append-add front back k d) (held (length front + k) d (omega (arith, inside, length-append front back)))
