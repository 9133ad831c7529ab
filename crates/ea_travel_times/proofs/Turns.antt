-- What is left of a sum after whole periods, of which the last begins before the sum is reached.
use Rattle.std.proofs.Common.{◌≡◌, ℕ, ◌-◌, ◌*◌, ◌/◌, ◌<◌, ◌≤◌, ◌⊎◌, inl, inr, arith}
use Rattle.std.proofs.lemmas.Nat.{div-add-mod', mod_below}

pub record AreTurns (whole sum turns : ℕ) : Type 0 where
  pub some_left : turns * whole < sum
  pub last : sum - turns * whole ≤ whole

pub turns_of : (whole sum turns : ℕ) → 0 < whole → 0 < sum → ((sum ≤ whole) × (turns ≡ 0)) ⊎ (turns ≡ (sum - 1) / whole) → AreTurns whole sum turns
turns_of whole sum turns some from_one (inl few) = rw few.1 (record { some_left = omega arith; last = omega (arith, few.0) })
turns_of whole sum turns some from_one (inr many) =
    let parts = div-add-mod' (sum - 1) whole in
    let rest = mod_below (sum - 1) whole some in
    rw many (record { some_left = omega arith; last = omega arith })
