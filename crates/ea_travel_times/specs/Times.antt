-- The least time of a residue at or after a departure.
use Rattle.std.proofs.Common.{◌≡◌, ℕ, ◌+◌, ◌-◌, ◌*◌, ◌/◌, ◌%◌, ◌<◌, ◌≤◌, ◌⊎◌, inl, inr, refl, ap, arith}
use Rattle.std.proofs.Math.Nat.{mul-le-mul_left, div-add-mod}
use Rattle.std.proofs.lemmas.Nat.{mod-mul-add}
use Rattle.std.proofs.lemmas.Bool.Decides.{leb_tells}
use Rattle.ea_travel_times.specs.Timetables.{IsNextTime}

pub mod_of : (period turn offset : ℕ) → offset < period → (period * turn + offset) % period ≡ offset
mod_of period turn offset below =
    let e : period * turn ≡ turn * period = omega arith in
    rw e (mod-mul-add turn period offset below)

reached_of : (period offset departure turn other count : ℕ) → count ≡ other / period → turn ≤ count → other % period ≡ offset → period * turn + offset ≤ other
reached_of period offset departure turn other count is later same =
    let parts = div-add-mod other period in
    let product : period * count ≡ period * (other / period) = ap (λ n. period * n) is in
    omega (arith, mul-le-mul_left period later, parts, product)

not_earlier : (period offset departure turn other count : ℕ) → count ≡ other / period → count + 1 ≤ turn → period * turn + offset < departure + period → other % period ≡ offset → other < departure
not_earlier period offset departure turn other count is earlier near same =
    let parts = div-add-mod other period in
    let product : period * count ≡ period * (other / period) = ap (λ n. period * n) is in
    omega (arith, mul-le-mul_left period earlier, parts, product)

least_of : (period offset departure turn other : ℕ) → period * turn + offset < departure + period → departure ≤ other → other % period ≡ offset → period * turn + offset ≤ other
least_of period offset departure turn other near later same =
    elim (turn_tells turn (other / period)) [
      | inl reached ↦ reached_of period offset departure turn other (other / period) refl reached same
      | inr earlier ↦
          let before = not_earlier period offset departure turn other (other / period) refl earlier near same in
          absurd (omega arith)
    ]
  where
    turn_tells : (turn count : ℕ) → (turn ≤ count) ⊎ (count + 1 ≤ turn)
    turn_tells turn count = elim (leb_tells turn count) [ inl low ↦ inl low.1 | inr high ↦ inr (omega (arith, high.1)) ]

pub next_at : (period offset departure turn time : ℕ) → offset < period → departure ≤ period * turn + offset → period * turn + offset < departure + period → time ≡ period * turn + offset → IsNextTime period offset departure time
next_at period offset departure turn time below after near is = record {
  not_before = omega arith;
  on_offset = rw is (mod_of period turn offset below);
  least = λ other later same. let bound = least_of period offset departure turn other near later same in omega arith;
}

pub next_this_turn : (period offset departure : ℕ) → offset < period → departure % period ≤ offset → IsNextTime period offset departure (departure + (offset - departure % period))
next_this_turn period offset departure below early =
    let parts = div-add-mod departure period in
    next_at period offset departure (departure / period) _ below (omega (arith, parts)) (omega (arith, parts)) (omega (arith, parts))

pub next_turn : (period offset departure : ℕ) → offset < period → offset < departure % period → IsNextTime period offset departure (departure + (period - departure % period) + offset)
next_turn period offset departure below late =
    let parts = div-add-mod departure period in
    let more : period * (departure / period + 1) ≡ period * (departure / period) + period = omega arith in
    next_at period offset departure (departure / period + 1) _ below (omega (arith, parts, more)) (omega (arith, parts, more)) (omega (arith, parts, more))
