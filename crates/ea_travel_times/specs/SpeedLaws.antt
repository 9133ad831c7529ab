-- Travel times by speeds are first in, first out, whatever the speeds are.
use Rattle.std.proofs.Common.{◌≡◌, ℕ, zero, suc, ◌+◌, ◌-◌, ◌*◌, ◌<◌, ◌≤◌, ◌⊎◌, inl, inr, true, false, ap, ◌∙◌, arith, leb}
use Rattle.std.proofs.lemmas.Bool.Decides.{leb_tells}
use Rattle.ea_base.specs.declared.limits.TheConstants.{HORIZON}
use Rattle.ea_travel_times.specs.Speeds.{never, speed_sum, IsArrivalBySpeeds}

-- the least number up to a bound that has enough, or the bound
pub record IsFirst (sum : ℕ → ℕ) (need bound first : ℕ) : Type 0 where
  pub within : first ≤ bound
  pub enough : first < bound → need ≤ sum first
  pub least : (other : ℕ) → need ≤ sum other → first ≤ other

first_more : (sum : ℕ → ℕ) (need bound first : ℕ) → IsFirst sum need bound first → (next : ℕ) × IsFirst sum need (suc bound) next
first_more sum need bound first is =
    elim (leb_tells need (sum first)) [
      | inl has ↦ let enough : need ≤ sum first = has.1 in (first, record { within = omega (arith, is.within); enough = λ _. enough; least = is.least })
      | inr lacks ↦
          let few : sum first < need = lacks.1 in
          let last : first ≡ bound = whole few (leb_tells bound first) in
          (suc first, record { within = omega (arith, last); enough = λ below. absurd (omega (arith, below, last)); least = λ other has. after first few other has (is.least other has) })
    ]
  where
    whole : sum first < need → ((leb bound first ≡ true) × (bound ≤ first)) ⊎ ((leb bound first ≡ false) × (first < bound)) → first ≡ bound
    whole few (inl high) = omega (arith, high.1, is.within)
    whole few (inr low) = let has = is.enough low.1 in absurd (omega (arith, has, few))

    after : (first : ℕ) → sum first < need → (other : ℕ) → need ≤ sum other → first ≤ other → suc first ≤ other
    after first few other has bound = elim (leb_tells other first) [
      | inl low ↦ let same : other ≡ first = omega (arith, low.1, bound) in absurd (omega (arith, ap sum same, few, has))
      | inr high ↦ omega (arith, high.1)
    ]

pub first_of_sums : (sum : ℕ → ℕ) (need bound : ℕ) → (first : ℕ) × IsFirst sum need bound first
first_of_sums sum need zero = (0, record { within = omega arith; enough = λ below. absurd (omega (arith, below)); least = λ other has. omega arith })
first_of_sums sum need (suc bound) = let before = first_of_sums sum need bound in first_more sum need bound before.0 before.1

-- sums of speeds one after the other
pub sum_on : (speed : ℕ → ℕ) (from count more : ℕ) → speed_sum speed from (count + more) ≡ speed_sum speed from count + speed_sum speed (from + count) more
sum_on speed from count zero = let same : count + 0 ≡ count = omega arith in rw same (omega arith)
sum_on speed from count (suc more) =
    let next : count + suc more ≡ suc (count + more) = omega arith in
    let place : from + (count + more) ≡ from + count + more = omega arith in
    rw next (omega (arith, sum_on speed from count more, ap speed place))

-- the sum over the times from one to another
pub sum_between : (speed : ℕ → ℕ) (first middle last : ℕ) → first ≤ middle → middle ≤ last → speed_sum speed first (last - first) ≡ speed_sum speed first (middle - first) + speed_sum speed middle (last - middle)
sum_between speed first middle last early late =
    let count : last - first ≡ (middle - first) + (last - middle) = omega arith in
    let place : first + (middle - first) ≡ middle = omega arith in
    ap (speed_sum speed first) count ∙ sum_on speed first (middle - first) (last - middle) ∙ ap (λ from. speed_sum speed first (middle - first) + speed_sum speed from (last - middle)) place

pub speeds_have_answer : (speed : ℕ → ℕ) (weight departure : ℕ) → departure ≤ HORIZON → (arrival : ℕ) × IsArrivalBySpeeds speed weight departure arrival
speeds_have_answer speed weight departure within =
    let found = first_of_sums (speed_sum speed departure) (1000 * weight) (never - departure) in
    let count : ℕ = found.0 in
    let is : IsFirst (speed_sum speed departure) (1000 * weight) (never - departure) count = found.1 in
    let back : departure + count - departure ≡ count = omega arith in
    let first_within : count ≤ never - departure = is.within in (
      departure + count,
      record {
        not_before = omega arith;
        capped = omega (arith, first_within);
        passed = λ below. rw back (is.enough (omega (arith, below)));
        least = λ other later has. let bound = is.least (other - departure) has in omega (arith, bound, later);
      },
    )

-- who leaves later arrives no earlier
pub speeds_in_order : (speed : ℕ → ℕ) (weight departure later arrival next : ℕ) → IsArrivalBySpeeds speed weight departure arrival → IsArrivalBySpeeds speed weight later next → departure ≤ later → arrival ≤ next
speeds_in_order speed weight departure later arrival next this that order =
    elim (leb_tells never next) [
      | inl past ↦ omega (arith, past.1, this.capped)
      | inr inside ↦
          let reached : 1000 * weight ≤ speed_sum speed later (next - later) = that.passed inside.1 in
          let parts = sum_between speed departure later next order that.not_before in
          this.least next (omega (arith, order, that.not_before)) (omega (arith, reached, parts))
    ]
