-- The first asked nodes have labels below a time.
use Rattle.std.proofs.Common.{◌≡◌, ℕ, ◌+◌, ◌<◌, ◌≤◌, max, arith, inl, inr, ap, sym, ◌∙◌, List, length, Contains}
use Rattle.std.proofs.lemmas.Bool.Decides.{leb_tells}
use Rattle.std.proofs.lemmas.List.{get_or_default}
use Rattle.std.specs.Prelude.{All, slice_index}
use Rattle.ea_road.specs.Labels.{label_of}
use Rattle.ea_road.specs.Roads.{IsNode}
use Rattle.ea_asked.specs.Seeking.{IsPassed}
use Rattle.ea_asked.specs.declared.passed.Passed.{Passed}

-- one more node is passed
pub passed_more : (table asked : List ℕ) (passed : Passed) → passed.count < length asked → IsPassed table asked passed → IsPassed table asked (record { count = passed.count + 1; time = max passed.time (label_of table (slice_index asked passed.count) + 1) })
passed_more table asked passed inside before = record {
  inside = omega (arith, inside);
  below = λ place early. elim (leb_tells passed.count place) [
    | inl this ↦
        let same : place ≡ passed.count = omega (arith, this.1, early) in
        let is : label_of table (slice_index asked place) ≡ label_of table (slice_index asked passed.count) = ap (λ k. label_of table (slice_index asked k)) same in
        omega (arith, is)
    | inr earlier ↦ (let low = before.below place earlier.1 in omega (arith, low))
  ];
}

-- labels fell
pub passed_lower : (table after asked : List ℕ) (nodes : ℕ) (passed : Passed) → All (IsNode nodes) asked → ((node : ℕ) → 0 < node → label_of after node ≤ label_of table node) → IsPassed table asked passed → IsPassed after asked passed
passed_lower table after asked nodes passed are lower before = record {
  inside = before.inside;
  below = λ place early.
      let inside = before.inside in
      let from : 0 < slice_index asked place = (are place 0 (omega (arith, inside, early))).from_one in
      let low = lower (slice_index asked place) from in
      let was = before.below place early in
      omega (arith, low, was);
}

-- all are passed
pub passed_all : (table asked : List ℕ) (passed : Passed) (time node : ℕ) → passed.count ≡ length asked → passed.time ≤ time → IsPassed table asked passed → Contains asked node → label_of table node < time
passed_all table asked passed time node all early is there =
    let low = is.below there.0 (omega (arith, all, there.1)) in
    let same : slice_index asked there.0 ≡ node = sym (get_or_default asked there.0 node 0 there.1) ∙ there.2 in
    let at : label_of table (slice_index asked there.0) ≡ label_of table node = ap (label_of table) same in
    omega (arith, low, at, early)
