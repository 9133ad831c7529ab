use Rattle.std.proofs.Common.{◌≡◌, ◌⊎◌, ℕ, ◌<◌, ◌≤◌, get_or}
use Rattle.ea_check.specs.declared.judge.part.Part.{Part}
use Rattle.ea_check.proofs.judge.part.lowest_of.Given as goal

abbrev pub invariant-loop-part : goal.invariant-loop-part
invariant-loop-part l = record {
  lower : l.lowest ≤ l.above;
  found : (l.lowest ≡ l.above) ⊎ ((place : ℕ) × (place < l.part-index) × ((part : Part) → (get_or l.parts place part).lowest ≡ l.lowest));
  least : (place : ℕ) (part : Part) → place < l.part-index → l.lowest ≤ (get_or l.parts place part).lowest;
}
