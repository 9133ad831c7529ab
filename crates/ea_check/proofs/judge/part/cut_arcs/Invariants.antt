use Rattle.std.proofs.Common.{◌+◌, ◌≤◌, ◌<◌, ◌≡◌, ℕ, get_or, length}
use Rattle.ea_check.specs.declared.judge.part.Part.{Part}
use Rattle.ea_check.specs.Parts.{IsInPart, IsPart}
use Rattle.ea_check.proofs.judge.part.cut_arcs.Given as goal

abbrev pub invariant-loop : goal.invariant-loop
invariant-loop l = record {
  from_one : 0 < l.from;
  to_last : l.from ≤ length l.network.arcs + 1;
  few : length l.parts.items + 1 ≡ l.counter;
  each : (place : ℕ) (part : Part) → place < length l.parts.items → IsPart l.network (get_or l.parts.items place part);
  cover : (number : ℕ) → 0 < number → number < l.from → IsInPart l.parts.items number;
}
