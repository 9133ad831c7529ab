use Rattle.std.proofs.Common.{◌≡◌, All, List, length}
use Rattle.ea_load.specs.declared.road.Road.{Road}
use Rattle.ea_options.specs.declared.options.RunOptions.{RunOptions}
use Rattle.ea_road.specs.Queries.{Asking}
use Rattle.earliest.specs.Ahead.{IsFilled}
use Rattle.earliest.proofs.ahead.slots_for.Given as goal

abbrev pub invariant-loop-place : goal.invariant-loop-place
invariant-loop-place l = record {
  long : length l.slots.items ≡ l.place;
  filled : (road : Road) (queries : List Asking) (options : RunOptions) → All (IsFilled road queries options) l.slots.items;
}
