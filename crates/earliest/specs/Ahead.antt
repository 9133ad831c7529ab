-- What was found of problems before their turn.
use Rattle.std.specs.Prelude.{◌≡◌, ◌≤◌, ℕ, All, IfSome, List, Some, length, slice_get}
use Rattle.ea_base.specs.declared.limits.TheConstants.{MOST_AT_ONCE}
use Rattle.ea_load.specs.Posed.{AreProblems}
use Rattle.ea_load.specs.declared.road.Road.{Road}
use Rattle.ea_options.specs.Limits.{AreOptions}
use Rattle.ea_options.specs.declared.options.RunOptions.{RunOptions}
use Rattle.ea_road.specs.Queries.{Asking}
use Rattle.earliest.specs.Running.{AddsFound}
use Rattle.earliest.specs.declared.ahead.Ahead.{Ahead}
use Rattle.earliest.specs.declared.ahead.Slot.{Slot}
use Rattle.earliest.specs.declared.solver_choice.Found.{Found}

-- Problems on a road, and options.
pub record CanFill (road : Road) (queries : List Asking) (options : RunOptions) : Type 0 where
  pub problems : AreProblems road queries
  pub options_are : AreOptions options

-- It was found of the problem at a place, if there is one.
pub record IsFoundAt (road : Road) (queries : List Asking) (options : RunOptions) (place : ℕ) (found : Found) : Type 0 where
  pub of : (query : Asking) → slice_get queries place ≡ Some query → AddsFound options road query found

-- What is in a slot was found of the problem at its place.
abbrev pub IsFilled : Road → List Asking → RunOptions → Slot → Type 0
IsFilled road queries options slot = IfSome slot.found (IsFoundAt road queries options slot.place)

-- What is in each slot was found of the problem at its place.
pub record AreFilled (road : Road) (queries : List Asking) (options : RunOptions) (ahead : Ahead) : Type 0 where
  pub each : All (IsFilled road queries options) ahead.slots.items
  pub few : length ahead.slots.items ≤ MOST_AT_ONCE

-- Nothing was found yet, so there is nothing that was found of another problem.
pub record IsNew (ahead : Ahead) : Type 0 where
  pub filled : (road : Road) (queries : List Asking) (options : RunOptions) → AreFilled road queries options ahead
