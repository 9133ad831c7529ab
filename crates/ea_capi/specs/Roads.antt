-- The outcomes of a call that makes a road.
use Rattle.std.specs.Prelude.{◌≡◌, ℕ, List, Option, Some}
use Rattle.ea_base.specs.declared.direction.Direction.TheVariants.{Forward}
use Rattle.ea_load.specs.declared.road.Road.{Road}
use Rattle.ea_load.specs.declared.file_fault.FileFault.{FileFault}
use Rattle.ea_load.specs.Given.{Given, Denotes, IsRoadOf}
use Rattle.ea_load.specs.Texts.{IsTextFault, text_if_any}
use Rattle.ea_capi.specs.declared.handle.content.Content.{Content}
use Rattle.ea_capi.specs.declared.fault_numbers.Fault.{Fault}
use Rattle.ea_capi.specs.Faults.{told, no_fault}
use Rattle.ea_capi.specs.States.{road_in}

-- The handle holds the road of the texts; or it is unchanged, and the fault is the texts' first, or refused
-- memory.
pub data IsRead (gr tp : List ℕ) (old new : Option Content) (fault : Fault) (number : ℕ) : Type 0 where
  read : (given : Given) (road : Road) → Denotes gr (text_if_any tp) given → IsRoadOf Forward given road → road_in new ≡ Some road → fault ≡ no_fault → number ≡ 0 → IsRead gr tp old new fault number
  refused : (found : FileFault) → IsTextFault gr tp found → fault ≡ told found → number ≡ (told found).number → new ≡ old → IsRead gr tp old new fault number

-- The handle holds this road; or it is unchanged, and memory was refused.
pub data IsKept (road : Road) (old new : Option Content) (number : ℕ) : Type 0 where
  kept : road_in new ≡ Some road → number ≡ 0 → IsKept road old new number
  no_memory : new ≡ old → number ≡ 13 → IsKept road old new number
