-- What it is for texts to denote values or to have faults.
use Rattle.std.specs.Prelude.{◌≡◌, ◌⊎◌, List}
use Rattle.ea_input.specs.Checks.{Line, Format, IsFaultOf}
use Rattle.ea_blocks.specs.declared.fault.InputFault.{InputFault}

-- Lines denote at most one value and have at most one fault, and exactly one of the two.
pub record IsGrammar {X : Type 0} (Denotes : List Line → X → Type 0) (format : Format) : Type 0 where
  pub one_value : (lines : List Line) (x y : X) → Denotes lines x → Denotes lines y → x ≡ y
  pub one_fault : (lines : List Line) (f g : InputFault) → IsFaultOf format lines f → IsFaultOf format lines g → f ≡ g
  pub some_of_both : (lines : List Line) → ((x : X) × Denotes lines x) ⊎ ((f : InputFault) × IsFaultOf format lines f)
  pub not_both : (lines : List Line) (x : X) (f : InputFault) → Denotes lines x → IsFaultOf format lines f → ⊥
