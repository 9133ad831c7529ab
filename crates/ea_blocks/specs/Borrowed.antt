-- The texts behind references.
use Rattle.std.specs.Prelude.{ℕ, List, map, Result, Ok, Err}
use Rattle.std.specs.Borrow.{Bor}
use Rattle.ea_blocks.specs.declared.fault.FaultKind.{FaultKind}

abbrev pub texts_now : List (Bor (List ℕ)) → List (List ℕ)
texts_now fields = map (λ field. field.now) fields

abbrev pub result_now : Result (Bor (List (Bor (List ℕ)))) FaultKind → Result (List (List ℕ)) FaultKind
result_now (Ok fields) = Ok (texts_now fields.now)
result_now (Err kind) = Err kind
