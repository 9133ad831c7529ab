-- The last kind of a timetable.
use Rattle.std.proofs.Common.{◌≡◌, suc, ◌-◌, refl, ap, ◌∙◌, arith, List, [], ◌∷◌, ◌++◌, length, slice_index_or}
use Rattle.ea_input.specs.Table.{last_kind}
use Rattle.ea_base.specs.declared.timetable.RawKind.{RawKind}
use Rattle.ea_base.specs.declared.timetable.RawKind.TheVariants.{Plain}

pub last_read : (kinds : List RawKind) → slice_index_or kinds (length kinds - 1) Plain ≡ last_kind kinds
last_read [] = refl
last_read (kind ∷ []) = refl
last_read (kind ∷ other ∷ kinds) =
    let place : length (kind ∷ other ∷ kinds) - 1 ≡ suc (length (other ∷ kinds) - 1) = omega arith in
    ap (λ n. slice_index_or (kind ∷ other ∷ kinds) n Plain) place ∙ last_read (other ∷ kinds)

pub last_more : (kinds : List RawKind) (kind : RawKind) → last_kind (kinds ++ kind ∷ []) ≡ kind
last_more [] kind = refl
last_more (first ∷ []) kind = refl
last_more (first ∷ other ∷ kinds) kind = last_more (other ∷ kinds) kind
