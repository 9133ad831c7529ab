use mathlib.Core.Path.{◌≡◌, subst}
use mathlib.Core.List.{List}
use Prim.Native.Nat.{ℕ, ◌+◌, ◌-◌, ◌*◌}
use native.Mathlib.Nat.{one-mul}
use native.Mathlib.Omega.{arith}
use Rattle.std.specs.Fork.{AcceptsAt, ChangesAt}
use Rattle.std.specs.Fork.Halves.{IsChunked}
use Rattle.ea_fork_join.proofs.Parts.{low_inside, by_both, ready_halves}
use Rattle.ea_fork_join.proofs.beside_join.+beside.Goals as goal

pub parts_beside-returns-then-count-eq1 : goal.parts_beside-returns-then-count-eq1
parts_beside-returns-then-count-eq1 g t c = record { row = c.part_beside.ensures.part; beside = c.part_beside.ensures.beside }

pub parts_beside-split_at_mut-first-requires : goal.parts_beside-split_at_mut-first-requires
parts_beside-split_at_mut-first-requires g t c =
    let inside = low_inside _ 1 _ _ (omega (arith, c.requires.row.covers.0)) c.requires.row.covers in
    omega (arith, one-mul c.args.size)

pub parts_beside-overflow_add-of_rest : goal.parts_beside-overflow_add-of_rest
parts_beside-overflow_add-of_rest g t c =
    let inside = low_inside _ 1 _ _ (omega (arith, c.requires.row.covers.0)) c.requires.row.covers in
    record { fits = omega (arith, one-mul c.args.size, c.requires.row.room) }

pub parts_beside-first_beside_rest-requires-clause-first : goal.parts_beside-first_beside_rest-requires-clause-first
parts_beside-first_beside_rest-requires-clause-first g t c κs within =
    let P : ℕ → List g.row.T.Denot → Type 0 = AcceptsAt g.F.Fn c.args.f.now in
    let cut = c.split_at_mut-first in
    let one : ℕ = 1 in
    (ready_halves P c.args.base c.args.size c.args.count one c.args.row.now cut.result.0.now cut.result.1.now
    (omega arith) (omega (arith, c.requires.row.covers.0)) cut.ensures.value (omega (arith, one-mul c.args.size, cut.ensures.front_len)) c.requires.row).0

pub parts_beside-first_beside_rest-requires-clause-rest : goal.parts_beside-first_beside_rest-requires-clause-rest
parts_beside-first_beside_rest-requires-clause-rest g t c κs within =
    let P : ℕ → List g.row.T.Denot → Type 0 = AcceptsAt g.F.Fn c.args.f.now in
    let cut = c.split_at_mut-first in
    let one : ℕ = 1 in
    let next : c.args.base + one * c.args.size ≡ c.args.base + c.args.size = omega (arith, one-mul c.args.size) in
    let both = ready_halves P c.args.base c.args.size c.args.count one c.args.row.now cut.result.0.now cut.result.1.now
    (omega arith) (omega (arith, c.requires.row.covers.0)) cut.ensures.value (omega (arith, one-mul c.args.size, cut.ensures.front_len)) c.requires.row in
    subst (λ n. IsChunked P n c.args.size (c.args.count - 1) cut.result.1.now) next both.1

pub parts_beside-returns-clause-row : goal.parts_beside-returns-clause-row
parts_beside-returns-clause-row g t c =
    let cut = c.split_at_mut-first in
    let one : ℕ = 1 in
    by_both (ChangesAt g.F.Fn c.args.f.now) c.args.base c.args.size one _ _ _ _ _ _
    c.requires.row.covers.1 cut.ensures.value (omega (arith, one-mul c.args.size, cut.ensures.front_len)) (omega (arith, one-mul c.args.size))
    c.first_beside_rest.ensures.first c.first_beside_rest.ensures.rest
