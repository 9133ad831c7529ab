use borrow.Author.Rules.{rules}
use mathlib.Core.Path.{◌≡◌, refl, subst}
use mathlib.Core.List.{List}
use Prim.Native.Nat.{ℕ, ◌+◌, ◌-◌, ◌*◌, ◌<◌}
use native.Mathlib.Nat.{one-mul}
use native.Mathlib.Omega.{arith}
use Rattle.std.specs.Fork.{AcceptsAt, ChangesAt}
use Rattle.std.specs.Fork.Halves.{IsChunked}
use Rattle.ea_fork_join.proofs.Parts.{covers_one, low_inside, at_only, by_only, by_both, ready_halves}
use Rattle.ea_fork_join.proofs.rows.+parts.Goals as goal

pub parts_from-f-requires : goal.parts_from-f-requires
parts_from-f-requires g t c =
    let one = covers_one _ _ _ c.if-count-eq1.true c.requires.covers in
    at_only (AcceptsAt g.F.Fn c.args.f.now) c.args.base c.args.size c.args.row.now one.0 one.1 c.requires.each _ refl

pub parts_from-returns-then-count-eq1 : goal.parts_from-returns-then-count-eq1
parts_from-returns-then-count-eq1 g t c =
    by_only (ChangesAt g.F.Fn c.args.f.now) c.args.base c.args.size c.args.row.now c.f.new.arg3
    (covers_one _ _ _ c.if-count-eq1.true c.requires.covers).1 (search rules) (search rules)

pub parts_from-split_at_mut-first-requires : goal.parts_from-split_at_mut-first-requires
parts_from-split_at_mut-first-requires g t c =
    let inside = low_inside _ 1 _ _ (omega (arith, c.requires.covers.0)) c.requires.covers in
    omega (arith, one-mul c.args.size)

pub parts_from-overflow_add-of_rest : goal.parts_from-overflow_add-of_rest
parts_from-overflow_add-of_rest g t c =
    let inside = low_inside _ 1 _ _ (omega (arith, c.requires.covers.0)) c.requires.covers in
    record { fits = omega (arith, one-mul c.args.size, c.requires.room) }

pub parts_from-first_and_rest-requires : goal.parts_from-first_and_rest-requires
parts_from-first_and_rest-requires g t c κs within =
    let P : ℕ → List g.row.T.Denot → Type 0 = AcceptsAt g.F.Fn c.args.f.now in
    let cut = c.split_at_mut-first in
    let one : ℕ = 1 in
    let next : c.args.base + one * c.args.size ≡ c.args.base + c.args.size = omega (arith, one-mul c.args.size) in
    let both = ready_halves P c.args.base c.args.size c.args.count one c.args.row.now cut.result.0.now cut.result.1.now
    (omega arith) (omega (arith, c.requires.covers.0)) cut.ensures.value (omega (arith, one-mul c.args.size, cut.ensures.front_len)) c.requires in
    let some : 0 < c.args.count = c.requires.covers.0 in (
      search rules,
      (
        within.0,
        (
          within.1.0,
          (
            within.1.1,
            (
              search rules,
              (
                search rules,
                (
                  search rules,
                  (
                    both.0,
                    subst (λ n. IsChunked P n c.args.size (c.args.count - 1) cut.result.1.now) next both.1,
                  ),
                ),
              ),
            ),
          ),
        ),
      ),
    )

pub parts_from-returns : goal.parts_from-returns
parts_from-returns g t c =
    let cut = c.split_at_mut-first in
    let one : ℕ = 1 in
    by_both (ChangesAt g.F.Fn c.args.f.now) c.args.base c.args.size one _ _ _ _ _ _
    c.requires.covers.1 cut.ensures.value (omega (arith, one-mul c.args.size, cut.ensures.front_len)) (omega (arith, one-mul c.args.size))
    c.first_and_rest.ensures.first c.first_and_rest.ensures.rest
