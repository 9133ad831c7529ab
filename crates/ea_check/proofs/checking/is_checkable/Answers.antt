use Rattle.std.proofs.Common.{◌≡◌, ◌∙◌, ℕ, false, refl, sym, true}
use Rattle.std.proofs.lemmas.Bool.{false≢true}
use Rattle.std.specs.Option.{is_some}
use Rattle.std.specs.Prelude.{Option, Some, None}
use Rattle.ea_road.specs.Queries.{IsProblem}
use Rattle.ea_check.proofs.Sourced.{more_queries}
use Rattle.ea_check.proofs.checking.is_checkable.Goals.{then-is_some-via-then-is_some, then-is_some-via-else-is_some+then-not-is_problem}
use Rattle.ea_check.proofs.checking.is_checkable.Goals as goal

is_none : (target : Option ℕ) → is_some target ≡ false → target ≡ None
is_none None same = refl
is_none (Some node) same = absurd (false≢true (sym same))

not_none : (target : Option ℕ) → is_some target ≡ true → target ≡ None → ⊥
not_none None same none = false≢true same
not_none (Some node) same none = cc

pub returns-then-is_some : goal.returns-then-is_some
returns-then-is_some c = (
  λ no. absurd (false≢true no),
  λ each.
      let here = each c.query-item.result (c.loop-query.query-index, (c.loop-query-test.true, c.query-item.is)) in
      absurd (elim c.then-is_some.branch [
        | then-is_some-via-then-is_some w ↦ not_none c.target.result (sym c.is_some.ensures ∙ w.if-is_some.true) (c.target.ensures.target ∙ here.1)
        | then-is_some-via-else-is_some+then-not-is_problem w ↦ false≢true (sym w.if-not-is_problem.true ∙ w.is_problem.ensures.1 here.0)
      ]),
)

pub loop-query-preserved : goal.loop-query-preserved
loop-query-preserved c =
    more_queries c.args.queries.now (λ query. IsProblem c.args.network.now c.args.classes query × (query.target ≡ None)) c.loop-query.query-index c.query-item.result c.query-item.is c.loop-query-test.true
    (c.is_problem.ensures.0 c.if-not-is_problem.false, sym c.target.ensures.target ∙ is_none c.target.result (sym c.is_some.ensures ∙ c.if-is_some.false))
    c.loop-query.invariant
