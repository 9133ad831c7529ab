use Rattle.ea_capi.specs.Checks.{told, unasked}
use Rattle.std.specs.Prelude.{IsTrue}
use Rattle.std.proofs.Common.{rules, sym, subst, ℕ}
use Rattle.ea_check.specs.Checked.{AreCheckable}
use Rattle.ea_capi.proofs.checks.judge.Goals as goal

pub verdict-requires : goal.verdict-requires
verdict-requires c =
    let holds : IsTrue c.is_checkable.result = (let no = c.if-not-is_checkable.false in cc) in
    subst (λ (n : ℕ). AreCheckable c.args.road.now.network n c.args.queries.now) c.classes.ensures (c.is_checkable.ensures.0 holds)

pub returns : goal.returns
returns c = told (subst (λ (n : ℕ). AreCheckable c.args.road.now.network n c.args.queries.now) c.classes.ensures (c.is_checkable.ensures.0 (let no = c.if-not-is_checkable.false in cc))) c.verdict.ensures

pub returns-then-not-is_checkable : goal.returns-then-not-is_checkable
returns-then-not-is_checkable c =
    let not_so : IsTrue c.is_checkable.result → ⊥ = (let yes = c.if-not-is_checkable.true in λ holds. search rules) in
    unasked (λ posed. not_so (c.is_checkable.ensures.1 (subst (λ (n : ℕ). AreCheckable c.args.road.now.network n c.args.queries.now) (sym c.classes.ensures) posed))) c.refusal.ensures
