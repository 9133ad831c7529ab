use Rattle.std.proofs.Common.{◌∙◌, List, ℕ, ◌++◌, ◌∷◌, [], ap, arith, subst}
use Rattle.ea_check.specs.declared.form.run.LinesFound.{LinesFound}
use Rattle.std.specs.Prelude.{Option}
use Rattle.ea_check.specs.Pieces.{AreFound}
use Rattle.ea_check.proofs.Pieces.{joined}
use Rattle.ea_check.proofs.form.run.join_run.Goals as goal

pub returns-clause-joined : goal.returns-clause-joined
returns-clause-joined c =
    let old = c.args.times.now.items in
    let run = c.args.run.now in
    let found = subst (λ (f : Option LinesFound). AreFound c.args.way c.args.text.now c.args.last run.times.items run.from f) c.in-Some.is c.requires.run in
    joined c.args.way c.args.text.now c.args.last c.args.before c.in-Some.found old run.times.items _ c.in-Some-first_time.time c.in-Some-first_time.size _ run.from c.requires.before found c.in-Some-first_time.ensures (omega (arith, c.from.ensures, c.len-len.ensures, c.args.times.now.ok.0)) c.if-before-size.false (omega (arith, c.if-node-from.false, c.from-else-before-size.ensures))
    (c.in-Ok-extend_from_slice.ensures.items ∙ ap (λ (l : List ℕ). l ++ c.deref.result.now) c.in-Ok.ensures.items ∙ ap (λ (l : List ℕ). (old ++ c.in-Some-first_time.time ∷ []) ++ l) c.deref.ensures.value)
