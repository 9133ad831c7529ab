use Rattle.std.proofs.Common.{◌≡◌, ◌∷◌, [], rules, tests}
use Rattle.std.specs.Prelude.{Some}
use Rattle.ea_bytes.specs.Text.{number_of}
use Rattle.ea_check.proofs.Matched.{match_weaker}
use Rattle.ea_check.proofs.form.line_form.time_in.Goals as goal

pub returns : goal.returns
returns c =
    let word : c.args.word.now ≡ 100 ∷ [] = search (rules, tests) in
    let place : number_of c.args.place.now ≡ Some c.args.node = rw c.from.ensures at (c.is_number.ensures.0 c.if-not-is_number.false) in
    match_weaker c.time_of.result _ _ _ _ c.time_of.ensures (λ none time says. none time says.2) (λ time says. (word, place, says))
