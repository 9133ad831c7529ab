use Rattle.std.proofs.Common.{◌∷◌, []}
use Rattle.ea_check.proofs.Matched.{match_fields}
use Rattle.ea_check.proofs.form.line_form.time_said.Goals as goal

pub returns-in-Some-three_fields : goal.returns-in-Some-three_fields
returns-in-Some-three_fields c = match_fields c.args.way _ (c.in-Some-three_fields.word.now ∷ c.in-Some-three_fields.place.now ∷ c.in-Some-three_fields.arrival.now ∷ []) c.args.node c.time_in.result c.in-Some-three_fields.ensures c.time_in.ensures
