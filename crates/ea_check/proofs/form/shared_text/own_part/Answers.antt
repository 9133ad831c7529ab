use Rattle.ea_base.specs.declared.direction.Direction.{Direction}
use Rattle.std.proofs.Common.{length, ◌-◌, sym, subst}
use Rattle.ea_check.specs.Shared.{IsOwnPart, arcs_in}
use Rattle.ea_check.proofs.SharedTexts.{own_forward, own_turned}
use Rattle.ea_check.proofs.form.shared_text.own_part.Goals as goal

pub returns-in-Forward : goal.returns-in-Forward
returns-in-Forward c =
    let front = c.shared_front.ensures in
    subst (λ (w : Direction). IsOwnPart w c.args.text.now (arcs_in w c.args.other.now) c.to_blank.result (length c.args.text.now)) (sym c.in-Forward.is)
    (own_forward c.args.text.now c.args.other.now c.shared_front.result c.to_blank.result front.in_text front.in_other front.same c.to_blank.ensures.fewer c.to_blank.ensures.blank)

pub returns-in-Turned : goal.returns-in-Turned
returns-in-Turned c =
    let back = c.shared_back.ensures in
    subst (λ (w : Direction). IsOwnPart w c.args.text.now (arcs_in w c.args.other.now) 0 (length c.args.text.now - c.from_blank-shared.result)) (sym c.in-Turned.is)
    (own_turned c.args.text.now c.args.other.now c.shared_back.result c.from_blank-shared.result back.in_text back.in_other back.same c.from_blank-shared.ensures.fewer c.from_blank-shared.ensures.blank)
