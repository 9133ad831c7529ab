use Rattle.std.proofs.Common.{◌≡◌, ◌+◌, ◌<◌, ℕ, List, length, get_or, ap, ◌∙◌, arith}
use Rattle.std.proofs.lemmas.List.{get_or_read}
use Rattle.ea_rank.proofs.Tallying.{added-take, added-take_more}
use Rattle.ea_rank.proofs.tally.TallyRow.between.Goals as goal

pub overflow_add-sum : goal.overflow_add-sum
overflow_add-sum c =
    let xs = c.args.self.now in
    let place = c.loop-place.place in
    let items = c.self.inside.sums.items in
    let long = ap (λ (l : List ℕ). length l) c.self.view_is in
    let inside : place < length xs = omega (arith, c.loop-place-test.true, c.requires.may.inside) in
    let read : c.index.result.now ≡ get_or xs place 0 = get_or_read items place c.index.result.now (omega (arith, long)) c.index.ensures 0 ∙ ap (λ (l : List ℕ). get_or l place 0) c.self.view_is in
    omega (arith, read, added-take_more xs place inside, added-take xs (place + 1), c.loop-place.invariant, c.requires.may.room)

pub loop-place-preserved : goal.loop-place-preserved
loop-place-preserved c =
    let xs = c.args.self.now in
    let place = c.loop-place.place in
    let items = c.self.inside.sums.items in
    let long = ap (λ (l : List ℕ). length l) c.self.view_is in
    let inside : place < length xs = omega (arith, c.loop-place-test.true, c.requires.may.inside) in
    let read : c.index.result.now ≡ get_or xs place 0 = get_or_read items place c.index.result.now (omega (arith, long)) c.index.ensures 0 ∙ ap (λ (l : List ℕ). get_or l place 0) c.self.view_is in
    omega (arith, read, added-take_more xs place inside, c.loop-place.invariant)
