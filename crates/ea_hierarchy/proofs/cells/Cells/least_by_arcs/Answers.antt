use Rattle.std.proofs.Common.{arith, ap, length, sym, ◌+◌, ◌-◌, ◌≡◌, ◌≤◌, ◌∙◌, ℕ}
use Rattle.std.specs.Prelude.{slice_index}
use Rattle.ea_hierarchy.specs.Cells.{bound_at, reach_of, worth_of}
use Rattle.ea_hierarchy.specs.Hierarchies.{IsFrom}
use Rattle.ea_hierarchy.specs.Numbers.{plus}
use Rattle.ea_hierarchy.specs.Potentials.{least_over}
use Rattle.ea_hierarchy.proofs.Bounding.{least_more}
use Rattle.ea_hierarchy.proofs.Finding.{inside, read_at}
use Rattle.ea_hierarchy.proofs.Potential.{worth_is}
use Rattle.ea_hierarchy.proofs.cells.Cells.least_by_arcs.Goals as goal

pub loop-place-preserved : goal.loop-place-preserved
loop-place-preserved c =
    let firsts = c.args.upward.now.firsts.items in
    let heads = c.args.upward.now.heads.items in
    let ups = c.args.numbers.now.ups.items in
    let nodes : ℕ = length firsts - 1 in
    let aim = c.args.self.now.aim in
    let list = c.args.self.now.list.items in
    let rank : ℕ = c.args.rank in
    let place : ℕ = c.loop-place.place in
    let begin = read_at firsts rank c.index.result.now (omega (arith, c.requires.rank)) c.index.ensures in
    let end = read_at firsts (rank + 1) c.index-2.result.now (omega (arith, c.requires.rank)) c.index-2.ensures in
    let from : slice_index firsts rank ≤ place = omega (arith, begin, c.loop-place.auto.place) in
    let is : IsFrom firsts rank place = record { from = from; before = omega (arith, end, c.loop-place-test.true) } in
    let within = inside nodes firsts heads c.requires.upward rank place c.requires.rank is in
    let up = c.requires.upward.upward rank place c.requires.rank is in
    let head = read_at heads place c.index-in-loop-place.result.now within c.index-in-loop-place.ensures in
    let number = read_at ups place c.index-in-loop-place-2.result.now (omega (arith, within, c.requires.numbers.upward)) c.index-in-loop-place-2.ensures in
    let bound : c.bound-there.result ≡ worth_of firsts heads ups aim list (slice_index heads place) =
    c.bound-there.ensures ∙ ap (bound_at aim list) (sym head) ∙ c.requires.found.final (slice_index heads place) up.1 (c.requires.heads place is) in
    let value : c.plus.result ≡ plus (slice_index ups place) (worth_of firsts heads ups aim list (slice_index heads place)) =
    c.plus.ensures ∙ ap (λ n. plus n c.bound-there.result) (sym number) ∙ ap (plus (slice_index ups place)) bound in
    c.min-bound.ensures ∙ least_more (λ p. plus (slice_index ups p) (worth_of firsts heads ups aim list (slice_index heads p))) (reach_of aim list rank) (slice_index firsts rank) place c.loop-place.bound c.plus.result from c.loop-place.invariant value

pub returns : goal.returns
returns c =
    let firsts = c.args.upward.now.firsts.items in
    let heads = c.args.upward.now.heads.items in
    let ups = c.args.numbers.now.ups.items in
    let nodes : ℕ = length firsts - 1 in
    let aim = c.args.self.now.aim in
    let list = c.args.self.now.list.items in
    let rank : ℕ = c.args.rank in
    let begin = read_at firsts rank c.index.result.now (omega (arith, c.requires.rank)) c.index.ensures in
    let end = read_at firsts (rank + 1) c.index-2.result.now (omega (arith, c.requires.rank)) c.index-2.ensures in
    let rises = c.requires.upward.rises rank c.requires.rank in
    let last : c.loop-place.place ≡ slice_index firsts (rank + 1) = omega (arith, begin, end, rises, c.loop-place-test.false, c.loop-place.auto.place-end) in
    let of : ℕ → ℕ = λ p. plus (slice_index ups p) (worth_of firsts heads ups aim list (slice_index heads p)) in
    c.loop-place.invariant ∙ ap (λ n. least_over of (reach_of aim list rank) (slice_index firsts rank) (n - slice_index firsts rank)) last ∙ sym (worth_is nodes firsts heads ups c.requires.upward (reach_of aim list) rank c.requires.rank)
