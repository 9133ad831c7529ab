use Rattle.std.proofs.Common.{◌≡◌, ◌∙◌, [], ap, arith, length, map, sym}
use Rattle.std.proofs.lemmas.List.{append-nil, nil_from_length}
use Rattle.std.proofs.lemmas.List.Sorted.{length_permutation}
use Rattle.ea_asked.specs.Open.{met}
use Rattle.ea_asked.proofs.Opening.{taken}
use Rattle.ea_asked.proofs.frontier.Frontier.take.Goals as goal
use Rattle.ea_asked.proofs.frontier.Frontier.take.Goals.{in-Some, in-None}

pub returns : goal.returns
returns c = elim c.match-pop.branch [
  | in-Some w ↦ rw w.result-is (taken c.args.self.now c.settle.new.self c.pop.new.self.items w.in-Some.entry c.settle.ensures (sym c.self.view_is ∙ ap (map met) w.in-Some.ensures.items))
  | in-None w ↦ rw w.result-is (
      let items = c.self.inside.entries.items in
      let empty : items ≡ [] = nil_from_length items (omega (arith, w.in-None.ensures.cases.0, c.self.inside.entries.ok)) in
      let after : c.pop.new.self.items ≡ [] = sym (w.in-None.ensures.items ∙ append-nil c.pop.new.self.items) ∙ empty in
      let none : length c.args.self.now ≡ 0 = sym (length_permutation c.args.self.now c.settle.new.self c.settle.ensures) ∙ ap length (sym c.self.view_is) ∙ ap (λ xs. length (map met xs)) empty in
      (none, ap (map met) after ∙ sym (nil_from_length c.args.self.now none)))
]
