use Rattle.std.proofs.Common.{◌≡◌, ◌⊎◌, ◌∙◌, sym, ap, subst}
use Rattle.std.specs.Prelude.{Err}
use Rattle.ea_input.specs.Graph.{after_said, numbers_line}
use Rattle.ea_input.specs.Views.{read_of}
use Rattle.ea_blocks.specs.declared.fault.FaultKind.TheVariants.{OutOfMemory}
use Rattle.ea_input.proofs.Quick.{reads_front, refuses_front}
use Rattle.ea_input.proofs.graph.GraphReaderLineReader.read_plain.Goals as goal

pub returns-in-Ok : goal.returns-in-Ok
returns-in-Ok c =
    let read = read_of c.args.self.now in
    let n = c.in-Some.numbers in
    let said = ap (λ k. numbers_line read.size k n.tail n.head n.weight) (sym c.count.ensures) ∙ sym c.numbers_line-said.ensures in
    reads_front read (read_of c.add.new.self) c.args.text.now n.tail n.head n.weight c.in-Some.rest c.in-Some.ensures (ap (after_said read) said ∙ c.in-Ok.ensures)

pub returns-in-Err : goal.returns-in-Err
returns-in-Err c =
    let read = read_of c.args.self.now in
    let n = c.in-Some.numbers in
    let said = ap (λ k. numbers_line read.size k n.tail n.head n.weight) (sym c.count.ensures) ∙ sym c.numbers_line-said.ensures in
    refuses_front read (read_of c.add.new.self) c.args.text.now n.tail n.head n.weight c.in-Some.rest.now c.in-Err.kind c.in-Some.ensures (subst (λ s. (c.in-Err.kind ≡ OutOfMemory) ⊎ (after_said read s ≡ Err c.in-Err.kind)) (sym said) c.in-Err.ensures)
