use Rattle.std.proofs.Common.{sym, ◌∙◌}
use Rattle.std.specs.Prelude.{codes}
use Rattle.ea_input.specs.TableViews.{read_of}
use Rattle.ea_input.proofs.QuickEntry.{entry_said, step_said, read_front}
use Rattle.ea_input.proofs.timetable.TableReaderLineReader.read_plain.Goals as goal

pub returns-in-Some : goal.returns-in-Some
returns-in-Some c =
    let read = read_of c.args.self.now in
    let n = c.in-Some.numbers in
    read_front read (read_of c.add_front.new.self) (codes "t") c.args.text.now n.0 n.1 c.in-Some.rest.now c.entry_says-said.result c.add_front.result c.in-Some.ensures (λ a b p q. entry_said read a b n.0 n.1 p q ∙ sym c.entry_says-said.ensures) c.add_front.ensures.said c.add_front.ensures.rest

pub returns-in-Some-leading_step : goal.returns-in-Some-leading_step
returns-in-Some-leading_step c =
    let read = read_of c.args.self.now in
    let n = c.in-Some-leading_step.numbers in
    read_front read (read_of c.add_front-in-Some-leading_step.new.self) (codes "v") c.args.text.now n.0 n.1 c.in-Some-leading_step.rest.now c.step_says-said.result c.add_front-in-Some-leading_step.result c.in-Some-leading_step.ensures (λ a b p q. step_said read a b n.0 n.1 p q ∙ sym c.step_says-said.ensures) c.add_front-in-Some-leading_step.ensures.said c.add_front-in-Some-leading_step.ensures.rest
