use Rattle.std.proofs.Common.{sym, subst}
use Rattle.ea_load.specs.Files.{IsFileText, reading}
use Rattle.ea_load.proofs.file_readers.read_graph.Goals as goal

pub returns-in-Ok-clause-denoted : goal.returns-in-Ok-clause-denoted
returns-in-Ok-clause-denoted g c =
    let text = c.deref.result.now in
    (text, subst (IsFileText (reading g.R.Device.seen c.args.gr.now c.text_of.new.reader)) (sym c.deref.ensures.value) c.in_ok-text.ensures.text, c.in-Ok.ensures.denoted)
