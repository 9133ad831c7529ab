use Rattle.std.proofs.Common.{arith}
use Rattle.ea_check.proofs.KeptLines.{padded_more}
use Rattle.ea_check.proofs.form.kept.pad.Goals as goal

pub loop-walks-preserved : goal.loop-walks-preserved
loop-walks-preserved c =
    let was = c.loop-walks.invariant in
    let more = padded_more c.args.walks.now.items c.loop-walks.walks.items c.push.new.self.items c.args.len c.in_ok-push.ensures.items was.grown was.padded (omega arith) in
    record { grown = more.0; few = more.1; padded = more.2 }
