use Rattle.ea_check.proofs.KeptLines.{keeps_both}
use Rattle.ea_check.proofs.form.kept.keep_both.Goals as goal

pub returns : goal.returns
returns c =
    keeps_both c.args.kept.now c.keep_time.new.kept c.requires.kept c.args.line c.args.time c.keep_walk.new.kept c.args.walk.line _ c.in_ok-keep_walk.ensures c.in_ok-keep_time.ensures
