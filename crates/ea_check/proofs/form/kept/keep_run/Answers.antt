use Rattle.std.proofs.Common.{refl}
use Rattle.ea_check.proofs.KeptLines.{keeps_run}
use Rattle.ea_check.proofs.form.kept.keep_run.Goals as goal

pub returns : goal.returns
returns c = keeps_run c.args.kept.now _ c.args.number c.args.times.now c.requires.kept c.in_ok-keep_numbers.ensures c.in_ok-extend_from_slice.ensures.items refl refl refl refl
