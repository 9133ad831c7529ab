use Rattle.std.proofs.Common.{◌++◌, ◌∷◌, [], sym, subst}
use Rattle.std.specs.Prelude.{Option}
use Rattle.ea_check.specs.declared.form.kept.WalkLine.{WalkLine}
use Rattle.ea_check.specs.Views.{Keeps, said_kept, walk_of}
use Rattle.ea_check.proofs.KeptLines.{keeps_time}
use Rattle.ea_check.proofs.form.kept.keep.Goals as goal

pub returns-in_ok-keep_time-in-None : goal.returns-in_ok-keep_time-in-None
returns-in_ok-keep_time-in-None c =
    subst (λ (w : Option WalkLine). Keeps (said_kept c.args.kept.now ++ record { line = c.args.said.line; time = c.args.said.time; walk = walk_of w } ∷ []) c.keep_time.new.kept) (sym c.in-None.is)
    (keeps_time c.args.kept.now c.keep_time.new.kept c.requires.kept c.args.said.line c.args.said.time c.in_ok-keep_time-in-None.ensures)
