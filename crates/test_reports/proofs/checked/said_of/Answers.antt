use Rattle.test_reports.proofs.checked.said_of.Goals as goal

pub check-requires : goal.check-requires
check-requires c = rw c.classes.ensures at (c.is_checkable.ensures.0 c.if-not-is_checkable.false)
