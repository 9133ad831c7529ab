use Rattle.test_reports.proofs.streamed.unindexed.Goals as goal

pub returns : goal.returns
returns c = rw (c.new-2.ensures, c.in_ok-list.ensures, c.deref-2.ensures.value) (rw c.in_ok-copy.ensures at (c.is_checkable.ensures.0 c.if-not-is_checkable.false))
