use Rattle.test_reports.proofs.streamed.turned.Goals as goal

pub check_stream-by_one-requires-after_bounds : goal.check_stream-by_one-requires-after_bounds
check_stream-by_one-requires-after_bounds g c κs lent = rw c.of-times.ensures (rw c.classes.ensures at (c.is_checkable.ensures.0 c.if-not-is_checkable.false))

pub check_stream-by_four-requires-after_bounds : goal.check_stream-by_four-requires-after_bounds
check_stream-by_four-requires-after_bounds g c κs lent = rw c.of-times.ensures (rw (c.classes-2.ensures, c.in-Some.is) at c.in-Ok.ensures)
