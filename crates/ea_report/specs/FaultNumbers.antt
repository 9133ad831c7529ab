-- The numbers by which messages name why a text was not written whole.
use Rattle.std.specs.Prelude.{ℕ}
use Rattle.ea_report.specs.declared.report.WriteFaultKind.{WriteFaultKind}
use Rattle.ea_report.specs.declared.report.WriteFaultKind.TheVariants.{WriteFailed, OutOfMemory}

abbrev pub kind_number : WriteFaultKind → ℕ
kind_number WriteFailed = 12
kind_number OutOfMemory = 13
