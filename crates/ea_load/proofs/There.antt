-- The text of a file that may be left out.
use Rattle.std.proofs.Common.{◌≡◌, ℕ, ◌≤◌, ◌^◌, List, length, sym, subst}
use Rattle.std.specs.Prelude.{Option, Some, None, Result, Ok, Err, IfOk, IfSome}
use Rattle.ea_bytes.specs.Device.{Seen}
use Rattle.ea_input.specs.TableViews.{table}
use Rattle.ea_base.specs.declared.timetable.RawTable.{RawTable}
use Rattle.ea_load.specs.declared.file_fault.FileFault.{FileFault}
use Rattle.ea_load.specs.Files.{bytes_there, IsAllIfThere, IsBorneIfThere, IsTextIfThere, IsFileText, reading}
use Rattle.ea_load.specs.Given.{IsTableOf}

module _ {R : Type 0} (seen : R → Seen) where
  -- The text of an existing file.
  pub table_there : (device after : Option R) (old new : R) (arcs : ℕ) (r : Result RawTable FileFault) → device ≡ Some old → after ≡ Some new
      → IfOk r (λ found. (text : List ℕ) × IsFileText (reading seen old new) text × IsTableOf arcs (Some text) (table found))
      → IfOk r (λ found. (text : Option (List ℕ)) × IsTextIfThere seen device after text × IsTableOf arcs text (table found))
  table_there device after old new arcs (Ok found) was is read =
      (Some read.0, subst (λ o. IsTextIfThere seen o after (Some read.0)) (sym was) (subst (λ o. IsTextIfThere seen (Some old) o (Some read.0)) (sym is) read.1), read.2)
  table_there device after old new arcs (Err fault) was is read = tt

  -- It is all that the reader had, and not too much, and the device bore it.
  pub all_there : (old new : Option R) (text : Option (List ℕ)) → IsTextIfThere seen old new text → IsAllIfThere (bytes_there seen old) text
  all_there None None None is = tt
  all_there (Some old) (Some new) (Some text) is = is.all
  all_there None None (Some text) is = absurd is
  all_there None (Some new) None is = absurd is
  all_there None (Some new) (Some text) is = absurd is
  all_there (Some old) None None is = absurd is
  all_there (Some old) None (Some text) is = absurd is
  all_there (Some old) (Some new) None is = absurd is

  pub few_there : (old new : Option R) (text : Option (List ℕ)) → IsTextIfThere seen old new text → IfSome text (λ bytes. length bytes ≤ 2 ^ 33)
  few_there old new None is = tt
  few_there (Some old) (Some new) (Some text) is = is.few
  few_there None None (Some text) is = absurd is
  few_there None (Some new) (Some text) is = absurd is
  few_there (Some old) None (Some text) is = absurd is

  -- The device bore it.
  pub borne_there : (old new : Option R) (text : Option (List ℕ)) → IsTextIfThere seen old new text → IsBorneIfThere seen old new
  borne_there None None None is = tt
  borne_there (Some old) (Some new) (Some text) is = is.borne
  borne_there None None (Some text) is = absurd is
  borne_there None (Some new) None is = absurd is
  borne_there None (Some new) (Some text) is = absurd is
  borne_there (Some old) None None is = absurd is
  borne_there (Some old) None (Some text) is = absurd is
  borne_there (Some old) (Some new) None is = absurd is
