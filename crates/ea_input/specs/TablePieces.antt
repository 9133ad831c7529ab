-- Timetables whose assignments are read in pieces.
use Rattle.std.specs.Prelude.{◌≡◌, ◌≤◌, ◌<◌, ◌+◌, ◌^◌, ℕ, List, [], ◌++◌, length, Bool, true, false, Some}
use Rattle.ea_input.specs.Table.{TableRead, due_in}
use Rattle.ea_input.specs.declared.timetable.TableSize.{TableSize}

-- A reader of a timetable that begins behind the problem line, with nothing read.
pub record BeginsAside (read : TableRead) : Type 0 where
  pub size : TableSize
  pub sized : read.size ≡ Some size
  pub low : read.arcs < 2 ^ 64
  pub small : size.kinds < 2 ^ 64
  pub kinds : read.table.kinds ≡ []
  pub assigned : read.table.assigned ≡ []
  pub steps : read.table.steps ≡ []

-- A reader with these assignments behind its own.
abbrev pub with_entries : TableRead → List (ℕ × ℕ) → TableRead
with_entries read more = record read { table = record read.table { assigned = read.table.assigned ++ more } }

-- What a reader aside read is put behind what another read, if it is assignments alone, and they fit: arcs and kinds are numbered alike, no
-- step is due before them, and no more assignments come together than are announced.
pub record Fits (before aside : TableRead) : Type 0 where
  pub now : TableSize
  pub size : TableSize
  pub was : before.size ≡ Some now
  pub sized : aside.size ≡ Some size
  pub kinds : now.kinds ≡ size.kinds
  pub arcs : before.arcs ≡ aside.arcs
  pub due : due_in before ≡ 0
  pub none : aside.table.kinds ≡ []
  pub few : length before.table.assigned + length aside.table.assigned ≤ now.assigned

-- The assignments of a reader aside are put behind those of another if they fit. Else all is as it was.
abbrev pub IsAppended : TableRead → TableRead → TableRead → Bool → Type 0
IsAppended before aside after true = Fits before aside × (after ≡ with_entries before aside.table.assigned)
IsAppended before aside after false = after ≡ before
