-- Which commands name files.
use Rattle.std.specs.Prelude.{Option, None}
use Rattle.ea_options.specs.declared.options.Command.{Command}
use Rattle.ea_options.specs.declared.options.Command.TheVariants.{Stored, Check, Explain, Formats}

-- The command names files, and a check has a report.
abbrev pub HasFiles : {R : Type 0} → Command → Option R → Type 0
HasFiles Stored report = ⊥
HasFiles (Explain fault) report = ⊥
HasFiles Formats report = ⊥
HasFiles (Check gr ss tp times name options) None = ⊥
HasFiles _ report = Unit {0}
