-- Faults as callers see them.
use Rattle.std.specs.Prelude.{ℕ}
use Rattle.ea_blocks.specs.FaultNames.{kind_number}
use Rattle.ea_load.specs.declared.file_fault.FileWord.{FileWord}
use Rattle.ea_load.specs.declared.file_fault.FileWord.TheVariants.{Gr, Ss, Tp, P2p, Times, Nodes, Report, Out}
use Rattle.ea_load.specs.declared.file_fault.FileFault.{FileFault}
use Rattle.ea_load.specs.declared.file_fault.FileFault.TheVariants.{Read, Input, OutOfMemory}
use Rattle.ea_capi.specs.declared.fault_numbers.Fault.{Fault}

-- Texts by their numbers: 1 the network, 2 the timetables.
abbrev pub text_number : FileWord → ℕ
text_number Gr = 1
text_number Ss = 0
text_number Tp = 2
text_number P2p = 0
text_number Times = 0
text_number Nodes = 0
text_number Report = 0
text_number Out = 0

-- The line and kind of a text's fault.
abbrev pub told : FileFault → Fault
told (Input file fault) = record { line = fault.line; number = kind_number fault.kind; text = text_number file }
told (Read file fault) = record { line = 0; number = 11; text = 0 }
told OutOfMemory = record { line = 0; number = 13; text = 0 }

abbrev pub no_fault : Fault
no_fault = record { line = 0; number = 0; text = 0 }
