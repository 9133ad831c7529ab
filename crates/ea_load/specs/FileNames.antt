-- The names of files in messages.
use Rattle.std.specs.Prelude.{ℕ, List, codes}
use Rattle.ea_load.specs.declared.file_fault.FileWord.{FileWord}
use Rattle.ea_load.specs.declared.file_fault.FileWord.TheVariants.{Gr, Ss, Tp, P2p, Times, Nodes, Report, Out}

abbrev pub file_word : FileWord → List ℕ
file_word Gr = codes "gr"
file_word Ss = codes "ss"
file_word Tp = codes "tp"
file_word P2p = codes "p2p"
file_word Times = codes "times"
file_word Nodes = codes "nodes"
file_word Report = codes "report"
file_word Out = codes "out"
