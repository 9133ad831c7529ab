-- What a command asks of its files, its output if it is whole, and why it isn't. The same for runs, pairs and
-- rank errors; the output is a field of what the command asks.
use Rattle.std.specs.Prelude.{◌≡◌, ◌⊎◌, ℕ, List, Option, option_map}
use Rattle.ea_bytes.specs.Device.{Seen}
use Rattle.ea_input.specs.Checks.{Format}
use Rattle.ea_road.specs.Roads.{Roads}
use Rattle.ea_road.specs.Queries.{Asking}
use Rattle.ea_load.specs.declared.file_fault.FileWord.{FileWord}
use Rattle.ea_load.specs.declared.file_fault.FileFault.{FileFault}
use Rattle.ea_load.specs.declared.file_fault.FileFault.TheVariants as file
use Rattle.ea_base.specs.declared.direction.Direction.{Direction}
use Rattle.ea_road.specs.Turned.{directed_roads}
use Rattle.ea_load.specs.declared.files.OptionalFiles.{OptionalFiles}
use Rattle.ea_load.specs.Files.{AreExtras, AreUntouched, ExtraFiles, Extras, IsBorne, IsBorneIfThere, IsExtraFault, IsFirstFault, Reading, Tables, extra_files, tables}
use Rattle.ea_load.specs.Given.{Given, AreGiven, roads_of, times_in}
use Rattle.ea_load.specs.declared.answer_fault.AnswerFault.{AnswerFault}
use Rattle.ea_load.specs.declared.answer_fault.AnswerFault.TheVariants.{Read, Input, BadOption, Write, OutOfMemory}

-- The files of a command before and after they were read: the network, the starts of searches, the timetables
-- if there are any, and the files of times and of nodes.
pub record Files : Type 0 where
  pub gr : Reading
  pub starts : Reading
  pub tp_old : Option Seen
  pub tp_new : Option Seen
  pub extras : ExtraFiles

-- The same, from optional readers.
abbrev pub files_of : {R : Type 0} → Reading → Reading → (R → Seen) → OptionalFiles R → OptionalFiles R → Files
files_of gr starts seen old new = record { gr = gr; starts = starts; tp_old = option_map seen old.tp; tp_new = option_map seen new.tp; extras = extra_files seen old.times new.times old.nodes new.nodes }

-- What the reader of timetables had, if there is one.
abbrev pub tp_had : Files → Option (Option (List ℕ))
tp_had files = option_map (λ (seen : Seen). seen.bytes) files.tp_old

-- The outcome of reading the file of timetables.
abbrev pub tables_of : Files → Tables
tables_of files = tables (λ seen. seen) files.tp_old files.tp_new

-- The road's files were read: no read failed, and the interruptions of each were tolerated.
pub record AreRead (files : Files) : Type 0 where
  pub gr : IsBorne files.gr
  pub starts : IsBorne files.starts
  pub tp : IsBorneIfThere (λ seen. seen) files.tp_old files.tp_new

-- All files were.
pub record AreAllRead (files : Files) : Type 0 where
  pub road : AreRead files
  pub times : IsBorneIfThere (λ seen. seen) files.extras.times_old files.extras.times_new
  pub nodes : IsBorneIfThere (λ seen. seen) files.extras.nodes_old files.extras.nodes_new

-- What a command asks of a file of starts, which denotes an X: the file's word and format, how many starts it
-- has, in which direction they are asked, their problems, and that their times are within the horizon. Then the
-- output for these problems and the nodes that are reported: the whole, with a Y that the call returns, or its
-- first bytes, with the fault that cut it short.
pub record Asks (X Y : Type 0) : Type 1 where
  pub word : FileWord
  pub format : ℕ → Format
  pub DenotesStarts : ℕ → List (List (List ℕ)) → X → Type 0
  pub count : X → ℕ
  pub direction : Direction
  pub problems : X → Extras → List Asking
  pub AreWithin : X → Extras → Type 0
  pub IsWhole : Option (List ℕ) → Roads → (ℕ → ℕ → ℕ → ℕ → Type 0) → List Asking → Seen → Seen → Y → Type 0
  pub IsCut : Option (List ℕ) → Roads → (ℕ → ℕ → ℕ → ℕ → Type 0) → List Asking → Seen → Seen → AnswerFault → Type 0

module _ {X Y : Type 0} (asks : Asks X Y) (files : Files) where
  -- All files of the road were read, and denote a network with timetables, and starts.
  pub record AreRoadFiles (given : Given) (found : X) : Type 0 where
    pub denoted : AreGiven asks.DenotesStarts files.gr.old.bytes files.starts.old.bytes (tp_had files) given found
    pub read : AreRead files

  -- The first fault of the files in their order: that of a file of the road or, if these have none, of the
  -- times or the nodes.
  pub data IsFault (fault : FileFault) : Type 0 where
    in_road : IsFirstFault asks.word asks.format asks.DenotesStarts files.gr files.starts (tables_of files) fault → AreUntouched files.extras → IsFault fault
    in_extras : (given : Given) (found : X) → AreRoadFiles given found → IsExtraFault (asks.count found) given.graph.nodes files.extras fault → IsFault fault

  -- All files were read, and denote a network with timetables, starts, their times and the nodes reported.
  pub record AreSound (given : Given) (found : X) (extras : Extras) : Type 0 where
    pub road : AreRoadFiles given found
    pub extra : AreExtras (asks.count found) given.graph.nodes files.extras extras

  -- The files are sound, all times are within the horizon, and this holds of the nodes that are reported, the
  -- network in the direction that is asked, and the problems.
  pub record AreAsked
      (IsSo : Option (List ℕ) → Roads → (ℕ → ℕ → ℕ → ℕ → Type 0) → List Asking → Type 0)
      : Type 0 where
    pub given : Given
    pub found : X
    pub extras : Extras
    pub sound : AreSound given found extras
    pub within : asks.AreWithin found extras
    pub so : IsSo extras.nodes (directed_roads asks.direction (roads_of given)) (times_in asks.direction given.table) (asks.problems found extras)

  -- The files are sound, and some time is beyond the horizon.
  pub record HasLateStart : Type 0 where
    pub given : Given
    pub found : X
    pub extras : Extras
    pub sound : AreSound given found extras
    pub late : asks.AreWithin found extras → ⊥

  -- The output is whole.
  abbrev pub IsAnswered : Seen → Seen → Y → Type 0
  IsAnswered first now answer = AreAsked (λ nodes roads answers problems. asks.IsWhole nodes roads answers problems first now answer)

  -- Why it isn't: the first fault of the files, or a time beyond the horizon, and nothing was written; or the
  -- device or memory, and the first bytes were written. If memory is refused before anything is written, that
  -- is the first fault of the files, or all of them were read.
  abbrev pub IsFailed : Seen → Seen → AnswerFault → Type 0
  IsFailed first now (Read word fault) = IsFault (file.Read word fault) × (now ≡ first)
  IsFailed first now (Input word fault) = IsFault (file.Input word fault) × (now ≡ first)
  IsFailed first now BadOption = HasLateStart × (now ≡ first)
  IsFailed first now (Write written) = AreAsked (λ nodes roads answers problems. asks.IsCut nodes roads answers problems first now (Write written))
  IsFailed first now (OutOfMemory written) =
      ((written ≡ 0) × (now ≡ first) × (IsFault file.OutOfMemory ⊎ AreAllRead files))
      ⊎ AreAsked (λ nodes roads answers problems. asks.IsCut nodes roads answers problems first now (OutOfMemory written))
