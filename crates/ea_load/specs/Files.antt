-- The results of reading files, and why there is none.
use Rattle.std.specs.Prelude.{◌≡◌, ◌⊎◌, ℕ, ◌<◌, ◌≤◌, List, length, Option, Some, None, IfSome, option_map}
use Rattle.ea_base.specs.declared.limits.TheConstants.{MOST_BYTES}
use Rattle.ea_bytes.specs.Device.{Seen, BearsOn, GivesUp}
use Rattle.ea_bytes.specs.Text.{field_lines}
use Rattle.ea_blocks.specs.declared.blocks.ReadFault.{ReadFault}
use Rattle.ea_blocks.specs.declared.blocks.ReadFault.TheVariants.{TooLarge, ReadFailed, OutOfMemory as no_memory}
use Rattle.ea_input.specs.Checks.{Format, IsFaultOf}
use Rattle.ea_input.specs.Formats.{graph_format, source_format, table_format, time_format}
use Rattle.ea_input.specs.Graph.{Graph, DenotesGraph}
use Rattle.ea_input.specs.Sources.{DenotesSources}
use Rattle.ea_input.specs.Times.{DenotesTimes}
use Rattle.ea_blocks.specs.Fault.{out_of_memory}
use Rattle.ea_blocks.specs.declared.fault.InputFault.{InputFault}
use Rattle.ea_blocks.specs.declared.stream.StreamFault.{StreamFault}
use Rattle.ea_blocks.specs.declared.stream.StreamFault.TheVariants.{Read as FromDevice, Input as FromText}
use Rattle.ea_blocks.specs.declared.fault.FaultKind.TheVariants as kind
use Rattle.ea_load.specs.declared.file_fault.FileWord.{FileWord}
use Rattle.ea_load.specs.declared.file_fault.FileWord.TheVariants.{Gr, Nodes, Times, Tp}
use Rattle.ea_load.specs.declared.file_fault.FileFault.{FileFault}
use Rattle.ea_load.specs.declared.file_fault.FileFault.TheVariants.{Read, Input, OutOfMemory}

-- All bytes that a reader had, if its type says.
abbrev pub IsAll : Option (List ℕ) → List ℕ → Type 0
IsAll had text = IfSome had (λ left. text ≡ left)

-- The same for an optional reader.
abbrev pub IsAllIfThere : Option (Option (List ℕ)) → Option (List ℕ) → Type 0
IsAllIfThere None None = Unit {0}
IsAllIfThere (Some had) (Some text) = IsAll had text
IsAllIfThere _ _ = ⊥

-- The bytes of an optional reader.
abbrev pub bytes_there : {R : Type 0} → (R → Seen) → Option R → Option (Option (List ℕ))
bytes_there seen reader = option_map (λ there. (seen there).bytes) reader

-- A reader before and after it was read.
pub record Reading : Type 0 where
  pub old : Seen
  pub new : Seen

abbrev pub reading : {R : Type 0} → (R → Seen) → R → R → Reading
reading seen old new = record { old = seen old; new = seen new }

-- No read failed, and the interruptions were tolerated.
abbrev pub IsBorne : Reading → Type 0
IsBorne reading = BearsOn reading.old reading.new

-- A file's text, as it was read: all bytes that the reader had, at most MOST_BYTES, without a failure of the
-- device.
pub record IsFileText (reading : Reading) (text : List ℕ) : Type 0 where
  pub all : IsAll reading.old.bytes text
  pub few : length text ≤ MOST_BYTES
  pub borne : IsBorne reading

-- The same for an optional file: there is a text exactly if there is a reader.
abbrev pub IsTextIfThere : {R : Type 0} → (R → Seen) → Option R → Option R → Option (List ℕ) → Type 0
IsTextIfThere seen None None None = Unit {0}
IsTextIfThere seen (Some old) (Some new) (Some text) = IsFileText (reading seen old new) text
IsTextIfThere seen _ _ _ = ⊥

-- No read of an optional file failed, and the interruptions were tolerated.
abbrev pub IsBorneIfThere : {R : Type 0} → (R → Seen) → Option R → Option R → Type 0
IsBorneIfThere seen None None = Unit {0}
IsBorneIfThere seen (Some old) (Some new) = BearsOn (seen old) (seen new)
IsBorneIfThere seen _ _ = ⊥

-- Why a file wasn't read: it has more than MOST_BYTES, or its device gave up at that point.
abbrev pub IsUnread : Reading → ReadFault → Type 0
IsUnread reading TooLarge = IfSome reading.old.bytes (λ left. MOST_BYTES < length left) × IsBorne reading
IsUnread reading ReadFailed = GivesUp reading.old reading.new
IsUnread reading no_memory = ⊥

-- Why a file has no result: it wasn't read, or its text has this fault, or memory was refused while reading
-- succeeded.
abbrev pub IsFaultIn : FileWord → Format → Reading → FileFault → Type 0
IsFaultIn file format reading (Read word fault) = (word ≡ file) × IsUnread reading fault
IsFaultIn file format reading (Input word fault) = (word ≡ file) × ((text : List ℕ) × IsFileText reading text × IsFaultOf format (field_lines text) fault)
IsFaultIn file format reading OutOfMemory = IsBorne reading

-- The same if only reading may have failed.
abbrev pub IsUnreadBy : FileWord → Reading → FileFault → Type 0
IsUnreadBy file reading (Read word fault) = (word ≡ file) × IsUnread reading fault
IsUnreadBy file reading (Input word fault) = ⊥
IsUnreadBy file reading OutOfMemory = IsBorne reading

-- A text's fault as one of its file; refused memory is none of the text.
abbrev pub IsFaultAs : FileWord → InputFault → FileFault → Type 0
IsFaultAs file found (Read word fault) = ⊥
IsFaultAs file found (Input word fault) = (word ≡ file) × (fault ≡ found) × ((found ≡ out_of_memory) → ⊥)
IsFaultAs file found OutOfMemory = found.kind ≡ kind.OutOfMemory

-- The same for a fault of reading.
abbrev pub IsReadFaultAs : FileWord → ReadFault → FileFault → Type 0
IsReadFaultAs file found (Read word fault) = (word ≡ file) × (fault ≡ found) × ((found ≡ no_memory) → ⊥)
IsReadFaultAs file found (Input word fault) = ⊥
IsReadFaultAs file found OutOfMemory = found ≡ no_memory

-- The same for a text that is read as its bytes come.
abbrev pub IsStreamFaultAs : FileWord → StreamFault → FileFault → Type 0
IsStreamFaultAs file (FromDevice found) told = IsReadFaultAs file found told
IsStreamFaultAs file (FromText found) told = IsFaultAs file found told

-- The fault of an optional file: memory was refused, or it is that of the file, if there is one.
abbrev pub IsFaultThere : {R : Type 0} → (R → Seen) → FileWord → Format → Option R → Option R → FileFault → Type 0
IsFaultThere seen file format (Some old) (Some new) fault = IsFaultIn file format (reading seen old new) fault
IsFaultThere seen file format _ _ fault = ⊥

abbrev pub IsFaultIfThere : {R : Type 0} → (R → Seen) → FileWord → Format → Option R → Option R → FileFault → Type 0
IsFaultIfThere seen file format old new fault =
    ((fault ≡ OutOfMemory) × IsBorneIfThere seen old new) ⊎ IsFaultThere seen file format old new fault

-- An optional reader wasn't touched.
abbrev pub IsUntouchedIfThere : {R : Type 0} → (R → Seen) → Option R → Option R → Type 0
IsUntouchedIfThere seen old new = option_map seen new ≡ option_map seen old

-- The outcome of reading the file of timetables: its fault, for this many arcs; or it was read without a
-- fault of the device; or it wasn't touched.
pub record Tables : Type 1 where
  pub IsFault : ℕ → FileFault → Type 0
  pub IsRead : Type 0
  pub IsKept : Type 0

abbrev pub tables : {R : Type 0} → (R → Seen) → Option R → Option R → Tables
tables seen old new = record {
  IsFault = λ arcs. IsFaultIfThere seen Tp (table_format arcs) old new;
  IsRead = IsBorneIfThere seen old new;
  IsKept = IsUntouchedIfThere seen old new;
}

-- ---- the files of a run or of pairs, in their order: network, starts, timetables

-- A text that a reader gave denotes this graph.
abbrev pub IsGraphOf : Reading → Graph → Type 0
IsGraphOf reading graph = (text : List ℕ) × IsFileText reading text × DenotesGraph (field_lines text) graph

-- A text that a reader gave denotes starts among this many nodes.
abbrev pub HasStarts : {X : Type 0} → (ℕ → List (List (List ℕ)) → X → Type 0) → ℕ → Reading → Type 0
HasStarts {X} DenotesStarts nodes reading = (text : List ℕ) × (starts : X) × IsFileText reading text × DenotesStarts nodes (field_lines text) starts

-- A reader wasn't touched.
abbrev pub IsUntouched : Reading → Type 0
IsUntouched reading = reading.new ≡ reading.old

-- The first fault of the files: the network's; or, if it has none, that of the starts; or, if neither has
-- any, the timetables'. Later files weren't touched.
pub data IsFirstFault {X : Type 0}
    (word : FileWord)
    (format : ℕ → Format)
    (DenotesStarts : ℕ → List (List (List ℕ)) → X → Type 0)
    (gr starts : Reading)
    (table : Tables)
    (fault : FileFault)
    : Type 0 where
  in_network : IsFaultIn Gr graph_format gr fault → IsUntouched starts → table.IsKept
      → IsFirstFault word format DenotesStarts gr starts table fault
  in_starts : (graph : Graph) → IsGraphOf gr graph → IsFaultIn word (format graph.nodes) starts fault → table.IsKept
      → IsFirstFault word format DenotesStarts gr starts table fault
  in_table : (graph : Graph) → IsGraphOf gr graph → HasStarts DenotesStarts graph.nodes starts
      → table.IsFault (length graph.arcs) fault → IsFirstFault word format DenotesStarts gr starts table fault

-- ---- the files of times and of nodes, each of which may be left out

-- An optional file was read, and its text denotes this; there is a value exactly if there is a file.
abbrev pub IsFoundIn : {X : Type 0} → (List (List (List ℕ)) → X → Type 0) → Option Seen → Option Seen → Option X → Type 0
IsFoundIn Denotes None None None = Unit {0}
IsFoundIn Denotes (Some old) (Some new) (Some x) = (text : List ℕ) × IsFileText (record { old = old; new = new }) text × Denotes (field_lines text) x
IsFoundIn Denotes _ _ _ = ⊥

-- Its fault, if there is a file.
abbrev pub IsOptionalFault : FileWord → Format → Option Seen → Option Seen → FileFault → Type 0
IsOptionalFault word format (Some old) (Some new) fault = IsFaultIn word format (record { old = old; new = new }) fault
IsOptionalFault word format _ _ fault = ⊥

-- Both files, before and after they were read.
pub record ExtraFiles : Type 0 where
  pub times_old : Option Seen
  pub times_new : Option Seen
  pub nodes_old : Option Seen
  pub nodes_new : Option Seen

abbrev pub extra_files : {R : Type 0} → (R → Seen) → Option R → Option R → Option R → Option R → ExtraFiles
extra_files seen times times' nodes nodes' = record { times_old = option_map seen times; times_new = option_map seen times'; nodes_old = option_map seen nodes; nodes_new = option_map seen nodes' }

-- What they denote: times of the starts, and the nodes that are reported.
pub record Extras : Type 0 where
  pub times : Option (List ℕ)
  pub nodes : Option (List ℕ)

-- Both were read: the times are for this many starts, the nodes are some of this many.
pub record AreExtras (starts size : ℕ) (files : ExtraFiles) (extras : Extras) : Type 0 where
  pub times : IsFoundIn (DenotesTimes starts) files.times_old files.times_new extras.times
  pub nodes : IsFoundIn (DenotesSources size) files.nodes_old files.nodes_new extras.nodes

-- Neither was touched.
abbrev pub AreUntouched : ExtraFiles → Type 0
AreUntouched files = (files.times_new ≡ files.times_old) × (files.nodes_new ≡ files.nodes_old)

-- The first fault of both: that of the times or, if they have none, of the nodes.
pub data IsExtraFault (starts nodes : ℕ) (files : ExtraFiles) (fault : FileFault) : Type 0 where
  in_times : IsOptionalFault Times (time_format starts) files.times_old files.times_new fault → files.nodes_new ≡ files.nodes_old → IsExtraFault starts nodes files fault
  in_nodes : (times : Option (List ℕ)) → IsFoundIn (DenotesTimes starts) files.times_old files.times_new times → IsOptionalFault Nodes (source_format nodes) files.nodes_old files.nodes_new fault → IsExtraFault starts nodes files fault
