-- The outcomes of commands.
use Rattle.std.proofs.Common.{◌≡◌, ℕ, List, refl, ap, subst, inl, inr}
use Rattle.std.specs.Prelude.{Option, Some, None, Result, Ok, Err, IfOk, IfErr, option_map}
use Rattle.ea_input.specs.Checks.{Format}
use Rattle.ea_input.specs.Formats.{table_format}
use Rattle.ea_input.specs.Sources.{DenotesSources}
use Rattle.ea_input.specs.Times.{DenotesTimes}
use Rattle.ea_base.specs.declared.timetable.RawKind.{RawKind}
use Rattle.ea_road.specs.Roads.{Roads}
use Rattle.ea_road.specs.Queries.{Asking}
use Rattle.ea_travel_times.specs.TimetableLists.{TimetablesAnswer}
use Rattle.ea_bytes.specs.Device.{Seen}
use Rattle.ea_bytes.specs.Text.{field_lines}
use Rattle.ea_load.specs.declared.road.Road.{Road}
use Rattle.ea_load.specs.declared.file_fault.FileFault.{FileFault}
use Rattle.ea_load.specs.declared.file_fault.FileFault.TheVariants as file
use Rattle.ea_load.specs.declared.file_fault.FileWord.{FileWord}
use Rattle.ea_load.specs.declared.file_fault.FileWord.TheVariants.{Tp}
use Rattle.ea_base.specs.declared.direction.Direction.{Direction}
use Rattle.ea_travel_times.specs.Directed.{IsDirected}
use Rattle.ea_load.specs.declared.files.OptionalFiles.{OptionalFiles}
use Rattle.ea_load.specs.Files.{Extras, bytes_there, in_network, in_starts, in_table, IsBorne, IsBorneIfThere, IsFaultIfThere, IsFirstFault, IsFoundIn, Reading, tables}
use Rattle.ea_load.specs.Given.{Given, AreGiven, IsRoadOf, times_in}
use Rattle.ea_load.specs.Sound.{IsSound}
use Rattle.ea_load.proofs.Denoting.{denoting_is_sound}
use Rattle.ea_load.specs.Asked.{AreAllRead, AreAsked, AreRoadFiles, AreSound, Asks, Files, files_of, in_road, IsAnswered, IsFailed, IsFault}
use Rattle.ea_load.specs.Faults.{answer_fault}
use Rattle.ea_load.specs.Posed.{times_on}
use Rattle.ea_load.specs.declared.answer_fault.AnswerFault.{AnswerFault}
use Rattle.ea_load.specs.declared.answer_fault.AnswerFault.TheVariants.{Read, Input, BadOption, Write, OutOfMemory}

pub given_is_sound : {X : Type 0} (DenotesStarts : ℕ → List (List (List ℕ)) → X → Type 0) (gr starts : Option (List ℕ)) (tp : Option (Option (List ℕ))) (given : Given) (found : X) → AreGiven DenotesStarts gr starts tp given found → IsSound given
given_is_sound DenotesStarts gr starts tp given found read = denoting_is_sound (field_lines read.gr_text) read.tp_text given read.denoted.graph read.denoted.table

-- ---- the reader of timetables, as contracts see it

module _ {R : Type 0} (seen : R → Seen) where
  -- What it had.
  pub had_there : (tp : Option R) → bytes_there seen tp ≡ option_map (λ (s : Seen). s.bytes) (option_map seen tp)
  had_there None = refl
  had_there (Some tp) = refl

  -- Its interrupted reads were retried.
  pub borne_there : (old new : Option R) → IsBorneIfThere seen old new → IsBorneIfThere (λ (s : Seen). s) (option_map seen old) (option_map seen new)
  borne_there None None borne = borne
  borne_there None (Some new) borne = absurd borne
  borne_there (Some old) None borne = absurd borne
  borne_there (Some old) (Some new) borne = borne

  -- Its fault.
  fault_there : (word : FileWord) (format : Format) (old new : Option R) (fault : FileFault) → IsFaultIfThere seen word format old new fault → IsFaultIfThere (λ (s : Seen). s) word format (option_map seen old) (option_map seen new) fault
  fault_there word format old new fault (inl memory) = inl (memory.0, borne_there old new memory.1)
  fault_there word format None new fault (inr there) = absurd there
  fault_there word format (Some old) None fault (inr there) = absurd there
  fault_there word format (Some old) (Some new) fault (inr there) = inr there

  -- The first fault of all files.
  first_of_road : {X : Type 0} (word : FileWord) (format : ℕ → Format) (DenotesStarts : ℕ → List (List (List ℕ)) → X → Type 0) (gr starts : Reading) (old new : Option R) (fault : FileFault)
      → IsFirstFault word format DenotesStarts gr starts (tables seen old new) fault
      → IsFirstFault word format DenotesStarts gr starts (tables (λ (s : Seen). s) (option_map seen old) (option_map seen new)) fault
  first_of_road word format DenotesStarts gr starts old new fault (in_network is kept untouched) = in_network is kept (ap (option_map (λ (s : Seen). s)) untouched)
  first_of_road word format DenotesStarts gr starts old new fault (in_starts graph given is untouched) = in_starts graph given is (ap (option_map (λ (s : Seen). s)) untouched)
  first_of_road word format DenotesStarts gr starts old new fault (in_table graph given has is) = in_table graph given has (fault_there Tp (table_format _) old new fault is)

  -- It is the command's, if the files of times and of nodes were not touched.
  pub first_there : {X Y : Type 0} (asks : Asks X Y) (gr starts : Reading) (old new : OptionalFiles R) (fault : FileFault)
      → IsFirstFault asks.word asks.format asks.DenotesStarts gr starts (tables seen old.tp new.tp) fault → new.times ≡ old.times → new.nodes ≡ old.nodes → IsFault asks (files_of gr starts seen old new) fault
  first_there asks gr starts old new fault is times nodes =
      in_road (first_of_road asks.word asks.format asks.DenotesStarts gr starts old.tp new.tp fault is) (ap (option_map seen) times, ap (option_map seen) nodes)

-- The files of the road were read.
pub road_there : {X Y R : Type 0} (asks : Asks X Y) (seen : R → Seen) (gr starts : Reading) (old new : OptionalFiles R) (given : Given) (found : X)
    → AreGiven asks.DenotesStarts gr.old.bytes starts.old.bytes (bytes_there seen old.tp) given found → IsBorne gr → IsBorne starts → IsBorneIfThere seen old.tp new.tp → AreRoadFiles asks (files_of gr starts seen old new) given found
road_there asks seen gr starts old new given found read of_gr of_starts of_tp = record {
  denoted = subst (λ tp. AreGiven asks.DenotesStarts gr.old.bytes starts.old.bytes tp given found) (had_there seen old.tp) read;
  read = record { gr = of_gr; starts = of_starts; tp = borne_there seen old.tp new.tp of_tp };
}

-- What was found in an optional file was read.
found_borne : {X : Type 0} (Denotes : List (List (List ℕ)) → X → Type 0) (old new : Option Seen) (found : Option X) → IsFoundIn Denotes old new found → IsBorneIfThere (λ (s : Seen). s) old new
found_borne Denotes None None None is = tt
found_borne Denotes (Some old) (Some new) (Some x) is = is.1.borne
found_borne Denotes None None (Some x) is = absurd is
found_borne Denotes None (Some new) None is = absurd is
found_borne Denotes None (Some new) (Some x) is = absurd is
found_borne Denotes (Some old) None None is = absurd is
found_borne Denotes (Some old) None (Some x) is = absurd is
found_borne Denotes (Some old) (Some new) None is = absurd is

pub all_read : {X Y : Type 0} (asks : Asks X Y) (files : Files) (given : Given) (found : X) (extras : Extras) → AreSound asks files given found extras → AreAllRead files
all_read asks files given found extras sound = record {
  road = sound.road.read;
  times = found_borne (DenotesTimes (asks.count found)) files.extras.times_old files.extras.times_new extras.times sound.extra.times;
  nodes = found_borne (DenotesSources given.graph.nodes) files.extras.nodes_old files.extras.nodes_new extras.nodes sound.extra.nodes;
}

-- ---- outcomes

-- A fault that cuts short what goes out.
abbrev pub IsCutting : AnswerFault → Type 0
IsCutting (Write written) = Unit {0}
IsCutting (OutOfMemory written) = Unit {0}
IsCutting _ = ⊥

module _ {X Y : Type 0} (asks : Asks X Y) (files : Files) where
  -- The files were at fault.
  pub files_failed : (first : Seen) (fault : FileFault) → IsFault asks files fault → IsFailed asks files first first (answer_fault fault)
  files_failed first (file.Read word fault) is = (is, refl)
  files_failed first (file.Input word fault) is = (is, refl)
  files_failed first file.OutOfMemory is = inl (refl, refl, inl is)

  module _ (given : Given) (found : X) (extras : Extras) (sound : AreSound asks files given found extras) (within : asks.AreWithin found extras) (road : Road) (is_road : IsRoadOf asks.direction given road)
      (nodes : Option (List ℕ)) (chosen : nodes ≡ extras.nodes) (queries : List Asking) (are : queries ≡ asks.problems found extras) where
    -- What is true of a road and queries is true of what the files denote.
    pub asked : (IsSo : Option (List ℕ) → Roads → (ℕ → ℕ → ℕ → ℕ → Type 0) → List Asking → Type 0) → IsSo nodes road.network (times_on road) queries → AreAsked asks files IsSo
    asked IsSo holds = record {
      given = given;
      found = found;
      extras = extras;
      sound = sound;
      within = within;
      so =
          subst (λ (r : Roads). IsSo extras.nodes r (times_in asks.direction given.table) (asks.problems found extras)) is_road.network (
          subst (λ (way : Direction). IsSo extras.nodes road.network (times_in way given.table) (asks.problems found extras)) is_road.way (
          subst (λ (kinds : List RawKind). IsSo extras.nodes road.network (IsDirected road.times.direction (TimetablesAnswer kinds given.table.steps)) (asks.problems found extras)) is_road.kinds (
          subst (λ (steps : List (ℕ × ℕ)). IsSo extras.nodes road.network (IsDirected road.times.direction (TimetablesAnswer road.times.tables.list.items steps)) (asks.problems found extras)) is_road.steps (
          subst (λ (qs : List Asking). IsSo extras.nodes road.network (times_on road) qs) are (
          subst (λ (o : Option (List ℕ)). IsSo o road.network (times_on road) queries) chosen holds)))));
    }

    -- What went out is whole.
    pub answered : (first now : Seen) (r : Result Y AnswerFault) → IfOk r (asks.IsWhole nodes road.network (times_on road) queries first now) → IfOk r (IsAnswered asks files first now)
    answered first now (Err fault) whole = tt
    answered first now (Ok answer) whole = asked (λ nodes roads answers problems. asks.IsWhole nodes roads answers problems first now answer) whole

    -- It was cut short, by the device or for memory.
    pub failed : ((nodes : Option (List ℕ)) (roads : Roads) (answers : ℕ → ℕ → ℕ → ℕ → Type 0) (problems : List Asking) (first now : Seen) (fault : AnswerFault) → asks.IsCut nodes roads answers problems first now fault → IsCutting fault)
        → (first now : Seen) (r : Result Y AnswerFault) → IfErr r (asks.IsCut nodes road.network (times_on road) queries first now) → IfErr r (IsFailed asks files first now)
    failed cuts first now (Ok answer) cut = tt
    failed cuts first now (Err (Write written)) cut = asked (λ nodes roads answers problems. asks.IsCut nodes roads answers problems first now (Write written)) cut
    failed cuts first now (Err (OutOfMemory written)) cut = inr (asked (λ nodes roads answers problems. asks.IsCut nodes roads answers problems first now (OutOfMemory written)) cut)
    failed cuts first now (Err (Read word fault)) cut = absurd (cuts _ _ _ _ _ _ _ cut)
    failed cuts first now (Err (Input word fault)) cut = absurd (cuts _ _ _ _ _ _ _ cut)
    failed cuts first now (Err BadOption) cut = absurd (cuts _ _ _ _ _ _ _ cut)
