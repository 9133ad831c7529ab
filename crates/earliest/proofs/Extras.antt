-- What the files of times and of nodes hold.
use Rattle.std.proofs.Common.{◌≡◌, ℕ, List, length, sym, subst}
use Rattle.std.specs.Prelude.{IfSome, Option, Some, None}
use Rattle.ea_bytes.specs.Device.{Seen}
use Rattle.ea_bytes.specs.Text.{field_lines}
use Rattle.ea_input.specs.Sources.{DenotesSources}
use Rattle.ea_input.specs.Times.{DenotesTimes}
use Rattle.ea_road.specs.Roads.{Roads}
use Rattle.ea_load.specs.declared.departures.Schedule.{Schedule}
use Rattle.ea_load.specs.declared.file_fault.FileFault.{FileFault}
use Rattle.ea_load.specs.declared.files.OptionalFiles.{OptionalFiles}
use Rattle.ea_load.specs.Files.{AreExtras, ExtraFiles, Extras, IsExtraFault, IsFoundIn}
use Rattle.ea_load.specs.Starts.{Plan, plan_of}
use Rattle.ea_options.specs.declared.options.RunOptions.{RunOptions}
use Rattle.earliest.specs.Runs.{plan_by}
use Rattle.ea_load.proofs.Denoting.{sources_are_nodes, times_are_many}
use Rattle.ea_report.specs.Asked.{Shape}
use Rattle.ea_batch.specs.Solved.{IsShown}

-- Own times are as many as the starts.
pub as_many : (starts : ℕ) (old new : Option Seen) (times : Option (List ℕ)) → IsFoundIn (DenotesTimes starts) old new times → IfSome times (λ own. length own ≡ starts)
as_many starts None None None found = tt
as_many starts (Some old) (Some new) (Some times) found = times_are_many starts (field_lines found.0) times found.2
as_many starts None None (Some times) found = absurd found
as_many starts None (Some new) None found = absurd found
as_many starts None (Some new) (Some times) found = absurd found
as_many starts (Some old) None None found = absurd found
as_many starts (Some old) None (Some times) found = absurd found
as_many starts (Some old) (Some new) None found = absurd found

-- Chosen nodes are nodes of the network, and no more than a file has.
pub are_shown : (roads : Roads) (shape : Shape) (old new : Option Seen) → IsFoundIn (DenotesSources roads.nodes) old new shape.chosen → IsShown roads shape
are_shown roads shape old new found = by shape.chosen old new found where
  by : (chosen : Option (List ℕ)) (old new : Option Seen) → IsFoundIn (DenotesSources roads.nodes) old new chosen → IsShown roads (record { style = shape.style; chosen = chosen })
  by None None None found = record { chosen = tt; few = tt }
  by (Some nodes) (Some old) (Some new) found =
      let are = sources_are_nodes roads.nodes (field_lines found.0) nodes found.2 in
      record { chosen = are.0; few = are.1 }
  by (Some nodes) None None found = absurd found
  by None None (Some new) found = absurd found
  by (Some nodes) None (Some new) found = absurd found
  by None (Some old) None found = absurd found
  by (Some nodes) (Some old) None found = absurd found
  by None (Some old) (Some new) found = absurd found

-- A schedule by the options has a time for each start.
pub schedule_has : (o : RunOptions) (schedule : Schedule) (starts : ℕ) (times : Option (List ℕ)) (old new : Option Seen) → plan_of schedule ≡ plan_by o times → IsFoundIn (DenotesTimes starts) old new times → (count : ℕ) → count ≡ starts → IfSome (plan_of schedule).times (λ own. length own ≡ count)
schedule_has o schedule starts times old new is found count same =
    subst (λ (n : ℕ). IfSome (plan_of schedule).times (λ own. length own ≡ n)) (sym same) (subst (λ (plan : Plan). IfSome plan.times (λ own. length own ≡ starts)) (sym is) (as_many starts old new times found))

-- Extras that were read for numbers equal to these.
pub extras_for : (starts starts' nodes nodes' : ℕ) (files : ExtraFiles) (extras : Extras) → starts ≡ starts' → nodes ≡ nodes' → AreExtras starts nodes files extras → AreExtras starts' nodes' files extras
extras_for starts starts' nodes nodes' files extras a b are = subst (λ (n : ℕ). AreExtras n nodes' files extras) a (subst (λ (n : ℕ). AreExtras starts n files extras) b are)

pub extra_fault_for : (starts starts' nodes nodes' : ℕ) (files : ExtraFiles) (fault : FileFault) → starts ≡ starts' → nodes ≡ nodes' → IsExtraFault starts nodes files fault → IsExtraFault starts' nodes' files fault
extra_fault_for starts starts' nodes nodes' files fault a b is = subst (λ (n : ℕ). IsExtraFault n nodes' files fault) a (subst (λ (n : ℕ). IsExtraFault starts n files fault) b is)

-- Readers of files that may be left out.
abbrev pub optional_files : {R : Type 0} → Option R → Option R → Option R → OptionalFiles R
optional_files tp times nodes = record { tp = tp; times = times; nodes = nodes }

-- The same for extras that were read for this number of nodes.
pub shown_for : (roads : Roads) (shape : Shape) (size : ℕ) (chosen : Option (List ℕ)) (old new : Option Seen) → size ≡ roads.nodes → shape.chosen ≡ chosen → IsFoundIn (DenotesSources size) old new chosen → IsShown roads shape
shown_for roads shape size chosen old new a b found =
    are_shown roads shape old new (subst (λ (c : Option (List ℕ)). IsFoundIn (DenotesSources roads.nodes) old new c) (sym b) (subst (λ (n : ℕ). IsFoundIn (DenotesSources n) old new chosen) a found))
