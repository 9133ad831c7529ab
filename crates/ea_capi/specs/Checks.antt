-- What a caller learns from the checker of reports.
use Rattle.std.specs.Prelude.{◌≡◌, ◌+◌, ◌≤◌, ◌<◌, ℕ, All, List, length, Ok, Err, Option, Some, None, nat_lt, unwrap_or}
use Rattle.ea_base.specs.declared.limits.TheConstants.{HORIZON}
use Rattle.ea_road.specs.declared.source.Source.{Source}
use Rattle.ea_road.specs.Queries.{Asking}
use Rattle.ea_check.specs.declared.fault.CheckFault.{CheckFault}
use Rattle.ea_check.specs.declared.fault.CheckFault.TheVariants.{OutOfMemory}
use Rattle.ea_check.specs.Checked.{AreCheckable, IsChecked, sources_of}
use Rattle.ea_check.specs.FaultNames.{fault_line, fault_number}
use Rattle.ea_check.specs.Form.{Line}
use Rattle.ea_load.specs.declared.road.Road.{Road}
use Rattle.ea_base.specs.declared.direction.Direction.TheVariants.{Forward}
use Rattle.ea_load.specs.Starts.{AreWithin, Plan, run_problems}
use Rattle.ea_capi.specs.declared.checks.Starts.{Starts}
use Rattle.ea_capi.specs.declared.fault_numbers.Fault.{Fault}
use Rattle.ea_capi.specs.Faults.{no_fault}
use Rattle.ea_capi.specs.Sessions.{answers_on}

-- A report's fault: its line, and 30 plus its number.
abbrev pub told_of_check : CheckFault → Fault
told_of_check OutOfMemory = record { line = 0; number = 13; text = 0 }
told_of_check fault = record { line = unwrap_or (fault_line fault) 0; number = 30 + fault_number fault; text = 3 }

-- The report is right; or this is its first fault; or memory was refused.
pub data IsVerdict (road : Road) (queries : List (List Source)) (lines : List Line) (fault : Fault) : Type 0 where
  right : fault ≡ no_fault → IsChecked road.network (answers_on road) queries lines (Ok tt) → IsVerdict road queries lines fault
  wrong : (found : CheckFault) → fault ≡ told_of_check found → IsChecked road.network (answers_on road) queries lines (Err found) → IsVerdict road queries lines fault

-- The first node departs at `depart`, each next one later by the gap.
abbrev pub plan_of : Starts → Plan
plan_of starts = record { depart = starts.depart; gap = starts.gap; times = None; direction = Forward }

-- The problems of a report.
abbrev pub problems_of : Starts → List ℕ → List Asking
problems_of starts nodes = run_problems (nat_lt 0 starts.joint) (plan_of starts) nodes

-- The numbers are within the horizon, and so are this many departures.
abbrev pub AreTimely : Starts → ℕ → Type 0
AreTimely starts count = (starts.depart ≤ HORIZON) × (starts.gap ≤ HORIZON) × AreWithin (plan_of starts) count

-- The checker accepts these problems on the road.
abbrev pub CanBeChecked : Road → List Asking → Type 0
CanBeChecked road problems = AreCheckable road.network (length road.times.tables.list.items) problems

-- Nodes numbered from 1, whose problems the checker accepts on the road.
abbrev pub ArePosed : Road → Starts → List ℕ → Type 0
ArePosed road starts nodes = All (λ node. 0 < node) nodes × CanBeChecked road (problems_of starts nodes)

-- What a caller learns if no text is at fault.
abbrev pub refused_by : ℕ → Fault
refused_by number = record { line = 0; number = number; text = 0 }

-- The verdict on a report of problems that the checker accepts; or it doesn't accept them.
pub data IsJudged (road : Road) (problems : List Asking) (lines : List Line) (fault : Fault) : Type 0 where
  told : CanBeChecked road problems → IsVerdict road (sources_of problems) lines fault → IsJudged road problems lines fault
  unasked : (CanBeChecked road problems → ⊥) → fault ≡ refused_by 18 → IsJudged road problems lines fault

-- The verdict on a report of searches from these nodes. Refusals in this order: a departure beyond the
-- horizon, a number that is no node of the road, memory.
pub data IsAnswerTo (road : Road) (starts : Starts) (nodes : List ℕ) (lines : List Line) (fault : Fault) : Type 0 where
  judged : AreTimely starts (length nodes) → ArePosed road starts nodes → IsVerdict road (sources_of (problems_of starts nodes)) lines fault → IsAnswerTo road starts nodes lines fault
  late : (AreTimely starts (length nodes) → ⊥) → fault ≡ refused_by 19 → IsAnswerTo road starts nodes lines fault
  no_nodes : AreTimely starts (length nodes) → (ArePosed road starts nodes → ⊥) → fault ≡ refused_by 18 → IsAnswerTo road starts nodes lines fault
  no_memory : AreTimely starts (length nodes) → All (λ node. 0 < node) nodes → fault ≡ refused_by 13 → IsAnswerTo road starts nodes lines fault

-- The same if there is a road.
abbrev pub IsToldOf : Option Road → Starts → List ℕ → List Line → Fault → Type 0
IsToldOf None starts nodes lines fault = fault ≡ refused_by 16
IsToldOf (Some road) starts nodes lines fault = IsAnswerTo road starts nodes lines fault
