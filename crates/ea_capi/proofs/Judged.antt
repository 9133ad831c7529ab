-- The verdict on a report of problems.
use Rattle.std.proofs.Common.{◌≡◌, ◌<◌, ℕ, List, length, subst}
use Rattle.std.specs.Prelude.{All}
use Rattle.ea_road.specs.Queries.{Asking}
use Rattle.ea_check.specs.Form.{Line}
use Rattle.ea_load.specs.declared.road.Road.{Road}
use Rattle.ea_capi.specs.declared.checks.Starts.{Starts}
use Rattle.ea_capi.specs.declared.fault_numbers.Fault.{Fault}
use Rattle.ea_capi.specs.Checks.{AreTimely, IsAnswerTo, judged, no_nodes, IsJudged, told, unasked, problems_of}

pub answer_of : (road : Road) (starts : Starts) (nodes : List ℕ) (asked : List Asking) (lines : List Line) (fault : Fault) → asked ≡ problems_of starts nodes
    → AreTimely starts (length nodes) → All (λ (node : ℕ). 0 < node) nodes → IsJudged road asked lines fault → IsAnswerTo road starts nodes lines fault
answer_of road starts nodes asked lines fault same timely numbered found = either (subst (λ (it : List Asking). IsJudged road it lines fault) same found) where
  either : IsJudged road (problems_of starts nodes) lines fault → IsAnswerTo road starts nodes lines fault
  either (told posed verdict) = judged timely (numbered, posed) verdict
  either (unasked not_so is) = no_nodes timely (λ posed. not_so posed.1) is
