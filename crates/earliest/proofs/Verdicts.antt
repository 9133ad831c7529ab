-- The outcomes of checking a report.
use Rattle.std.proofs.Common.{◌≡◌, ℕ, List, refl, inl}
use Rattle.std.specs.Prelude.{Result}
use Rattle.ea_road.specs.Queries.{Asking}
use Rattle.ea_load.specs.declared.road.Road.{Road}
use Rattle.ea_load.specs.declared.file_fault.FileFault.{FileFault}
use Rattle.ea_load.specs.declared.file_fault.FileFault.TheVariants as file
use Rattle.ea_load.specs.Files.{Extras, Reading}
use Rattle.ea_load.specs.Given.{Given, IsRoadOf}
use Rattle.ea_check.specs.Checked.{IsChecked, sources_of}
use Rattle.ea_check.specs.Form.{report_lines}
use Rattle.ea_check.specs.declared.fault.CheckFault.{CheckFault}
use Rattle.ea_load.specs.Asked.{AreSound, Files}
use Rattle.ea_load.specs.Faults.{answer_fault}
use Rattle.ea_load.specs.Posed.{times_on}
use Rattle.ea_load.proofs.Outcomes.{asked}
use Rattle.ea_options.specs.declared.options.RunOptions.{RunOptions}
use Rattle.earliest.specs.Checks.{HasReport, IsFirstAtFault, IsJudged, IsUnjudged}
use Rattle.earliest.specs.Runs.{run_asks}

module _ (options : RunOptions) (files : Files) (report : Reading) where
  -- A file had a fault.
  pub unread : (fault : FileFault) → IsFirstAtFault options files report fault → IsUnjudged options files report (answer_fault fault)
  unread (file.Read word fault) is = is
  unread (file.Input word fault) is = is
  unread file.OutOfMemory is = (refl, inl is)

  -- A verdict on a road is one on what the files denote.
  pub judged : (given : Given) (found : List ℕ) (extras : Extras) → AreSound (run_asks options) files given found extras → (run_asks options).AreWithin found extras → (road : Road) → IsRoadOf options.direction given road
      → (queries : List Asking) → queries ≡ (run_asks options).problems found extras → (verdict : Result (Unit {0}) CheckFault) → HasReport options.direction road.network (times_on road) (sources_of queries) report verdict → IsJudged options files report verdict
  judged given found extras sound within road is_road queries are verdict has = record {
    text = has.0;
    whole = has.1;
    checked = asked (run_asks options) files given found extras sound within road is_road extras.nodes refl queries are
        (λ nodes roads answers problems. IsChecked roads answers (sources_of problems) (report_lines options.direction has.0) verdict) has.2;
  }
