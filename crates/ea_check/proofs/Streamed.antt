-- The verdict on a report whose lines are read as its bytes come.
use Rattle.std.proofs.Common.{◌≡◌, ◌∙◌, refl, Bool, true, false, ℕ, ◌+◌, ◌<◌, List, [], ◌++◌, arith, ap, sym, subst, append_assoc}
use Rattle.std.proofs.lemmas.Bool.{false≢true}
use Rattle.std.specs.Prelude.{IfErr, OnOk, Result, Ok, Err, Some, None, if◌then◌else◌}
use Rattle.ea_base.specs.declared.direction.Direction.{Direction}
use Rattle.ea_blocks.proofs.Taken.{all_taken, was_borne, within_limit}
use Rattle.ea_bytes.specs.Device.{Seen}
use Rattle.ea_blocks.specs.Taking.{IsStopped, IsTakenBy, StopsTaking}
use Rattle.ea_bytes.specs.Text.{field_lines, fields_of}
use Rattle.ea_blocks.specs.declared.blocks.ReadFault.{ReadFault}
use Rattle.ea_road.specs.declared.source.Source.{Source}
use Rattle.ea_road.specs.Roads.{Roads}
use Rattle.ea_check.specs.declared.fault.CheckFault.{CheckFault}
use Rattle.ea_check.specs.declared.form.report_lines.ReportLines.{ReportLines}
use Rattle.ea_check.specs.declared.form.stop.Stop.{Stop}
use Rattle.ea_check.specs.declared.form.stop.Stop.TheVariants.{Device, Report}
use Rattle.ea_check.specs.Checked.{IsChecked}
use Rattle.ea_check.specs.Form.{AreInOrder, Line, spoken_from}
use Rattle.ea_check.specs.Judging.{HasVerdict, JudgesTo, judged_as}
use Rattle.ea_check.specs.Reads.{IsWrong}
use Rattle.ea_check.specs.Stops.{IsStop}
use Rattle.ea_check.specs.Streams.{Begins, IsSound, IsUnread, IsWholeText, Leads, LeadsTo, Skips, ahead, found_then, most_bytes, last_of}
use Rattle.ea_check.proofs.Composing.{spoken_in_order}
use Rattle.ea_check.proofs.Stopping.{then_lines}
use Rattle.ea_check.proofs.Streaming.{stops_on}

-- the lines that are left are in the order of their numbers
found_in_order : (found : Bool) (line : Line) (texts : List (List (List ℕ))) → (found ≡ true → 0 < line.number) → AreInOrder (found_then (if found then Some line else None) (spoken_from line.way (line.number + 1) texts))
found_in_order true line texts some = (some refl, spoken_in_order line.way (line.number + 1) line.number texts (omega arith))
found_in_order false line texts some = tt

pub ahead_in_order : (lines : ReportLines) (text : List ℕ) → IsSound lines → AreInOrder (ahead lines text)
ahead_in_order lines text sound = found_in_order lines.found (record { number = lines.count; fields = fields_of (last_of lines); way = lines.way }) (field_lines text) sound.number

-- reading stops behind lines that were read
module _ (Has : List Line → Result (Unit {0}) CheckFault → Type 0) (P : List Line → List Line → Type 0) (Bad : List Line → ℕ → Type 0) where
  pub judged_behind : ((lines next : List Line) → P lines next → (fault : CheckFault) → IsWrong (Bad next) fault → Has lines (Err fault)) → (old mid new : Seen) (before between after : ReportLines) (stop : Stop) → LeadsTo P old before mid between → IsStop Bad mid between new after stop → JudgesTo Has old before new after (Err stop)
  judged_behind more old mid new before between after (Report fault) front back =
      then_lines P (λ lines others. IsWrong (Bad lines) fault) (λ lines others. Has lines (Err fault)) (λ lines middle next here there. more lines middle here fault there) old mid new before between after front back
  judged_behind more old mid new before between after (Device fault) front back =
      stops_on (λ text next. P (ahead before text) (ahead between next)) old mid new before between fault front back

pub verdict_leads : (Has : List Line → Result (Unit {0}) CheckFault → Type 0) (old new : Seen) (before after : ReportLines) (verdict : Result (Unit {0}) CheckFault) → JudgesTo Has old before new after (judged_as verdict) → LeadsTo (λ lines others. Has lines verdict) old before new after
verdict_leads Has old new before after (Ok _) judges = judges
verdict_leads Has old new before after (Err fault) judges = judges

module _ (way : Direction) (first begun read last : Seen) (start after : ReportLines) (begins : Begins way most_bytes first begun start) where
  -- the device stops after lines that were read
  pub whole_stops : (P : List ℕ → List ℕ → Type 0) (fault : ReadFault) → Leads P begun start read after → StopsTaking read after.blocks last fault → IsStopped most_bytes first last fault
  whole_stops P fault leads stops = stops most_bytes first (begins.got ++ leads.got) (leads.taken most_bytes first begins.got begins.taken)

  -- the lines were read, and then the rest of the device
  pub whole_checked : (roads : Roads) (answers : ℕ → ℕ → ℕ → ℕ → Type 0) (queries : List (List Source)) (verdict : Result (Unit {0}) CheckFault) (end : ReportLines) → LeadsTo (λ lines others. IsChecked roads answers queries lines verdict) begun start read after → Skips read after last end → HasVerdict way roads answers queries first last verdict
  whole_checked roads answers queries verdict end leads skips =
      let behind = leads.got ++ skips.got in
      let text = begins.got ++ behind in
      let taken = subst (λ (l : List ℕ). IsTakenBy end.blocks most_bytes first last l) (append_assoc begins.got leads.got skips.got) (skips.taken most_bytes first (begins.got ++ leads.got) (leads.taken most_bytes first begins.got begins.taken)) in
      let none : start.ended ≡ true → behind ≡ [] = λ was.
      let there = leads.ended was in
      ap (λ (l : List ℕ). l ++ skips.got) there.1 ∙ skips.ended there.0 in
      record {
        text = text;
        whole = record {
          all = all_taken most_bytes first last text end.blocks.left end.blocks.interruptions taken (skips.end (leads.end begins.end));
          few = omega (arith, within_limit most_bytes first last text end.blocks.left end.blocks.interruptions taken);
          borne = was_borne most_bytes first last text end.blocks.left end.blocks.interruptions taken;
        };
        checked = subst (λ (ls : List Line). IsChecked roads answers queries ls verdict) (sym (begins.begins behind none)) (leads.holds skips.got skips.ended);
      }

-- a device that was only read to its end
module _ {X : Type 0} {way : Direction} (first last : Seen) (start : ReportLines) where
  pub skipped_whole : (end : ReportLines) (result : Result X ReadFault) → IsUnread way start → OnOk result (Skips first start last end) → OnOk result ((text : List ℕ) × IsWholeText first last text)
  skipped_whole end (Ok _) new skips =
      let text = skips.got in
      let taken = skips.taken most_bytes first [] (new.taken first) in (
        text,
        record {
          all = all_taken most_bytes first last text end.blocks.left end.blocks.interruptions taken (skips.end (λ was. absurd (false≢true (sym new.ended ∙ was))));
          few = omega (arith, within_limit most_bytes first last text end.blocks.left end.blocks.interruptions taken);
          borne = was_borne most_bytes first last text end.blocks.left end.blocks.interruptions taken;
        },
      )
  skipped_whole end (Err fault) new skips = tt

  pub skipped_stops : (result : Result X ReadFault) → IsUnread way start → IfErr result (StopsTaking first start.blocks last) → IfErr result (IsStopped most_bytes first last)
  skipped_stops (Ok _) new stops = tt
  skipped_stops (Err fault) new stops = stops most_bytes first [] (new.taken first)
