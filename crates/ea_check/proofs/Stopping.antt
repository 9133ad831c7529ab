-- Reading that stops, as part of a longer one.
use Rattle.std.proofs.Common.{ℕ, List, ◌++◌, refl}
use Rattle.ea_bytes.specs.Device.{Seen}
use Rattle.ea_blocks.specs.Taking.{HasRoom}
use Rattle.ea_check.specs.declared.form.report_lines.ReportLines.{ReportLines}
use Rattle.ea_check.specs.declared.form.stop.Stop.{Stop}
use Rattle.ea_check.specs.declared.form.stop.Stop.TheVariants.{Device, Report}
use Rattle.ea_check.specs.Form.{Line}
use Rattle.ea_check.specs.Reads.{IsWrong}
use Rattle.ea_check.specs.Stops.{IsStop}
use Rattle.ea_check.specs.Streams.{FindsLine, Leads, LeadsTo, ahead, rest_of}
use Rattle.ea_check.proofs.Reading.{wrong_more}
use Rattle.ea_check.proofs.Streaming.{leads_also, leads_here, leads_on, stops_on}

-- nothing was read
module _ (P : List Line → List Line → Type 0) where
  pub lines_here : (seen : Seen) (lines : ReportLines) → HasRoom lines.blocks → ((text : List ℕ) → P (ahead lines text) (ahead lines text)) → LeadsTo P seen lines seen lines
  lines_here seen lines room holds =
      leads_here (λ text next. P (ahead lines text) (ahead lines next)) seen lines lines room refl refl (λ later none. holds (rest_of lines ++ later))

-- lines that were read, and then others
module _ (P Q R : List Line → List Line → Type 0) where
  pub then_lines : ((lines middle next : List Line) → P lines middle → Q middle next → R lines next) → (old mid new : Seen) (before between after : ReportLines) → LeadsTo P old before mid between → LeadsTo Q mid between new after → LeadsTo R old before new after
  then_lines all old mid new before between after front back =
      leads_on (λ text next. P (ahead before text) (ahead between next)) (λ text next. Q (ahead between text) (ahead after next)) (λ text next. R (ahead before text) (ahead after next)) (λ text middle next here there. all _ _ _ here there) old mid new before between after front back

module _ (P Q : List Line → List Line → Type 0) where
  pub lines_also : ((lines next : List Line) → P lines next → Q lines next) → (old new : Seen) (before after : ReportLines) → LeadsTo P old before new after → LeadsTo Q old before new after
  lines_also more old new before after leads =
      leads_also (λ text next. P (ahead before text) (ahead after next)) (λ text next. Q (ahead before text) (ahead after next)) (λ text next holds. more _ _ holds) old new before after leads

-- what is bad for a part is bad for the whole
module _ (P : List Line → List Line → Type 0) (Part Whole : List Line → ℕ → Type 0) where
  pub stop_behind : ((lines next : List Line) → P lines next → (number : ℕ) → Part next number → Whole lines number) → (old mid new : Seen) (before between after : ReportLines) (stop : Stop) → LeadsTo P old before mid between → IsStop Part mid between new after stop → IsStop Whole old before new after stop
  stop_behind more old mid new before between after (Report fault) front back =
      then_lines P (λ lines others. IsWrong (Part lines) fault) (λ lines others. IsWrong (Whole lines) fault) (λ lines middle next here there. wrong_more (Part middle) (Whole lines) fault (more lines middle here) there) old mid new before between after front back
  stop_behind more old mid new before between after (Device fault) front back =
      stops_on (λ text next. P (ahead before text) (ahead between next)) old mid new before between fault front back

module _ (Part Whole : List Line → ℕ → Type 0) where
  pub stop_also : ((lines : List Line) (number : ℕ) → Part lines number → Whole lines number) → (old new : Seen) (before after : ReportLines) (stop : Stop) → IsStop Part old before new after stop → IsStop Whole old before new after stop
  stop_also more old new before after (Report fault) stops =
      lines_also (λ lines others. IsWrong (Part lines) fault) (λ lines others. IsWrong (Whole lines) fault) (λ lines next there. wrong_more (Part lines) (Whole lines) fault (more lines) there) old new before after stops
  stop_also more old new before after (Device fault) stops = stops

-- a line was found before
module _ (Part Whole : List Line → ℕ → Type 0) where
  pub stop_found : (before between : ReportLines) → ((text middle : List ℕ) → FindsLine before between text middle → (number : ℕ) → Part (ahead between middle) number → Whole (ahead before text) number) → (old mid new : Seen) (after : ReportLines) (stop : Stop) → Leads (FindsLine before between) old before mid between → IsStop Part mid between new after stop → IsStop Whole old before new after stop
  stop_found before between more old mid new after (Report fault) front back =
      leads_on (FindsLine before between) (λ text next. IsWrong (Part (ahead between text)) fault) (λ text next. IsWrong (Whole (ahead before text)) fault) (λ text middle next here there. wrong_more (Part (ahead between middle)) (Whole (ahead before text)) fault (more text middle here) there) old mid new before between after front back
  stop_found before between more old mid new after (Device fault) front back = stops_on (FindsLine before between) old mid new before between fault front back
