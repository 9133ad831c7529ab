-- Reports that were sent with their totals, or cut short.
use Rattle.std.proofs.Common.{◌≡◌, ℕ, ◌+◌, true, List, refl, sym, ◌∙◌, arith, subst}
use Rattle.std.specs.Prelude.{Option}
use Rattle.std.specs.Io.KnownBytes.{Appends}
use Rattle.std.proofs.KnownBytes.{Appends-trans}
use Rattle.ea_bytes.specs.Device.{Seen, BearsOn, GivesUp}
use Rattle.ea_road.specs.Roads.{Roads}
use Rattle.ea_road.specs.Queries.{Asking}
use Rattle.ea_report.specs.Sent.{IsCutAt}
use Rattle.ea_report.specs.declared.stats.Totals.{Totals}
use Rattle.ea_report.specs.Stats.{stats_text}
use Rattle.ea_report.specs.Asked.{Shape}
use Rattle.ea_batch.specs.Sent.{AreCutShort, AreSent, IsStoppedBy}
use Rattle.earliest.specs.Fronts.{in_problem, in_totals, IsCutShort, IsWritten, shape_by, totals_text}
use Rattle.ea_options.specs.declared.options.RunOptions.{RunOptions}
use Rattle.earliest.specs.Counted.{AreBalanced, AreTotals}
use Rattle.earliest.specs.Workers.{settings_by}
use Rattle.ea_load.proofs.Outcomes.{IsCutting}
use Rattle.ea_load.specs.declared.answer_fault.AnswerFault.{AnswerFault}
use Rattle.ea_load.specs.declared.answer_fault.AnswerFault.TheVariants.{Read, Input, BadOption, Write, OutOfMemory}

-- The totals after all reports.
module _ (options : RunOptions) (chosen : Option (List ℕ)) (roads : Roads) (answers : ℕ → ℕ → ℕ → ℕ → Type 0)
    (all : List Asking) (first old now : Seen) (before : ℕ) (totals : Totals) (sent : AreSent (shape_by options chosen) roads answers all first old before) where
  pub totals_cut : (size : ℕ) → options.stats ≡ true → AreTotals (settings_by options) all totals → IsCutAt old.bytes now.bytes (stats_text totals) size → GivesUp old now → IsCutShort options chosen roads answers all first now (Write (before + size))
  totals_cut size told counted cut gone = in_totals (before + size) refl (record {
    asked = told;
    old = old;
    before = before;
    sent = sent;
    totals = totals;
    counted = counted;
    size = size;
    is_written = refl;
    cut = cut;
    gives_up = gone;
  })

  pub all_written : Appends old.bytes now.bytes (totals_text options totals) → BearsOn old now → (options.stats ≡ true → AreTotals (settings_by options) all totals) → AreBalanced totals → IsWritten options chosen roads answers all first now totals
  all_written more bears counted balanced = record {
    report = sent.report;
    are_reported = sent.are_reported;
    appended = Appends-trans first.bytes old.bytes now.bytes sent.report _ sent.appended more;
    counted = counted;
    balanced = balanced;
    unfailed = bears.0 ∙ sent.unfailed;
    borne = omega (arith, bears.1, sent.borne);
  }

-- A report is cut short by the device or by refused memory.
pub cuts_short : (options : RunOptions) (chosen : Option (List ℕ)) (roads : Roads) (answers : ℕ → ℕ → ℕ → ℕ → Type 0) (problems : List Asking) (first now : Seen) (fault : AnswerFault) → IsCutShort options chosen roads answers problems first now fault → IsCutting fault
cuts_short options chosen roads answers problems first now fault (in_totals written is cut) = subst IsCutting (sym is) tt
cuts_short options chosen roads answers problems first now fault (in_problem cut) = by fault cut.stopped where
  by : (f : AnswerFault) → IsStoppedBy (shape_by options chosen) roads answers cut.query cut.old now cut.before f → IsCutting f
  by (Write written) stop = tt
  by (OutOfMemory written) stop = tt
  by (Read file fault) stop = stop
  by (Input file fault) stop = stop
  by BadOption stop = stop

-- A report in a shape that the options ask for was cut short.
pub cut_in_problem : (options : RunOptions) (chosen : Option (List ℕ)) (shape : Shape) → shape ≡ shape_by options chosen → (roads : Roads) (answers : ℕ → ℕ → ℕ → ℕ → Type 0) (problems : List Asking) (first now : Seen) (fault : AnswerFault)
    → AreCutShort shape roads answers problems first now fault → IsCutShort options chosen roads answers problems first now fault
cut_in_problem options chosen shape same roads answers problems first now fault cut = in_problem (subst (λ (s : Shape). AreCutShort s roads answers problems first now fault) same cut)

-- Reports that were sent in one shape were sent in an equal one.
pub sent_in : (shape other : Shape) → shape ≡ other → (roads : Roads) (answers : ℕ → ℕ → ℕ → ℕ → Type 0) (problems : List Asking) (first now : Seen) (written : ℕ) → AreSent shape roads answers problems first now written → AreSent other roads answers problems first now written
sent_in shape other same roads answers problems first now written sent = subst (λ (s : Shape). AreSent s roads answers problems first now written) same sent
