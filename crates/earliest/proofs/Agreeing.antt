-- Two calls with the same answer sent one report.
use Rattle.std.proofs.Common.{◌≡◌, ℕ, List, length, refl, ap, sym, subst}
use Rattle.std.specs.Prelude.{Option, Some, None, option_map, unwrap_or}
use Rattle.std.proofs.lemmas.Option.{none-some}
use Rattle.ea_bytes.specs.Device.{Seen}
use Rattle.ea_bytes.specs.Text.{field_lines}
use Rattle.ea_input.specs.Sources.{DenotesSources}
use Rattle.ea_input.specs.Pairs.{DenotesPairs}
use Rattle.ea_input.specs.Times.{DenotesTimes}
use Rattle.ea_load.specs.Files.{AreExtras, Extras, IsAll, IsAllIfThere, IsFoundIn}
use Rattle.ea_load.specs.Given.{AreGiven, Denotes, Given}
use Rattle.ea_load.specs.Asked.{Files, tp_had}
use Rattle.earliest.specs.SameBytes.{AnsweredPairsAgree, AnsweredRunsAgree, Answering, AnswersPairs, AnswersRun, DenoteExtras, DenotesOptional, HadTexts, IsPairReport, IsRunReport, Sends, Texts, Wanted, wanted_by}
use Rattle.earliest.proofs.OneReport.{pairs_have_one_report, runs_have_one_report}

-- A known text, if there is one.
known_text : (tp text : Option (List ℕ)) → IsAllIfThere (option_map Some tp) text → text ≡ tp
known_text None None is = refl
known_text (Some left) (Some text) is = ap Some is
known_text None (Some text) is = absurd is
known_text (Some left) None is = absurd is

-- What known texts denote.
denoted_by : {X : Type 0} (DenotesStarts : ℕ → List (List (List ℕ)) → X → Type 0) (gr starts : List ℕ) (tp : Option (List ℕ)) (given : Given) (found : X) → AreGiven DenotesStarts (Some gr) (Some starts) (option_map Some tp) given found
    → Denotes gr tp given × DenotesStarts given.graph.nodes (field_lines starts) found
denoted_by DenotesStarts gr starts tp given found read = (
  subst (λ text. Denotes text tp given) read.all_gr (subst (λ text. Denotes read.gr_text text given) (known_text tp read.tp_text read.all_tp) read.denoted),
  subst (λ text. DenotesStarts given.graph.nodes (field_lines text) found) read.all_starts read.starts_denoted,
)

-- The same for readers that had them.
denoted_had : {X : Type 0} (DenotesStarts : ℕ → List (List (List ℕ)) → X → Type 0) (texts : Texts) (files : Files) (given : Given) (found : X) → HadTexts texts files → AreGiven DenotesStarts files.gr.old.bytes files.starts.old.bytes (tp_had files) given found
    → Denotes texts.gr texts.tp given × DenotesStarts given.graph.nodes (field_lines texts.starts) found
denoted_had {X} DenotesStarts texts files given found had read =
    denoted_by DenotesStarts texts.gr texts.starts texts.tp given found (
    subst (λ (o : Option (List ℕ)). AreGiven DenotesStarts o (Some texts.starts) (option_map Some texts.tp) given found) had.of_gr (
    subst (λ (o : Option (List ℕ)). AreGiven DenotesStarts files.gr.old.bytes o (option_map Some texts.tp) given found) had.of_starts (
    subst (λ (o : Option (Option (List ℕ))). AreGiven DenotesStarts files.gr.old.bytes files.starts.old.bytes o given found) had.of_tp read)))

-- What the known text of an optional file denotes.
optional_had : {X : Type 0} (IsMeant : List (List (List ℕ)) → X → Type 0) (old new : Option Seen) (text : Option (List ℕ)) (x : Option X) → option_map (λ (seen : Seen). seen.bytes) old ≡ option_map Some text → IsFoundIn IsMeant old new x → DenotesOptional IsMeant text x
optional_had IsMeant None None None None had found = tt
optional_had IsMeant None None (Some text) None had found = absurd (none-some _ had)
optional_had IsMeant (Some old) (Some new) None (Some x) had found = absurd (none-some _ (sym had))
optional_had IsMeant (Some old) (Some new) (Some text) (Some x) had found =
    let left : old.bytes ≡ Some text = ap (λ o. unwrap_or o None) had in
    let all = subst (λ (o : Option (List ℕ)). IsAll o found.0) left found.1.all in
    subst (λ (t : List ℕ). IsMeant (field_lines t) x) all found.2
optional_had IsMeant None None text (Some x) had found = absurd found
optional_had IsMeant None (Some new) text None had found = absurd found
optional_had IsMeant None (Some new) text (Some x) had found = absurd found
optional_had IsMeant (Some old) None text None had found = absurd found
optional_had IsMeant (Some old) None text (Some x) had found = absurd found
optional_had IsMeant (Some old) (Some new) text None had found = absurd found

extras_had : (texts : Texts) (files : Files) (starts nodes : ℕ) (extras : Extras) → HadTexts texts files → AreExtras starts nodes files.extras extras → DenoteExtras texts starts nodes extras
extras_had texts files starts nodes extras had are = record {
  times = optional_had (DenotesTimes starts) files.extras.times_old files.extras.times_new texts.times extras.times had.of_times are.times;
  nodes = optional_had (DenotesSources nodes) files.extras.nodes_old files.extras.nodes_new texts.nodes extras.nodes had.of_nodes are.nodes;
}

run_report : (texts : Texts) (call : Answering) → (answers : AnswersRun texts call) → IsRunReport texts (wanted_by call.options) answers.answered.so.report
run_report texts call answers =
    let answered = answers.answered in
    let denoted = denoted_had DenotesSources texts call.files answered.given answered.found answers.had answered.sound.road.denoted in
    record {
      given = answered.given;
      sources = answered.found;
      extras = answered.extras;
      denoted = denoted.0;
      starts = denoted.1;
      extra = extras_had texts call.files (length answered.found) answered.given.graph.nodes answered.extras answers.had answered.sound.extra;
      reported = answered.so.are_reported;
    }

pair_report : (texts : Texts) (call : Answering) → (answers : AnswersPairs texts call) → IsPairReport texts (wanted_by call.options) answers.answered.so.report
pair_report texts call answers =
    let answered = answers.answered in
    let denoted = denoted_had DenotesPairs texts call.files answered.given answered.found answers.had answered.sound.road.denoted in
    record {
      given = answered.given;
      pairs = answered.found;
      extras = answered.extras;
      denoted = denoted.0;
      starts = denoted.1;
      extra = extras_had texts call.files (length answered.found) answered.given.graph.nodes answered.extras answers.had answered.sound.extra;
      reported = answered.so.are_reported;
    }

pub answered_runs_agree : AnsweredRunsAgree
answered_runs_agree texts this that alike a b =
    let mine = run_report texts this a in
    let yours = subst (λ (wanted : Wanted). IsRunReport texts wanted b.answered.so.report) (sym alike) (run_report texts that b) in
    let same : b.answered.so.report ≡ a.answered.so.report = runs_have_one_report texts (wanted_by this.options) b.answered.so.report a.answered.so.report yours mine in
    (a.answered.so.report, mine, a.answered.so.appended, subst (λ (report : List ℕ). Sends that report) same b.answered.so.appended)

pub answered_pairs_agree : AnsweredPairsAgree
answered_pairs_agree texts this that alike a b =
    let mine = pair_report texts this a in
    let yours = subst (λ (wanted : Wanted). IsPairReport texts wanted b.answered.so.report) (sym alike) (pair_report texts that b) in
    let same : b.answered.so.report ≡ a.answered.so.report = pairs_have_one_report texts (wanted_by this.options) b.answered.so.report a.answered.so.report yours mine in
    (a.answered.so.report, mine, a.answered.so.appended, subst (λ (report : List ℕ). Sends that report) same b.answered.so.appended)
