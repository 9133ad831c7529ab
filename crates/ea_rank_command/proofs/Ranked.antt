-- Lines of rank errors that were sent, problem by problem.
use Rattle.std.proofs.Common.{◌≡◌, ℕ, zero, suc, map, ◌+◌, ◌-◌, ◌*◌, ◌^◌, ◌≤◌, ◌<◌, false, List, [], ◌∷◌, ◌++◌, length, take, get_or, refl, ap, ap₂, sym, ◌∙◌, arith, subst, append-nil, append_assoc}
use Rattle.std.specs.Prelude.{All, None, Option, Result, Ok, Err, IfOk, OnOk, codes}
use Rattle.std.specs.List.{flat_map}
use Rattle.std.specs.Io.KnownBytes.{Appends}
use Rattle.std.proofs.Math.Seq.{take-length}
use Rattle.std.proofs.lemmas.List.{take_more}
use native.Mathlib.Nat.{mul-le-mul}
use Rattle.ea_road.specs.Roads.{Roads}
use Rattle.ea_road.specs.Queries.{Asking}
use Rattle.ea_road.specs.declared.source.Source.{Source}
use Rattle.ea_load.specs.Starts.{Plan, asks_all, sources_from, run_problems}
use Rattle.ea_report.proofs.Pieces.{flat_map-map}
use Rattle.ea_rank.specs.declared.summary.Summary.{Summary}
use Rattle.ea_rank.specs.Summaries.{summary_of}
use Rattle.ea_report.specs.Report.{line, source_line}
use Rattle.ea_bytes.specs.Device.{BearsOn, Seen}
use Rattle.ea_report.specs.Delivery.{Delivery, all_sent}
use Rattle.ea_report.specs.Sent.{IsCutBy, IsReason, Stops}
use Rattle.ea_report.specs.declared.report.WriteFault.{WriteFault}
use Rattle.ea_report.specs.declared.report.WriteFaultKind.TheVariants.{WriteFailed}
use Rattle.ea_rank_command.specs.Ranks.{AddsRanks, AreRanks, AreRankTexts, AreDelivered, HasOneSource, IsRankFront, IsRankingCut, IsRankText, StopsRanks, rank_asks, rank_files, rank_line}
use Rattle.ea_input.specs.Sources.{DenotesSources}
use Rattle.ea_options.specs.declared.options.RunOptions.{RunOptions}
use Rattle.ea_load.specs.Asked.{AreSound}
use Rattle.ea_load.specs.Files.{Extras, IsBorne, IsBorneIfThere, Reading, bytes_there}
use Rattle.ea_load.specs.Given.{AreGiven, Given}
use Rattle.ea_load.proofs.Outcomes.{IsCutting, road_there}
use Rattle.ea_load.specs.declared.answer_fault.AnswerFault.{AnswerFault}
use Rattle.ea_load.specs.declared.answer_fault.AnswerFault.TheVariants.{Read, Input, BadOption, Write, OutOfMemory}

-- The number of all workers' heaps is within its limits.
pub few_heaps : (workers heaps : ℕ) → 1 ≤ workers → workers ≤ 16 → 2 ≤ heaps → heaps ≤ 8 → (2 ≤ workers * heaps) × (workers * heaps ≤ 128)
few_heaps workers heaps some few two eight = (mul-le-mul some two, mul-le-mul few eight)

-- The parts of a line of two fields before others, and of one of three fields.
two_fields : (a b rest : List ℕ) → ((a ++ 32 ∷ (b ++ [])) ++ 10 ∷ []) ++ rest ≡ a ++ 32 ∷ (b ++ 10 ∷ rest)
two_fields a b rest = append_assoc (a ++ 32 ∷ (b ++ [])) (10 ∷ []) rest ∙ append_assoc a (32 ∷ (b ++ [])) (10 ∷ rest) ∙ ap (λ (t : List ℕ). a ++ 32 ∷ (t ++ 10 ∷ rest)) (append-nil b)

three_fields : (a b c : List ℕ) → (a ++ 32 ∷ (b ++ 32 ∷ (c ++ []))) ++ 10 ∷ [] ≡ a ++ 32 ∷ (b ++ 32 ∷ (c ++ 10 ∷ []))
three_fields a b c =
    append_assoc a (32 ∷ (b ++ 32 ∷ (c ++ []))) (10 ∷ [])
    ∙ ap (λ (t : List ℕ). a ++ 32 ∷ t) (append_assoc b (32 ∷ (c ++ [])) (10 ∷ []) ∙ ap (λ (t : List ℕ). b ++ 32 ∷ (t ++ 10 ∷ [])) (append-nil c))

pub two_lines : (node departure pops greatest sum : List ℕ)
    → 115 ∷ 32 ∷ (node ++ 32 ∷ (departure ++ 10 ∷ 114 ∷ 32 ∷ (pops ++ 32 ∷ (greatest ++ 32 ∷ (sum ++ 10 ∷ []))))) ≡ line (codes "s") (node ∷ departure ∷ []) ++ line (codes "r") (pops ∷ greatest ∷ sum ∷ [])
two_lines node departure pops greatest sum =
    sym (ap (λ (t : List ℕ). 115 ∷ 32 ∷ t) (two_fields node departure (line (codes "r") (pops ∷ greatest ∷ sum ∷ [])))
    ∙ ap (λ (t : List ℕ). 115 ∷ 32 ∷ (node ++ 32 ∷ (departure ++ 10 ∷ 114 ∷ 32 ∷ t))) (three_fields pops greatest sum))

-- The same text, sent in pieces.
abbrev pub two_lines_pieces : (node departure pops greatest sum : List ℕ) → List (List ℕ)
two_lines_pieces node departure pops greatest sum =
    let space = 32 ∷ [] in
    (115 ∷ 32 ∷ []) ∷ node ∷ space ∷ departure ∷ (10 ∷ 114 ∷ 32 ∷ []) ∷ pops ∷ space ∷ greatest ∷ space ∷ sum ∷ (10 ∷ []) ∷ []

pub two_lines_of : {X : Type 0} (bytes : X → List ℕ) (pieces : List X) (node departure pops greatest sum : List ℕ)
    → map bytes pieces ≡ two_lines_pieces node departure pops greatest sum
    → flat_map bytes pieces ≡ line (codes "s") (node ∷ departure ∷ []) ++ line (codes "r") (pops ∷ greatest ∷ sum ∷ [])
two_lines_of bytes pieces node departure pops greatest sum same =
    flat_map-map (λ piece. piece) bytes pieces ∙ ap (flat_map (λ piece. piece)) same ∙ two_lines node departure pops greatest sum

-- The line of the only source.
pub only_line : (sources : List Source) (d : Source) → length sources ≡ 1 → flat_map source_line sources ≡ source_line (get_or sources 0 d)
only_line [] d one = absurd (omega (arith, one))
only_line (source ∷ []) d one = append-nil (source_line source)
only_line (source ∷ other ∷ sources) d one = absurd (omega (arith, one))

-- A text that stopped because of the device alone.
pub stops_for_device : (old new : Seen) (text : List ℕ) (d : Delivery) (fault : WriteFault) → fault.kind ≡ WriteFailed → Stops old d new fault text → Stops old d new (record { written = fault.written; kind = WriteFailed }) text
stops_for_device old new text d fault device stops = λ first before way.
    let cut = stops first before way in
    (cut.0, subst (λ kind. IsReason kind first new) device cut.1)

module _ (heaps seed : ℕ) (roads : Roads) (answers : ℕ → ℕ → ℕ → ℕ → Type 0) where
  -- The lines of a problem with one source.
  pub rank_text : (query : Asking) (sources : List Source) (d : Source) (found ranks : List ℕ) (summary : Summary) → sources ≡ query.sources → length query.sources ≡ 1 → AreRanks heaps seed roads answers query.sources found → ranks ≡ found → summary ≡ summary_of ranks
      → IsRankText heaps seed roads answers query (source_line (get_or sources 0 d) ++ rank_line summary)
  rank_text query sources d found ranks summary same one are_ranks same_ranks is = record {
    ranks = found;
    are_ranks = are_ranks;
    says = ap₂ (λ (front : List ℕ) (s : Summary). front ++ rank_line s) (ap (λ xs. source_line (get_or xs 0 d)) same ∙ sym (only_line query.sources d one)) (is ∙ ap summary_of same_ranks);
  }

  -- One more problem.
  texts_more : (front : List Asking) (query : Asking) (texts text : List ℕ) → AreRankTexts heaps seed roads answers front texts → IsRankText heaps seed roads answers query text → AreRankTexts heaps seed roads answers (front ++ query ∷ []) (texts ++ text)
  texts_more [] query texts text none is_text = (text, [], is_text, refl, rw none (sym (append-nil text)))
  texts_more (first ∷ front) query texts text some is_text =
      (some.0, some.1 ++ text, some.2, texts_more front query some.1 text some.3 is_text, rw some.4 (append_assoc some.0 some.1 text))

  module _ (all : List Asking) (i : ℕ) (query : Asking) (inside : i < length all) (at : query ≡ get_or all i query) where
    one_more : take (i + 1) all ≡ take i all ++ query ∷ []
    one_more = take_more all i query inside ∙ ap (λ q. take i all ++ q ∷ []) (sym at)

    -- The next problem's lines are sent.
    pub next_delivered : (first old now : Seen) (d e : Delivery) → AreDelivered heaps seed roads answers (take i all) first old d → AddsRanks heaps seed roads answers query old d now e → AreDelivered heaps seed roads answers (take (i + 1) all) first now e
    next_delivered first old now d e way more =
        (way.0 ++ more.0, subst (λ qs. AreRankTexts heaps seed roads answers qs (way.0 ++ more.0)) (sym one_more) (texts_more (take i all) query way.0 more.0 way.1 more.1), more.2 first way.0 way.2)

    -- They stop.
    module _ (first old now : Seen) (before interruptions : ℕ) (borne : interruptions ≤ 1000) (few : before + 2 ^ 70 < 2 ^ 128 - 1) (way : AreDelivered heaps seed roads answers (take i all) first old (all_sent before interruptions)) where
      -- Nothing of them was sent.
      nothing : (written : ℕ) → written ≡ before → now ≡ old → IsRankFront heaps seed roads answers all first.bytes now.bytes written
      nothing written same still =
          let whole : way.0 ≡ way.2.sent = way.2.whole ∙ append-nil way.2.sent in
          let size : written ≡ length way.0 = omega (arith, same, way.2.counted, few, ap length (sym whole)) in
          let front : take written way.0 ≡ way.2.sent = ap (λ (n : ℕ). take n way.0) size ∙ take-length way.0 ∙ whole in
          record {
            count = i;
            text = way.0;
            are_texts = way.1;
            cut = (omega (arith, size), subst (λ t. Appends first.bytes now.bytes t) (sym front) (subst (λ (s : Seen). Appends first.bytes s.bytes way.2.sent) (sym still) way.2.appended));
          }

      -- And the device did not give up.
      still_borne : now ≡ old → BearsOn first now
      still_borne still = subst (BearsOn first) (sym still) (way.2.borne.0, omega (arith, way.2.borne.1.0, borne))

      pub ranks_stop : (fault : AnswerFault) → StopsRanks heaps seed roads answers query old (all_sent before interruptions) now fault → IsRankingCut heaps seed roads answers all first now fault
      ranks_stop (Write written) stop =
          let text : List ℕ = way.0 ++ stop.0 in
          let cut : IsCutBy first now text (record { written = written; kind = WriteFailed }) = stop.3 (omega (arith, few, stop.2)) first way.0 way.2 in (
            record {
              count = i + 1;
              text = text;
              are_texts = subst (λ qs. AreRankTexts heaps seed roads answers qs text) (sym one_more) (texts_more (take i all) query way.0 stop.0 way.1 stop.1);
              cut = cut.0;
            },
            cut.1,
          )
      ranks_stop (OutOfMemory written) still = (nothing written still.0 still.1, still_borne still.1)
      ranks_stop (Read word fault) stop = absurd stop
      ranks_stop (Input word fault) stop = absurd stop
      ranks_stop BadOption stop = absurd stop

-- Each source alone is a problem with one source.
each_mapped : {X Y : Type 0} (P : Y → Type 0) (f : X → Y) → ((x : X) → P (f x)) → (xs : List X) → All P (map f xs)
each_mapped P f holds [] k d lt = absurd (omega arith)
each_mapped P f holds (x ∷ xs) zero d lt = holds x
each_mapped P f holds (x ∷ xs) (suc k) d lt = each_mapped P f holds xs k d (omega arith)

pub each_alone : (plan : Plan) (nodes : List ℕ) → All HasOneSource (run_problems false plan nodes)
each_alone plan nodes = each_mapped HasOneSource (λ source. asks_all (source ∷ [])) (λ source. record { one = refl; all = refl }) (sources_from plan 0 nodes)

-- The lines are cut short by the device or by refused memory.
pub ranking_cuts : (heaps seed : ℕ) (roads : Roads) (answers : ℕ → ℕ → ℕ → ℕ → Type 0) (queries : List Asking) (first now : Seen) (fault : AnswerFault) → IsRankingCut heaps seed roads answers queries first now fault → IsCutting fault
ranking_cuts heaps seed roads answers queries first now (Write written) cut = tt
ranking_cuts heaps seed roads answers queries first now (OutOfMemory written) cut = tt
ranking_cuts heaps seed roads answers queries first now (Read word fault) cut = cut
ranking_cuts heaps seed roads answers queries first now (Input word fault) cut = cut
ranking_cuts heaps seed roads answers queries first now BadOption cut = cut

-- A fact of a call whose result is a unit.
pub on_ok : {E : Type 0} (P : Type 0) (r : Result (Unit {0}) E) → OnOk r P → IfOk r (λ done. P)
on_ok P (Ok done) holds = holds
on_ok P (Err fault) holds = tt

-- ---- no files of times and of nodes

abbrev pub alone : Extras
alone = record { times = None; nodes = None }

pub alone_sound : {R : Type 0} (options : RunOptions) (seen : R → Seen) (gr starts : Reading) (old new : Option R) (given : Given) (found : List ℕ)
    → AreGiven DenotesSources gr.old.bytes starts.old.bytes (bytes_there seen old) given found → IsBorne gr → IsBorne starts → IsBorneIfThere seen old new → AreSound (rank_asks options) (rank_files gr starts seen old new) given found alone
alone_sound options seen gr starts old new given found read of_gr of_starts of_tp = record {
  road = road_there (rank_asks options) seen gr starts (record { tp = old; times = None; nodes = None }) (record { tp = new; times = None; nodes = None }) given found read of_gr of_starts of_tp;
  extra = record { times = tt; nodes = tt };
}
