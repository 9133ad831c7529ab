-- Reports that were sent one after another.
use Rattle.std.proofs.Common.{◌≡◌, ℕ, ◌+◌, ◌^◌, ◌<◌, ◌≤◌, List, [], ◌∷◌, ◌++◌, length, take, get_or, refl, ap, sym, ◌∙◌, arith, subst, inl, inr, append-nil, append_assoc, length-append}
use Rattle.std.proofs.KnownBytes.{Appends-trans, Appends-nil}
use Rattle.std.proofs.lemmas.List.{take_more}
use Rattle.std.proofs.lemmas.Option.{slice_get_read}
use Rattle.ea_bytes.specs.Device.{Seen}
use Rattle.ea_road.specs.Roads.{Roads}
use Rattle.ea_road.specs.Queries.{Asking}
use Rattle.ea_report.specs.Sent.{IsNotLess}
use Rattle.ea_load.specs.declared.answer_fault.AnswerFault.{AnswerFault}
use Rattle.ea_report.specs.Asked.{Shape}
use Rattle.ea_batch.specs.Reported.{IsReportOf, AreReported}
use Rattle.ea_batch.specs.Sent.{AreCutShort, AreSent, IsSent, IsStoppedBy}

module _ (shape : Shape) (roads : Roads) (answers : ℕ → ℕ → ℕ → ℕ → Type 0) where
  -- One more report.
  pub reported_more : (front : List Asking) (query : Asking) (texts text : List ℕ) → AreReported shape roads answers front texts → IsReportOf shape roads answers query text → AreReported shape roads answers (front ++ query ∷ []) (texts ++ text)
  reported_more [] query texts text none is_report = (text, [], is_report, refl, rw none (sym (append-nil text)))
  reported_more (first ∷ front) query texts text some is_report =
      (some.0, some.1 ++ text, some.2, reported_more front query some.1 text some.3 is_report, rw some.4 (append_assoc some.0 some.1 text))

  -- None was sent yet.
  pub sent_none : (first : Seen) → AreSent shape roads answers [] first first 0
  sent_none first = record { report = []; are_reported = refl; appended = Appends-nil first.bytes; counted = refl; unfailed = refl; borne = omega arith; monotone = omega arith }

  -- A count that doesn't fall.
  goes_on : (first old now : ℕ) → first < 2 ^ 64 → first ≤ old → IsNotLess old now → first ≤ now
  goes_on first old now fits before (inl h) = omega (arith, before, h)
  goes_on first old now fits before (inr h) = omega (arith, fits, h)

  -- One more was sent.
  pub sent_more : (front : List Asking) (query : Asking) (first old now : Seen) (before written : ℕ) → first.interrupted < 2 ^ 64 → AreSent shape roads answers front first old before → IsSent shape roads answers query old now before written → AreSent shape roads answers (front ++ query ∷ []) first now written
  sent_more front query first old now before written fits sent more = record {
    report = sent.report ++ more.text;
    are_reported = reported_more front query sent.report more.text sent.are_reported more.is_report;
    appended = Appends-trans first.bytes old.bytes now.bytes sent.report more.text sent.appended more.appended;
    counted = more.counted ∙ ap (λ (n : ℕ). n + length more.text) sent.counted ∙ sym (length-append sent.report more.text);
    unfailed = more.unfailed ∙ sent.unfailed;
    borne = omega (arith, more.borne, sent.borne, length-append front (query ∷ []));
    monotone = goes_on first.interrupted old.interrupted now.interrupted fits sent.monotone more.not_less;
  }

  -- The next problem of a list.
  module _ (all : List Asking) (i : ℕ) (query : Asking) (inside : i < length all) (at : query ≡ get_or all i query) where
    one_more : take (i + 1) all ≡ take i all ++ query ∷ []
    one_more = take_more all i query inside ∙ ap (λ q. take i all ++ q ∷ []) (sym at)

    -- Its report is sent.
    pub sent_next : (first old now : Seen) (before written : ℕ) → first.interrupted < 2 ^ 64 → AreSent shape roads answers (take i all) first old before → IsSent shape roads answers query old now before written → AreSent shape roads answers (take (i + 1) all) first now written
    sent_next first old now before written fits sent more = subst (λ qs. AreSent shape roads answers qs first now written) (sym one_more) (sent_more (take i all) query first old now before written fits sent more)

    -- Its report stops.
    pub stops : (first old now : Seen) (before : ℕ) → AreSent shape roads answers (take i all) first old before → (fault : AnswerFault) → IsStoppedBy shape roads answers query old now before fault → AreCutShort shape roads answers all first now fault
    stops first old now before sent fault stop = record {
      count = i;
      query = query;
      old = old;
      before = before;
      is_next = slice_get_read all (length all) i query refl inside at;
      sent = sent;
      stopped = stop;
    }
