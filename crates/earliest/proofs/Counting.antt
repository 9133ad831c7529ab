-- The counts of problems, one after another.
use Rattle.std.proofs.Common.{◌≡◌, ℕ, ◌+◌, ◌<◌, List, [], ◌∷◌, ◌++◌, length, take, get_or, refl, ap, sym, ◌∙◌, arith, subst}
use Rattle.std.proofs.lemmas.List.{take_more}
use Rattle.std.proofs.lemmas.List.Sums.{sum_by_push}
use Rattle.ea_road.specs.Queries.{Asking}
use Rattle.ea_engine.specs.declared.settings.Settings.{Settings}
use Rattle.ea_report.specs.declared.stats.Totals.{Totals}
use Rattle.earliest.specs.Counted.{AreCountsOf, AreCountsOfAll, AreTotals, Counts, IsTotal, plus, totals_by, totals_of}

-- An element of a list, by an index inside it.
pub one_of : {X : Type 0} (xs : List X) (k : ℕ) → k < length xs → X
one_of [] k lt = absurd (omega (arith, lt))
one_of (x ∷ xs) k lt = x

-- One more problem.
pub counted_more : (settings : Settings) (front : List Asking) (query : Asking) (all : List Counts) (counts : Counts) → AreCountsOfAll settings front all → AreCountsOf settings query counts → AreCountsOfAll settings (front ++ query ∷ []) (all ++ counts ∷ [])
counted_more settings [] query [] counts are is = (is, tt)
counted_more settings [] query (x ∷ xs) counts are is = absurd are
counted_more settings (q ∷ front) query [] counts are is = absurd are
counted_more settings (q ∷ front) query (x ∷ xs) counts are is = (are.0, counted_more settings front query xs counts are.1 is)

totals_same : (a a' b b' c c' d d' e e' f f' g g' h h' : ℕ) → a ≡ a' → b ≡ b' → c ≡ c' → d ≡ d' → e ≡ e' → f ≡ f' → g ≡ g' → h ≡ h'
    → (λ (t : Totals). t) (record { seeded = a; pushed = b; popped = c; stale = d; scanned = e; returned = f; drained = g; finish = h }) ≡ record { seeded = a'; pushed = b'; popped = c'; stale = d'; scanned = e'; returned = f'; drained = g'; finish = h' }
totals_same a a' b b' c c' d d' e e' f f' g g' h h' p1 p2 p3 p4 p5 p6 p7 p8 = rw (p1, p2, p3, p4, p5, p6, p7, p8) refl

totals_more : (all : List Counts) (counts : Counts) → totals_of (all ++ counts ∷ []) ≡ plus (totals_of all) (totals_by counts)
totals_more all counts = totals_same _ _ _ _ _ _ _ _ _ _ _ _ _ _ _ _
    (sum_by_push (λ (c : Counts). (totals_by c).seeded) all counts)
    (sum_by_push (λ (c : Counts). (totals_by c).pushed) all counts)
    (sum_by_push (λ (c : Counts). (totals_by c).popped) all counts)
    (sum_by_push (λ (c : Counts). (totals_by c).stale) all counts)
    (sum_by_push (λ (c : Counts). (totals_by c).scanned) all counts)
    (sum_by_push (λ (c : Counts). (totals_by c).returned) all counts)
    (sum_by_push (λ (c : Counts). (totals_by c).drained) all counts)
    (sum_by_push (λ (c : Counts). (totals_by c).finish) all counts)

-- The next problem of a list.
pub totals_next : (settings : Settings) (all : List Asking) (i : ℕ) (query : Asking) → i < length all → query ≡ get_or all i query → (old new : Totals) → AreTotals settings (take i all) old → (more : Totals) → IsTotal settings query more → new ≡ plus old more → AreTotals settings (take (i + 1) all) new
totals_next settings all i query inside at old new before more is sum = record {
  all = before.all ++ is.0 ∷ [];
  counted = subst (λ qs. AreCountsOfAll settings qs (before.all ++ is.0 ∷ [])) (sym (take_more all i query inside ∙ ap (λ q. take i all ++ q ∷ []) (sym at))) (counted_more settings (take i all) query before.all is.0 before.counted is.1);
  sums = rw (sum, before.sums, is.2) (sym (totals_more before.all is.0));
}
