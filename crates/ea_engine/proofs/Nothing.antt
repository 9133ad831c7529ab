-- Nothing open is lost.
use Rattle.std.proofs.Common.{◌≡◌, ◌≢◌, ℕ, zero, suc, ◌<◌, ◌≤◌, List, [], ◌∷◌, ◌++◌, length, map, get_or, ◌∙◌, ap, arith, subst, inl, inr, ◌⊎◌, None, Some, Option}
use Rattle.std.specs.Prelude.{Contains, Any}
use Rattle.std.proofs.lemmas.List.Elements.{Contains-append_cases, Contains-append_left, Contains-append_right}
use Rattle.ea_road.specs.declared.TheConstants.{NONE}
use Rattle.ea_road.specs.Roads.{IsNode}
use Rattle.ea_road.specs.Arrivals.{Reaches}
use Rattle.ea_road.specs.Labels.{label_of, limit, Satisfies}
use Rattle.ea_search.specs.Underway.{IsUnderway}
use Rattle.ea_labels.specs.declared.record.Bound.{Bound}
use Rattle.ea_labels.specs.declared.record.SeatRecord.{SeatRecord}
use Rattle.ea_pool.specs.declared.heap.entry.Entry.{Entry}
use Rattle.ea_pool.specs.declared.shared.account.Account.{Account}
use Rattle.ea_engine.specs.Problems.{Problem}
use Rattle.ea_engine.specs.Closed.{entry_at, entry_of, IsReachedBy, IsReachedBefore, IsCut}
use Rattle.ea_engine.specs.Opened.{AreJoinedAndClosed, AreOffered}
use Rattle.ea_labels.proofs.Lawful.{words_lowered, words_least, word_known}
use Rattle.ea_engine.proofs.Multisets.{Contains-same, Contains-later}

Contains-map : {X Y : Type 0} (f : X → Y) (xs : List X) (i : ℕ) (x : X) → i < length xs → get_or xs i x ≡ x → Contains (map f xs) (f x)
Contains-map f [] i x lt e = absurd (omega (arith, lt))
Contains-map f (y ∷ xs) zero x lt e = (0, omega arith, ap f e)
Contains-map f (y ∷ xs) (suc i) x lt e = Contains-later (f y) (f x) (map f xs) (Contains-map f xs i x (omega (arith, lt)) e)

module _ (known : ℕ → ℕ → Type 0) (problem : Problem)
    (table : List ℕ) (history : SeatRecord) (account : Account) (left back refused : List Entry)
    (over : AreJoinedAndClosed known problem table history account left back refused) where
  bounded : (i : ℕ) (bound : Bound) → i < length history.bounds → get_or history.bounds i bound ≡ bound → label_of table bound.node ≤ bound.time
  bounded i bound lt at = subst (λ (b : Bound). label_of table b.node ≤ b.time) at (words_least known problem.network.nodes table history over.labels i bound lt)

  -- the label of a node is at most each bound
  at_most : (node time : ℕ) → IsReachedBy history.bounds node time → label_of table node ≤ time
  at_most node time (i, bound, lt, at, (of, low)) = omega (arith, bounded i bound lt at, ap (label_of table) of, low)

  below : (node time : ℕ) → IsReachedBefore history.bounds node time → label_of table node < time
  below node time (i, bound, lt, at, (of, low)) = omega (arith, bounded i bound lt at, ap (label_of table) of, low)

  cut : (asked : Option ℕ) (entry : Entry) → IsCut asked history.bounds entry → limit asked (label_of table) < entry.key
  cut None entry never = absurd never
  cut (Some t) entry reached = below t entry.key reached

  Left : ℕ → Type 0
  Left node = Satisfies problem.network problem.answers (label_of table) node (label_of table node)
      ⊎ Contains (left ++ back ++ refused) (entry_at (label_of table node) node)
      ⊎ (limit problem.query.target (label_of table) < label_of table node)

  -- the entry of a label was popped
  popped : (node : ℕ) → Contains account.popped (entry_at (label_of table node) node) → Left node
  unfolding Left
  popped node inside = elim (over.closed.closed (entry_at (label_of table node) node) inside) [
    | inl handed ↦ inr (inl (Contains-append_left (left ++ back) refused _ (Contains-append_right left back _ handed)))
    | inr (inl stale) ↦ absurd (omega (arith, below node (label_of table node) stale))
    | inr (inr (inl scanned)) ↦ inl (λ number arc arrival is_arc tail answer within. at_most arc.head arrival (scanned number arc is_arc tail arrival answer within))
    | inr (inr (inr reached)) ↦ inr (inr (cut problem.query.target (entry_at (label_of table node) node) reached))
  ]

  pushed : (node : ℕ) → Contains account.pushed (entry_at (label_of table node) node) → Left node
  unfolding Left
  pushed node inside = elim (Contains-append_cases account.popped left _ (Contains-same account.pushed (account.popped ++ left) _ over.entries inside)) [
    | inl taken ↦ popped node taken
    | inr stays ↦ inr (inl (Contains-append_left (left ++ back) refused _ (Contains-append_left left back _ stays)))
  ]

  lowered : (node : ℕ) → Any (λ l. (l.node ≡ node) × (l.to ≡ label_of table node)) history.lowerings → Left node
  unfolding Left
  lowered node (i, l, lt, at, (of, to)) =
      let entry = entry_at (label_of table node) node in
      let same : entry_of l ≡ entry = ap (λ n. entry_at l.to n) of ∙ ap (λ t. entry_at t node) to in
      let own : Contains (map entry_of history.lowerings) entry = subst (λ (e : Entry). Contains (map entry_of history.lowerings) e) same (Contains-map entry_of history.lowerings i l lt at) in
      elim (Contains-append_cases account.pushed refused entry (Contains-same (map entry_of history.lowerings) (account.pushed ++ refused) entry over.closed.own own)) [
        | inl through ↦ pushed node through
        | inr handed ↦ inr (inl (Contains-append_right (left ++ back) refused entry handed))
      ]

  pub nothing_is_lost : (node : ℕ) → IsNode problem.network.nodes node → label_of table node ≢ NONE
      → Satisfies problem.network problem.answers (label_of table) node (label_of table node)
      ⊎ Contains (left ++ back ++ refused) (entry_at (label_of table node) node)
      ⊎ (limit problem.query.target (label_of table) < label_of table node)
  unfolding Left
  nothing_is_lost node is some = elim (words_lowered known problem.network.nodes table history over.labels node is) [
    | inl none ↦ absurd (some none)
    | inr low ↦ lowered node low
  ]

  module _ (names : (node time : ℕ) → known node time → Reaches problem.network problem.answers problem.query.sources node time)
      (offered : AreOffered problem.query.sources history) (waiting : List ℕ) (waits : (entry : Entry) → Contains (left ++ back ++ refused) entry → Contains waiting entry.node) where
    pub may_finish : IsUnderway problem.network problem.answers problem.query table waiting
    may_finish = record {
      places = over.labels.one_word_per_node;
      labels = record {
        at_sources = λ source among. at_most source.node source.departure (offered source among);
        reached = λ node is some. elim (word_known known problem.network.nodes table (history ∷ []) node over.labels is) [
          | inl none ↦ absurd (some none)
          | inr knows ↦ names node (label_of table node) knows
        ];
        settled = λ node is some. elim (nothing_is_lost node is some) [
          | inl satisfied ↦ inl satisfied
          | inr (inl handed) ↦ inr (inl (waits (entry_at (label_of table node) node) handed))
          | inr (inr late) ↦ inr (inr late)
        ];
      };
    }
