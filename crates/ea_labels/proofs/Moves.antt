-- Each kind of step is an event of the label table, and shows what it promises.
use Rattle.std.proofs.Common.{◌≡◌, ℕ, zero, suc, ◌+◌, ◌-◌, ◌<◌, ◌≤◌, ◌⊎◌, Bool, true, false, cond, nat_lt, List, [], ◌∷◌, ◌++◌, length, get_or, set, replicate, min, sym, refl, ap, ◌∙◌, subst, arith, add-one, below_more, get_or-set_other, get_or-set_same, lt-ltb, le-ltb}
use Rattle.std.proofs.lemmas.List.{set-get_or}
use Rattle.std.proofs.lemmas.Grind.{same_number_lists}
use Rattle.std.specs.Prelude.{slice_index}
use mathlib.Core.Option.{some, none}
use mathlib.Core.Logic.{dite}
use native.Mathlib.Decide.{dec_lt}
use lib.ListN.{get_elem?}
use Rattle.atomic_table.specs.Table.{State, Me, step, keeps, Allows, Splits, Joins, Final, Seen, opening as opening_table}
use Rattle.atomic_table.proofs.Lists.{set_again, set_else}
use Rattle.ea_machine.proofs.Places.{value_at, contains_at}
use Rattle.ea_road.specs.declared.TheConstants.{NONE}
use Rattle.ea_base.specs.declared.limits.TheConstants.{SHARES}
use Rattle.ea_labels.specs.declared.record.SeatRecord.{SeatRecord}
use Rattle.ea_road.specs.Roads.{IsNode}
use Rattle.ea_road.specs.Labels.{label_of}
use Rattle.ea_labels.specs.Core.{IsNoneOrKnown, HasLowered, IsAtMostBounds, first_record, seen, lowered, with_one_share_less, with_one_share, joined, spent, IsLawful}
use Rattle.ea_labels.specs.Events.{Core, load, fetch_min, split, join, opening, record_of, with_bound, with_lowering, after, MayCome, IsReached, IsRunEnd}
use Rattle.ea_labels.specs.Steps.{IsLabelState, finds, loads, lowers, counts_shares}
use Rattle.ea_labels.proofs.Lawful.{close_lawful, word_known, word_least, words_lowered, shares_bound}
use Rattle.ea_labels.proofs.Runs.{reached_lawful, reached_next, opening_reached}

abbrev Place : Type 0
Place = Me (Unit {0}) SeatRecord

word_is : (all : List ℕ) (seat_word : ℕ) (words : List ℕ) (node : ℕ) → all ≡ seat_word ∷ words → 1 ≤ node → get_or all node 0 ≡ label_of words node
word_is all seat_word words zero e h = absurd (omega arith)
word_is all seat_word words (suc k) e h = let same : k ≡ suc k - 1 = omega arith in ap (λ (l : List ℕ). get_or l (suc k) 0) e ∙ ap (λ j. get_or words j 0) same

set_is : (all : List ℕ) (seat_word : ℕ) (words : List ℕ) (node n : ℕ) → all ≡ seat_word ∷ words → 1 ≤ node → set all node n ≡ seat_word ∷ set words (node - 1) n
set_is all seat_word words zero n e h = absurd (omega arith)
set_is all seat_word words (suc k) n e h = let same : k ≡ suc k - 1 = omega arith in ap (λ (l : List ℕ). set l (suc k) n) e ∙ ap (λ j. seat_word ∷ set words j n) same

module _ (known : ℕ → ℕ → Type 0) (nodes : ℕ) where
  abbrev Rule : State (Unit {0}) SeatRecord → Type 0
  Rule = IsLabelState known nodes

  -- the record of the seat that steps
  mine : (s : State (Unit {0}) SeatRecord) (h : Rule s) (id : ℕ) (v : SeatRecord) → get_elem? s.views id ≡ some v → v ≡ record_of h.core id
  mine s h id v at = sym (ap (λ (l : List SeatRecord). get_or l id spent) (sym h.seats) ∙ value_at s.views id v spent at)

  at_core : (s : State (Unit {0}) SeatRecord) (h : Rule s) (id : ℕ) (v : SeatRecord) → get_elem? s.views id ≡ some v → get_elem? h.core.seats id ≡ some v
  at_core s h id v at = ap (λ (l : List SeatRecord). get_elem? l id) (sym h.seats) ∙ at

  lawful : (s : State (Unit {0}) SeatRecord) (h : Rule s) → IsLawful known nodes h.core.words h.core.seats
  lawful s h = reached_lawful known nodes h.core h.reached

  -- a load is an event
  loaded : (s : State (Unit {0}) SeatRecord) (h : Rule s) (id : ℕ) (v : SeatRecord) (node x : ℕ) (words : List ℕ) → get_elem? s.views id ≡ some v → 1 ≤ v.shares → IsNode nodes node → x ≡ label_of h.core.words node → words ≡ s.words
      → Rule (record { words = words; homes = s.homes; views = set s.views id (seen v node x) })
  loaded s h id v node x words at live is found same =
      let own = mine s h id v at in
      record {
        seat_word = h.seat_word;
        core = with_bound h.core id node;
        reached = reached_next known nodes h.core (load id node) h.reached (subst (λ (w : SeatRecord). 1 ≤ w.shares) own live, is);
        words = same ∙ h.words;
        seats = λ i. set (h.seats i) id (seen (own i) node (found i));
      }

  -- and so is a fetch_min, which lowers the word or finds it no higher than the operand
  fetched : (core : Core) (id node t : ℕ) → IsReached known nodes core → MayCome known nodes core (fetch_min id node t) → (b : Bool) → nat_lt t (label_of core.words node) ≡ b
      → IsReached known nodes (cond b (with_lowering core id node t) (with_bound core id node))
  fetched core id node t h may b e = subst (λ (b : Bool). IsReached known nodes (cond b (with_lowering core id node t) (with_bound core id node))) e (reached_next known nodes core (fetch_min id node t) h may)

  -- what a seat finds at a node
  found_at : (s : State (Unit {0}) SeatRecord) (h : Rule s) (id : ℕ) (v : SeatRecord) (node x : ℕ) → get_elem? s.views id ≡ some v → IsNode nodes node → x ≡ label_of h.core.words node → finds known v node x
  found_at s h id v node x at is found =
      let here = at_core s h id v at in (
        subst (IsNoneOrKnown known node) (sym found) (word_known known nodes h.core.words h.core.seats node (lawful s h) is),
        subst (IsAtMostBounds v node) (sym found) (word_least known nodes h.core.words h.core.seats id v node (lawful s h) here),
        λ whole. subst (λ t. (t ≡ NONE) ⊎ HasLowered v node t) (sym found) (words_lowered known nodes h.core.words v (close_lawful known nodes h.core.words h.core.seats id v (lawful s h) here whole) node is),
      )

  pub load_allowed : (slots id : ℕ) (me : Place) (node : ℕ) → 1 ≤ me.0.shares → IsNode nodes node
      → Allows Rule slots id me node (λ n. n) (loads known (step slots node 0 0 none) me)
  load_allowed slots id me node live is s h _ at _ =
      let found : slice_index s.words node ≡ label_of h.core.words node = word_is s.words h.seat_word h.core.words node h.words is.from_one in (
        seen me.0 node (slice_index s.words node),
        keeps,
        tt,
        loaded s h id me.0 node (slice_index s.words node) (set s.words node (slice_index s.words node)) at live is found (set-get_or s.words node 0),
        (refl, found_at s h id me.0 node (slice_index s.words node) at is found),
      )

  pub lower_allowed : (slots id : ℕ) (me : Place) (node t : ℕ) → 1 ≤ me.0.shares → IsNode nodes node → known node t
      → Allows Rule slots id me node (λ n. min n t) (lowers known (step slots node t 0 none) me)
  lower_allowed slots id me node t live is is_known s h _ at _ =
      let x = slice_index s.words node in
      let found : x ≡ label_of h.core.words node = word_is s.words h.seat_word h.core.words node h.words is.from_one in
      let tells : finds known me.0 node x = found_at s h id me.0 node x at is found in
      dite (dec_lt t x)
      (λ below.
      let new : min x t ≡ t = omega arith in
      let own = mine s h id me.0 at in (
        lowered me.0 node x t,
        keeps,
        tt,
        record {
          seat_word = h.seat_word;
          core = with_lowering h.core id node t;
          reached = fetched h.core id node t h.reached (subst (λ (w : SeatRecord). 1 ≤ w.shares) own live, is, is_known) true (lt-ltb t (label_of h.core.words node) (omega arith));
          words = ap (λ n. set s.words node n) new ∙ set_is s.words h.seat_word h.core.words node t h.words is.from_one;
          seats = λ i. set (h.seats i) id (lowered (own i) node (found i) t);
        },
        ((λ _. refl), (λ above. absurd (omega arith)), tells),
      ))
      (λ not_below.
      let same : min x t ≡ x = omega arith in
      let own = mine s h id me.0 at in (
        seen me.0 node x,
        keeps,
        tt,
        record {
          seat_word = h.seat_word;
          core = with_bound h.core id node;
          reached = fetched h.core id node t h.reached (subst (λ (w : SeatRecord). 1 ≤ w.shares) own live, is, is_known) false (le-ltb t (label_of h.core.words node) (omega arith));
          words = ap (λ n. set s.words node n) same ∙ (set-get_or s.words node 0 ∙ h.words);
          seats = λ i. set (h.seats i) id (seen (own i) node (found i));
        },
        ((λ below. absurd (not_below below)), (λ _. refl), tells),
      ))

  pub split_allowed : (id : ℕ) (v : SeatRecord) → 2 ≤ v.shares → Splits Rule id v (with_one_share_less v) (with_one_share v)
  split_allowed id v shares s h at =
      let own = mine s h id v at in
      record {
        seat_word = h.seat_word;
        core = after h.core (split id);
        reached = reached_next known nodes h.core (split id) h.reached (subst (λ (w : SeatRecord). 2 ≤ w.shares) own shares);
        words = h.words;
        seats = λ i. set (h.seats i) id (with_one_share_less (own i)) ++ with_one_share (own i) ∷ [];
      }

  pub join_allowed : (id : ℕ) (v : SeatRecord) (other : ℕ) (w : SeatRecord) → 1 ≤ v.shares → 1 ≤ w.shares → Joins Rule id v other w (joined v w) spent
  join_allowed id v other w live other_live s h at apart at_middle =
      let own = mine s h id v at in
      let theirs = mine s h other w (sym (set_else s.views id other (joined v w) apart) ∙ at_middle) in
      record {
        seat_word = h.seat_word;
        core = after h.core (join id other);
        reached = reached_next known nodes h.core (join id other) h.reached (subst (λ (u : SeatRecord). 1 ≤ u.shares) own live, subst (λ (u : SeatRecord). 1 ≤ u.shares) theirs other_live, apart);
        words = h.words;
        seats = λ i. set (set (h.seats i) id (joined (own i) (theirs i))) other spent;
      }

  pub count_allowed : (slots id : ℕ) (me : Place) → Allows Rule slots id me 0 (λ n. n) (counts_shares (step slots 0 0 0 none) me)
  count_allowed slots id me s h _ at _ = (
    me.0,
    keeps,
    tt,
    record {
      seat_word = h.seat_word;
      core = h.core;
      reached = h.reached;
      words = set-get_or s.words 0 0 ∙ h.words;
      seats = set_again s.views id me.0 at ∙ h.seats;
    },
    (refl, shares_bound known nodes h.core.words h.core.seats id me.0 (lawful s h) (at_core s h id me.0 at)),
  )

  -- a table in which all words are NONE
  pub opened : (words : List ℕ) (seat : SeatRecord) → words ≡ replicate (nodes + 1) NONE → seat ≡ first_record → Rule (opening_table words [] seat)
  opened words seat is first = record {
    seat_word = NONE;
    core = opening nodes;
    reached = opening_reached known nodes;
    words = is ∙ ap (λ n. replicate n NONE) (add-one nodes);
    seats = ap (λ (v : SeatRecord). v ∷ []) first;
  }

  -- the words after the seat word, copied out one by one, are those at the end of a run
  pub closed_run : (id : ℕ) (v : SeatRecord) (all : List ℕ) (slots : List (Unit {0})) (kept : List ℕ)
      → Final (Seen Rule id v) all slots → length kept ≡ nodes → ((k : ℕ) → k < nodes → get_or kept k 0 ≡ get_or all (k + 1) 0)
      → (core : Core) × IsReached known nodes core × (core.words ≡ kept) × (get_elem? core.seats id ≡ some v)
  closed_run id v all slots kept f len copied =
      let h = f.1.0 in
      let words = h.core.words in
      let is : all ≡ h.seat_word ∷ words = sym f.2 ∙ h.words in
      let wide = (lawful f.0 h).one_word_per_node in
      let same : kept ≡ words = same_number_lists kept words (len ∙ sym wide) (λ k below. copied k (omega arith) ∙ (ap (λ (l : List ℕ). get_or l (k + 1) 0) is ∙ rw add-one refl)) in
      (h.core, h.reached, sym same, at_core f.0 h id v f.1.1)

  pub run_end : (v : SeatRecord) (kept : List ℕ) (id : ℕ) (core : Core) → IsReached known nodes core → core.words ≡ kept → get_elem? core.seats id ≡ some v → IsRunEnd known nodes kept v
  run_end v kept id core reached words at = record {
    core = core;
    reached = reached;
    has_words = words;
    has_seat = contains_at core.seats id v at;
  }

  pub run_lawful_alone : (v : SeatRecord) (kept : List ℕ) (id : ℕ) (core : Core) → v.shares ≡ SHARES → IsReached known nodes core → core.words ≡ kept → get_elem? core.seats id ≡ some v → IsLawful known nodes kept (v ∷ [])
  run_lawful_alone v kept id core whole reached words at =
      subst (λ ws. IsLawful known nodes ws (v ∷ [])) words (close_lawful known nodes core.words core.seats id v (reached_lawful known nodes core reached) at whole)

-- one more place is copied
pub one_more_copied : (kept all : List ℕ) (place word : ℕ) → place < length kept → get_elem? all (place + 1) ≡ some word → ((k : ℕ) → k < place → get_or kept k 0 ≡ get_or all (k + 1) 0)
    → (k : ℕ) → k < place + 1 → get_or (set kept place word) k 0 ≡ get_or all (k + 1) 0
one_more_copied kept all place word room at copied = below_more (λ k. get_or (set kept place word) k 0 ≡ get_or all (k + 1) 0) place
    (λ k below. get_or-set_other kept place k word 0 (omega arith) ∙ copied k below)
    (get_or-set_same kept place word 0 room ∙ sym (value_at all (place + 1) word 0 at))
