-- Each kind of step keeps the law of the label table.
use Rattle.std.proofs.Common.{◌≡◌, ℕ, zero, suc, ◌-◌, ◌<◌, ◌≤◌, ◌≢◌, ◌⊎◌, ◌==◌, ◌&&◌, Bool, true, false, cond, List, [], ◌∷◌, ◌++◌, get_or, set, sym, refl, ap, ◌∙◌, subst, inl, inr, ⊎_elim, arith, length-set, get_or-set_same, get_or-set_other}
use Rattle.std.specs.Prelude.{All, Any}
use mathlib.Core.Option.{some}
use mathlib.Core.Logic.{dite}
use native.Mathlib.Decide.{ℕ_discrete}
use lib.ListN.{get_elem?}
use Rattle.atomic_table.proofs.Lists.{set_here, set_else}
use Rattle.ea_machine.specs.Totals.{total}
use Rattle.std.proofs.lemmas.List.Elements.{All-nil, All-cons, All-set, All-append, All-push, All-weaker}
use Rattle.std.proofs.lemmas.Bool.Decides.{nat_tests}
use Rattle.ea_road.specs.declared.TheConstants.{NONE}
use Rattle.ea_base.specs.declared.limits.TheConstants.{SHARES}
use Rattle.ea_labels.specs.declared.record.Bound.{Bound}
use Rattle.ea_labels.specs.declared.record.Lowering.{Lowering}
use Rattle.ea_labels.specs.declared.record.SeatRecord.{SeatRecord}
use Rattle.ea_road.specs.Roads.{IsNode}
use Rattle.ea_road.specs.Labels.{label_of}
use Rattle.ea_labels.specs.Core.{bound, lowering, IsNoneOrKnown, IsAtMostBounds, seen, lowered, with_one_share_less, with_one_share, joined, spent, IsLoweredTo, IsNoneOrLoweredTo, begins_at, count_from, IsLawfulBound, IsLawfulLowering, IsLawfulSeat, IsLawful}
use Rattle.ea_machine.proofs.Places.{inside, same_at, All_at, Any_at, at_Any, Any_head, Any_tail, Any_left, Any_right, Any_set}
use Rattle.ea_machine.proofs.Totals.{total-set, total-append, term_le, terms_le, some_weighs}

abbrev pub is_to : ℕ → ℕ → Lowering → Type 0
is_to node time l = (l.node ≡ node) × (l.to ≡ time)

abbrev pub has_to : ℕ → ℕ → SeatRecord → Type 0
has_to node time seat = Any (is_to node time) seat.lowerings

abbrev pub starts : ℕ → ℕ → Lowering → Bool
starts node from l = (l.node == node) && (l.from == from)

abbrev pub starts_in : ℕ → ℕ → SeatRecord → ℕ
starts_in node from seat = total (begins_at node from) seat.lowerings

-- each lowering stays
abbrev pub Grows : List SeatRecord → List SeatRecord → Type 0
Grows before after = (node time : ℕ) → IsLoweredTo before node time → IsLoweredTo after node time

-- no word rises
abbrev pub Falls : List ℕ → List ℕ → Type 0
Falls before after = (node : ℕ) → label_of after node ≤ label_of before node

module _ (known : ℕ → ℕ → Type 0) (nodes : ℕ) where
  module _ (words words' : List ℕ) (seats seats' : List SeatRecord) (falls : Falls words words') (grows : Grows seats seats') where
    none_still : (node time : ℕ) → IsNoneOrLoweredTo seats node time → IsNoneOrLoweredTo seats' node time
    none_still node time = ⊎_elim inl (λ h. inr (grows node time h))

    bound_still : (b : Bound) → IsLawfulBound nodes words seats b → IsLawfulBound nodes words' seats' b
    bound_still b h = record {
      of_node = h.of_node;
      above_word = let f = falls b.node in let a = h.above_word in omega arith;
      comes_from = none_still b.node b.time h.comes_from;
    }

    lowering_still : (l : Lowering) → IsLawfulLowering known nodes words seats l → IsLawfulLowering known nodes words' seats' l
    lowering_still l h = record {
      of_node = h.of_node;
      falls = h.falls;
      above_word = let f = falls l.node in let a = h.above_word in omega arith;
      comes_from = none_still l.node l.from h.comes_from;
      is_known = h.is_known;
    }

    bounds_still : (bs : List Bound) → All (IsLawfulBound nodes words seats) bs → All (IsLawfulBound nodes words' seats') bs
    bounds_still = All-weaker (IsLawfulBound nodes words seats) (IsLawfulBound nodes words' seats') bound_still

    lowerings_still : (ls : List Lowering) → All (IsLawfulLowering known nodes words seats) ls → All (IsLawfulLowering known nodes words' seats') ls
    lowerings_still = All-weaker (IsLawfulLowering known nodes words seats) (IsLawfulLowering known nodes words' seats') lowering_still

    seat_still : (s : SeatRecord) → IsLawfulSeat known nodes words seats s → IsLawfulSeat known nodes words' seats' s
    seat_still s h = record { bounds = bounds_still s.bounds h.bounds; lowerings = lowerings_still s.lowerings h.lowerings; live_or_spent = h.live_or_spent }

    -- the seats after one of them has changed
    seats_set : (id : ℕ) (w : SeatRecord) → All (IsLawfulSeat known nodes words seats) seats → IsLawfulSeat known nodes words' seats' w → All (IsLawfulSeat known nodes words' seats') (set seats id w)
    seats_set id w h new = All-set (IsLawfulSeat known nodes words' seats') seats id w new (All-weaker (IsLawfulSeat known nodes words seats) (IsLawfulSeat known nodes words' seats') seat_still seats h)

  -- the seat saw the word of a node
  pub load_lawful : (words : List ℕ) (seats : List SeatRecord) (id : ℕ) (v : SeatRecord) (node : ℕ)
      → IsLawful known nodes words seats → get_elem? seats id ≡ some v → 1 ≤ v.shares → IsNode nodes node
      → IsLawful known nodes words (set seats id (seen v node (label_of words node)))
  load_lawful words seats id v node h at live in_range =
      let time = label_of words node in
      let w = seen v node time in
      let after = set seats id w in
      let grows : Grows seats after = λ n t. Any_set (has_to n t) seats id v w at (λ x. x) in
      let stays : Falls words words = λ n. omega arith in
      let old = All_at (IsLawfulSeat known nodes words seats) seats id v h.each_seat at in
      record {
        one_word_per_node = h.one_word_per_node;
        words_come_from = λ n is. none_still words words seats after stays grows n (label_of words n) (h.words_come_from n is);
        each_seat = seats_set words words seats after stays grows id w h.each_seat (record {
          bounds = All-cons (IsLawfulBound nodes words after) (bound node time) v.bounds
              (record { of_node = in_range; above_word = omega arith; comes_from = none_still words words seats after stays grows node time (h.words_come_from node in_range) })
              (bounds_still words words seats after stays grows v.bounds old.bounds);
          lowerings = lowerings_still words words seats after stays grows v.lowerings old.lowerings;
          live_or_spent = inl live;
        });
        lowerings_differ = λ n f. let s = total-set (starts_in n f) seats id v w at in let d = h.lowerings_differ n f in omega arith;
        shares_add_up = let s = total-set (λ (s : SeatRecord). s.shares) seats id v w at in let d = h.shares_add_up in omega arith;
      }

  starts_means : (n f : ℕ) (l : Lowering) → starts n f l ≡ true → (l.node ≡ n) × (l.from ≡ f)
  starts_means n f l e = let node = l.node in let from = l.from in grind (arith, nat_tests)

  begins_means : (n f : ℕ) (l : Lowering) → 0 < begins_at n f l → (l.node ≡ n) × (l.from ≡ f)
  begins_means n f l h =
      let cases : (b : Bool) → starts n f l ≡ b → (l.node ≡ n) × (l.from ≡ f) = elim [
        | true ↦ λ e. starts_means n f l e
        | false ↦ λ e. let c : cond {A = ℕ} (starts n f l) 1 0 ≡ 0 = ap (λ b. cond {A = ℕ} b 1 0) e in absurd (omega arith)
      ] in
      cases (starts n f l) refl

  -- no lowering begins at the word
  none_starts : (words : List ℕ) (seats : List SeatRecord) (node : ℕ) → IsLawful known nodes words seats → count_from seats node (label_of words node) ≡ 0
  none_starts words seats node h = let from = label_of words node in dite (ℕ_discrete (count_from seats node from) 0) (λ e. e)
      (λ ne.
      let s = Any_at (λ s. 0 < starts_in node from s) seats (some_weighs (starts_in node from) seats (omega arith)) in
      let l = Any_at (λ l. 0 < begins_at node from l) s.1.lowerings (some_weighs (begins_at node from) s.1.lowerings s.3) in
      let is = begins_means node from l.1 l.3 in
      let lawful = All_at (IsLawfulLowering known nodes words seats) s.1.lowerings l.0 l.1 (All_at (IsLawfulSeat known nodes words seats) seats s.0 s.1 h.each_seat s.2).lowerings l.2 in
      let below : label_of words node ≤ l.1.to = subst (λ n. label_of words n ≤ l.1.to) is.0 lawful.above_word in
      let falls = lawful.falls in let at_from = is.1 in
      absurd (omega arith))

  set_falls : (ws : List ℕ) (i j t : ℕ) → t ≤ get_or ws i 0 → get_or (set ws i t) j 0 ≤ get_or ws j 0
  set_falls [] i j t h = omega arith
  set_falls (x ∷ xs) zero zero t h = h
  set_falls (x ∷ xs) zero (suc j) t h = omega arith
  set_falls (x ∷ xs) (suc i) zero t h = omega arith
  set_falls (x ∷ xs) (suc i) (suc j) t h = set_falls xs i j t h

  -- the seat lowered the word of a node
  pub lower_lawful : (words : List ℕ) (seats : List SeatRecord) (id : ℕ) (v : SeatRecord) (node t : ℕ)
      → IsLawful known nodes words seats → get_elem? seats id ≡ some v → 1 ≤ v.shares → IsNode nodes node → known node t → t < label_of words node
      → IsLawful known nodes (set words (node - 1) t) (set seats id (lowered v node (label_of words node) t))
  lower_lawful words seats id v node t h at live in_range is_known below =
      let from = label_of words node in
      let new = lowering node from t in
      let w = lowered v node from t in
      let after = set seats id w in
      let words' = set words (node - 1) t in
      let grows : Grows seats after = λ n x. Any_set (has_to n x) seats id v w at (Any_tail (is_to n x) new v.lowerings) in
      let falls : Falls words words' = λ n. set_falls words (node - 1) (n - 1) t (omega arith) in
      let old = All_at (IsLawfulSeat known nodes words seats) seats id v h.each_seat at in
      let wide = h.one_word_per_node in
      let here : label_of words' node ≡ t = get_or-set_same words (node - 1) t 0 (omega arith) in
      let now : IsLoweredTo after node t = at_Any (has_to node t) after id w (set_here seats id w (inside seats id v at)) (Any_head (is_to node t) new v.lowerings (refl, refl)) in
      let none_starts_there = none_starts words seats node h in
      record {
        one_word_per_node = length-set words (node - 1) t ∙ wide;
        words_come_from = λ n is. dite (ℕ_discrete n node)
            (λ e. subst (λ m. IsNoneOrLoweredTo after m (label_of words' m)) (sym e) (inr (subst (IsLoweredTo after node) (sym here) now)))
            (λ ne. subst (IsNoneOrLoweredTo after n) (sym (get_or-set_other words (node - 1) (n - 1) t 0 (omega arith))) (none_still words words' seats after falls grows n (label_of words n) (h.words_come_from n is)));
        each_seat = seats_set words words' seats after falls grows id w h.each_seat (record {
          bounds = All-cons (IsLawfulBound nodes words' after) (bound node t) v.bounds
              (record { of_node = in_range; above_word = omega arith; comes_from = inr now })
              (bounds_still words words' seats after falls grows v.bounds old.bounds);
          lowerings = All-cons (IsLawfulLowering known nodes words' after) new v.lowerings
              (record {
                of_node = in_range;
                falls = below;
                above_word = omega arith;
                comes_from = none_still words words' seats after falls grows node from (h.words_come_from node in_range);
                is_known = is_known;
              })
              (lowerings_still words words' seats after falls grows v.lowerings old.lowerings);
          live_or_spent = inl live;
        });
        lowerings_differ = λ n f.
            let s = total-set (starts_in n f) seats id v w at in
            let d = h.lowerings_differ n f in
            let one : (b : Bool) → starts n f new ≡ b → count_from after n f ≤ 1 = elim [
              | true ↦ λ e.
                  let is = starts_means n f new e in
                  let zero : count_from seats n f ≡ 0 = subst (λ m. count_from seats m f ≡ 0) is.0 (subst (λ k. count_from seats node k ≡ 0) is.1 none_starts_there) in
                  let c : cond {A = ℕ} (starts n f new) 1 0 ≡ 1 = ap (λ b. cond {A = ℕ} b 1 0) e in
                  omega arith
              | false ↦ λ e.
                  let c : cond {A = ℕ} (starts n f new) 1 0 ≡ 0 = ap (λ b. cond {A = ℕ} b 1 0) e in
                  omega arith
            ] in
            one (starts n f new) refl;
        shares_add_up = let s = total-set (λ (s : SeatRecord). s.shares) seats id v w at in let d = h.shares_add_up in omega arith;
      }

  -- the seat gave a share to a new one
  pub split_lawful : (words : List ℕ) (seats : List SeatRecord) (id : ℕ) (v : SeatRecord)
      → IsLawful known nodes words seats → get_elem? seats id ≡ some v → 2 ≤ v.shares
      → IsLawful known nodes words (set seats id (with_one_share_less v) ++ with_one_share v ∷ [])
  split_lawful words seats id v h at shares =
      let w = with_one_share_less v in
      let new = with_one_share v in
      let middle = set seats id w in
      let after = middle ++ new ∷ [] in
      let grows : Grows seats after = λ n t a. Any_left (has_to n t) middle (new ∷ []) (Any_set (has_to n t) seats id v w at (λ x. x) a) in
      let stays : Falls words words = λ n. omega arith in
      let old = All_at (IsLawfulSeat known nodes words seats) seats id v h.each_seat at in
      let bounds = bounds_still words words seats after stays grows v.bounds old.bounds in
      record {
        one_word_per_node = h.one_word_per_node;
        words_come_from = λ n is. none_still words words seats after stays grows n (label_of words n) (h.words_come_from n is);
        each_seat = All-push (IsLawfulSeat known nodes words after) middle new
            (seats_set words words seats after stays grows id w h.each_seat (record {
              bounds = bounds;
              lowerings = lowerings_still words words seats after stays grows v.lowerings old.lowerings;
              live_or_spent = inl (omega arith);
            }))
            (record { bounds = bounds; lowerings = All-nil (IsLawfulLowering known nodes words after); live_or_spent = inl (omega arith) });
        lowerings_differ = λ n f.
            let s = total-set (starts_in n f) seats id v w at in
            let p = total-append (starts_in n f) middle (new ∷ []) in
            let d = h.lowerings_differ n f in
            omega arith;
        shares_add_up =
            let s = total-set (λ (s : SeatRecord). s.shares) seats id v w at in
            let p = total-append (λ (s : SeatRecord). s.shares) middle (new ∷ []) in
            let d = h.shares_add_up in
            omega arith;
      }

  spent_lawful : (words : List ℕ) (seats : List SeatRecord) → IsLawfulSeat known nodes words seats spent
  spent_lawful words seats = record {
    bounds = All-nil (IsLawfulBound nodes words seats);
    lowerings = All-nil (IsLawfulLowering known nodes words seats);
    live_or_spent = inr refl;
  }

  -- the seat gained all that another had
  pub join_lawful : (words : List ℕ) (seats : List SeatRecord) (id other : ℕ) (v w : SeatRecord)
      → IsLawful known nodes words seats → get_elem? seats id ≡ some v → 1 ≤ v.shares → other ≢ id → get_elem? (set seats id (joined v w)) other ≡ some w
      → IsLawful known nodes words (set (set seats id (joined v w)) other spent)
  join_lawful words seats id other v w h at live apart at_middle =
      let both = joined v w in
      let middle = set seats id both in
      let after = set middle other spent in
      let at_other : get_elem? seats other ≡ some w = sym (set_else seats id other both apart) ∙ at_middle in
      let at_both : get_elem? after id ≡ some both = set_else middle other id spent (λ e. apart (sym e)) ∙ set_here seats id both (inside seats id v at) in
      let grows : Grows seats after = λ n t any.
      let a = Any_at (has_to n t) seats any in
      dite (ℕ_discrete a.0 id)
      (λ e. at_Any (has_to n t) after id both at_both (Any_right (is_to n t) w.lowerings v.lowerings (subst (has_to n t) (same_at seats a.0 id a.1 v a.2 at e) a.3)))
      (λ not_id. dite (ℕ_discrete a.0 other)
      (λ e. at_Any (has_to n t) after id both at_both (Any_left (is_to n t) w.lowerings v.lowerings (subst (has_to n t) (same_at seats a.0 other a.1 w a.2 at_other e) a.3)))
      (λ not_other. at_Any (has_to n t) after a.0 a.1 (set_else middle other a.0 spent not_other ∙ (set_else seats id a.0 both not_id ∙ a.2)) a.3)) in
      let stays : Falls words words = λ n. omega arith in
      let old = All_at (IsLawfulSeat known nodes words seats) seats id v h.each_seat at in
      let old_other = All_at (IsLawfulSeat known nodes words seats) seats other w h.each_seat at_other in
      record {
        one_word_per_node = h.one_word_per_node;
        words_come_from = λ n is. none_still words words seats after stays grows n (label_of words n) (h.words_come_from n is);
        each_seat = All-set (IsLawfulSeat known nodes words after) middle other spent (spent_lawful words after)
            (seats_set words words seats after stays grows id both h.each_seat (record {
              bounds = bounds_still words words seats after stays grows both.bounds (All-append (IsLawfulBound nodes words seats) w.bounds v.bounds old_other.bounds old.bounds);
              lowerings = lowerings_still words words seats after stays grows both.lowerings (All-append (IsLawfulLowering known nodes words seats) w.lowerings v.lowerings old_other.lowerings old.lowerings);
              live_or_spent = inl (omega arith);
            }));
        lowerings_differ = λ n f.
            let s = total-set (starts_in n f) seats id v both at in
            let s' = total-set (starts_in n f) middle other w spent at_middle in
            let p = total-append (begins_at n f) w.lowerings v.lowerings in
            let d = h.lowerings_differ n f in
            omega arith;
        shares_add_up =
            let s = total-set (λ (s : SeatRecord). s.shares) seats id v both at in
            let s' = total-set (λ (s : SeatRecord). s.shares) middle other w spent at_middle in
            let d = h.shares_add_up in
            omega arith;
      }

  -- a seat with all shares is the only one that is live
  pub close_lawful : (words : List ℕ) (seats : List SeatRecord) (id : ℕ) (v : SeatRecord)
      → IsLawful known nodes words seats → get_elem? seats id ≡ some v → v.shares ≡ SHARES
      → IsLawful known nodes words (v ∷ [])
  close_lawful words seats id v h at all =
      let after = v ∷ [] in
      let others : (j : ℕ) (s : SeatRecord) → get_elem? seats j ≡ some s → j ≢ id → s ≡ spent = λ j s at_j ne.
      let two = terms_le (λ (s : SeatRecord). s.shares) seats id j v s ne at at_j in
      let sum = h.shares_add_up in
      ⊎_elim (λ live. absurd (omega arith)) (λ e. e) (All_at (IsLawfulSeat known nodes words seats) seats j s h.each_seat at_j).live_or_spent in
      let grows : Grows seats after = λ n t any.
      let a = Any_at (has_to n t) seats any in
      dite (ℕ_discrete a.0 id)
      (λ e. Any_head (has_to n t) v [] (subst (has_to n t) (same_at seats a.0 id a.1 v a.2 at e) a.3))
      (λ ne. let none : has_to n t spent = subst (has_to n t) (others a.0 a.1 a.2 ne) a.3 in let k = none.2 in absurd (omega arith)) in
      let stays : Falls words words = λ n. omega arith in
      record {
        one_word_per_node = h.one_word_per_node;
        words_come_from = λ n is. none_still words words seats after stays grows n (label_of words n) (h.words_come_from n is);
        each_seat = All-cons (IsLawfulSeat known nodes words after) v [] (seat_still words words seats after stays grows v (All_at (IsLawfulSeat known nodes words seats) seats id v h.each_seat at)) (All-nil (IsLawfulSeat known nodes words after));
        lowerings_differ = λ n f.
            let o = term_le (starts_in n f) seats id v at in
            let d = h.lowerings_differ n f in
            omega arith;
        shares_add_up = omega arith;
      }

  -- a word is none or known
  pub word_known : (words : List ℕ) (seats : List SeatRecord) (node : ℕ) → IsLawful known nodes words seats → IsNode nodes node → IsNoneOrKnown known node (label_of words node)
  word_known words seats node h is = ⊎_elim inl
      (λ any.
      let s = Any_at (has_to node (label_of words node)) seats any in
      let l = Any_at (is_to node (label_of words node)) s.1.lowerings s.3 in
      let lawful = All_at (IsLawfulLowering known nodes words seats) s.1.lowerings l.0 l.1 (All_at (IsLawfulSeat known nodes words seats) seats s.0 s.1 h.each_seat s.2).lowerings l.2 in
      inr (subst (known node) l.3.1 (subst (λ n. known n l.1.to) l.3.0 lawful.is_known)))
      (h.words_come_from node is)

  -- a word is at most each bound
  pub word_least : (words : List ℕ) (seats : List SeatRecord) (id : ℕ) (v : SeatRecord) (node : ℕ) → IsLawful known nodes words seats → get_elem? seats id ≡ some v → IsAtMostBounds v node (label_of words node)
  word_least words seats id v node h at =
      All-weaker (IsLawfulBound nodes words seats) (λ b. b.node ≡ node → label_of words node ≤ b.time)
      (λ b lawful e. subst (λ n. label_of words n ≤ b.time) e lawful.above_word)
      v.bounds (All_at (IsLawfulSeat known nodes words seats) seats id v h.each_seat at).bounds

  -- no seat has more shares than exist
  pub shares_bound : (words : List ℕ) (seats : List SeatRecord) (id : ℕ) (v : SeatRecord) → IsLawful known nodes words seats → get_elem? seats id ≡ some v → v.shares ≤ SHARES
  shares_bound words seats id v h at = let o = term_le (λ (s : SeatRecord). s.shares) seats id v at in let d = h.shares_add_up in omega arith

  -- with one seat left, each word is at most each of its bounds
  pub words_least : (words : List ℕ) (seat : SeatRecord) → IsLawful known nodes words (seat ∷ []) → All (λ b. label_of words b.node ≤ b.time) seat.bounds
  words_least words seat h =
      All-weaker (IsLawfulBound nodes words (seat ∷ [])) (λ b. label_of words b.node ≤ b.time) (λ b lawful. lawful.above_word)
      seat.bounds (All_at (IsLawfulSeat known nodes words (seat ∷ [])) (seat ∷ []) 0 seat h.each_seat refl).bounds

  -- with one seat left, each word is NONE or one of its lowerings
  pub words_lowered : (words : List ℕ) (seat : SeatRecord) → IsLawful known nodes words (seat ∷ []) → (node : ℕ) → IsNode nodes node
      → (label_of words node ≡ NONE) ⊎ Any (is_to node (label_of words node)) seat.lowerings
  words_lowered words seat h node is =
      let target = label_of words node in
      ⊎_elim inl
      (λ any.
      let s = Any_at (has_to node target) (seat ∷ []) any in
      let first : s.0 ≡ 0 = let k = inside (seat ∷ []) s.0 s.1 s.2 in omega arith in
      inr (subst (has_to node target) (same_at (seat ∷ []) s.0 0 s.1 seat s.2 refl first) s.3))
      (h.words_come_from node is)
