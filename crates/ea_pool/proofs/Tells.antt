-- What the steps of one attempt show together.
use Rattle.std.proofs.Common.{◌≡◌, ℕ, ◌<◌, ◌≤◌, Bool, true, List, length, [], ◌∷◌, ◌++◌, sym, refl, ap, ◌∙◌, arith, subst, Option, Some, slice_index_or}
use Rattle.std.specs.Prelude.{Result, Ok, MatchOption, MatchResult}
use Rattle.std.specs.List.{AllByRecursion}
use mathlib.Core.Logic.{dite}
use native.Mathlib.Decide.{dec_lt}
use Rattle.ea_pool.specs.declared.heap.entry.Entry.{Entry}
use Rattle.ea_pool.specs.declared.shared.account.SeatMemory.{SeatMemory}
use Rattle.ea_base.specs.declared.limits.TheConstants.{SHARES}
use Rattle.ea_base.specs.declared.limits.TheConstants.{HORIZON}
use Rattle.ea_pool.specs.declared.shared.words.TheConstants.{EMPTY, OUT}
use Rattle.ea_machine.specs.Totals.{total}
use Rattle.ea_machine.proofs.Totals.{total-append}
use Rattle.ea_pool.specs.Entries.{only, times, SameEntries, InSomeOrder, HasMore, IsLeastOf, IsKnown, AreKnown}
use Rattle.ea_pool.specs.Kinds.{HeapKind, Least, Shows}
use Rattle.ea_pool.specs.States.{take_at, saw, took, pushed, popped}
use Rattle.ea_pool.specs.Plays.{Place, value_of, Surveys, Took, PutsPushed, PutsPopped}
use Rattle.ea_pool.specs.Pools.{HoldsHeap, IsHeld, AreInTime, Rests, books, Pushes, PushesAll, Pops, PopsAll, IsLeft, AreLeft}
use Rattle.ea_pool.specs.Tries.{TookThere, TookLeast}
use Rattle.ea_pool.specs.Batches.{GoesIn, GoesInUntil, ComesOut, PushesFrom, PopsSome}
use Rattle.ea_pool.proofs.Weights.{only-same, one_entry, known_one}
use Rattle.ea_pool.proofs.HeapOrder.{face_is, least_of_part}
use Rattle.ea_pool.proofs.Batching.{comes_some, comes_enough}
use Rattle.ea_pool.proofs.Shown.{shown_low, given_parts}
use Rattle.ea_pool.proofs.Moves.{told_pushed, told_popped}

module _ (known : ℕ → ℕ → Type 0) (kind : HeapKind) where
  -- some entries were popped from a heap that was taken
  module _
      (m m₁ m₂ m₃ : Place)
      (k seen : ℕ)
      (gone left : List Entry)
      (t : Took known kind m k seen m₁)
      (view : m₂.0 ≡ m₁.0)
      (carries : m₂.1 ≡ (k, left) ∷ [])
      (parts : SameEntries t.0 (gone ++ left))
      (done : PutsPopped known m₂ m₃) where
    same_view : m₂.0 ≡ took m.0 k t.0
    same_view = view ∙ ap (λ (n : Place). n.0) t.1

    pub told : InSomeOrder gone (λ ds. m₃ ≡ (popped m₂.0 ds, [])) × AreKnown known gone × (m₂.0.shares ≡ SHARES → AreLeft gone (books m₂.0))
    told = told_popped known m₂ m₃ k t.0 left gone carries (ap (λ (a : SeatMemory). a.held) same_view) parts done

    pub after_pops : m₃.0 ≡ popped (took m.0 k t.0) told.0.0
    after_pops = ap (λ (n : Place). n.0) told.0.2 ∙ ap (λ (a : SeatMemory). popped a told.0.0) same_view

    pub pops_all : PopsAll (books m.0) gone (books m₃.0)
    pops_all = (
      ap (λ (a : SeatMemory). a.shares) after_pops,
      ap (λ (a : SeatMemory). a.pushed) after_pops,
      λ f. omega (arith, ap (λ (a : SeatMemory). total f a.popped) after_pops, told.0.1 f, total-append f told.0.0 m.0.popped, total-append f gone m.0.popped),
    )

    pub pops_known : AreKnown known gone
    pops_known = told.1

    -- what a seat with all shares popped was left before
    pub were_left : m.0.shares ≡ SHARES → AreLeft gone (books m.0)
    were_left whole = subst (λ (a : SeatMemory). AreLeft gone (books a)) same_view (told.2 (ap (λ (a : SeatMemory). a.shares) same_view ∙ whole))

    pub rests_then : 0 < m.0.shares → Rests m₃
    rests_then live = (ap (λ (n : Place). n.1) told.0.2, ap (λ (a : SeatMemory). a.held) after_pops, subst (λ (a : SeatMemory). 0 < a.shares) (sym after_pops) live)

    pub took_then : m₃.0.last_take ≡ Some (take_at k t.0 m.0.seen)
    took_then = ap (λ (a : SeatMemory). a.last_take) after_pops

  -- a batch is popped from a heap that was taken
  module _
      (m m₁ m₂ : Place)
      (k seen most : ℕ)
      (before after : List Entry)
      (word : ℕ)
      (t : Took known kind m k seen m₁)
      (view : m₂.0 ≡ m₁.0)
      (moves : HoldsHeap m₁ k (λ es. HoldsHeap m₂ k (λ left. ComesOut kind most before after es left × Shows kind word left))) where
    comes : ComesOut kind most before after t.0 moves.2.0
    comes =
        let same : moves.0 ≡ t.0 = ap (λ (c : List (ℕ × List Entry)). value_of c) (sym moves.1) ∙ ap (λ (n : Place). value_of n.1) t.1 in
        subst (λ (es : List Entry). ComesOut kind most before after es moves.2.0) same moves.2.2.0

    pub gives_rest : HoldsHeap m₂ k (λ left. IsHeld m₂.0 k (λ es. Shows kind word left × HasMore left es (λ _. Unit {0})))
    gives_rest = (moves.2.0, moves.2.1, (t.0, ap (λ (a : SeatMemory). a.held) (view ∙ ap (λ (n : Place). n.0) t.1), (moves.2.2.1, (comes.0, (given_parts kind comes.0 t.0 moves.2.0 comes.2.taken), tt))))

    module _ (m₃ : Place) (done : PutsPopped known m₂ m₃) where
      pub rests_popped : 0 < m.0.shares → Rests m₃
      rests_popped = rests_then m m₁ m₂ m₃ k seen comes.0 moves.2.0 t view moves.2.1 (given_parts kind comes.0 t.0 moves.2.0 comes.2.taken) done

      pub pops_some : 0 < most → seen < EMPTY → PopsSome known kind most before after (books m.0) (books m₃.0) (λ out. TookLeast kind k seen out m.0.seen m₃.0.last_take) m₃.0.last_take
      pops_some asked low =
          let last = took_then m m₁ m₂ m₃ k seen comes.0 moves.2.0 t view moves.2.1 (given_parts kind comes.0 t.0 moves.2.0 comes.2.taken) done in
          record {
            out = comes.0;
            brought = comes.1;
            some = comes_some kind most seen comes.0 t.0 moves.2.0 comes.2 asked t.2 low;
            popped = pops_all m m₁ m₂ m₃ k seen comes.0 moves.2.0 t view moves.2.1 (given_parts kind comes.0 t.0 moves.2.0 comes.2.taken) done;
            known_all = pops_known m m₁ m₂ m₃ k seen comes.0 moves.2.0 t view moves.2.1 (given_parts kind comes.0 t.0 moves.2.0 comes.2.taken) done;
            took = record { content = t.0; took = last; word_is = t.2; least = (moves.2.0, comes.2.taken) };
            few = comes.2.few;
            enough = comes_enough kind most comes.0 t.0 moves.2.0 m₃.0.last_take k m.0.seen last comes.2;
            left = were_left m m₁ m₂ m₃ k seen comes.0 moves.2.0 t view moves.2.1 (given_parts kind comes.0 t.0 moves.2.0 comes.2.taken) done;
          }

  -- what was pushed to a heap that was inspected and taken
  module _
      (v : SeatMemory)
      (m m₁ m₂ m₃ : Place)
      (k x : ℕ)
      (added left : List Entry)
      (is : m.0 ≡ saw v k x)
      (t : Took known kind m k x m₁)
      (view : m₂.0 ≡ m₁.0)
      (carries : m₂.1 ≡ (k, left) ∷ [])
      (parts : SameEntries left (added ++ t.0))
      (done : PutsPushed m₂ m₃) where
    seen_view : m₂.0 ≡ took (saw v k x) k t.0
    seen_view = view ∙ (ap (λ (n : Place). n.0) t.1 ∙ ap (λ (a : SeatMemory). took a k t.0) is)

    pub told_of : InSomeOrder added (λ ds. m₃ ≡ (pushed m₂.0 ds, []))
    told_of = told_pushed m₂ m₃ k t.0 left added carries (ap (λ (a : SeatMemory). a.held) seen_view) parts done

    pub after_pushes : m₃.0 ≡ pushed (took (saw v k x) k t.0) told_of.0
    after_pushes = ap (λ (n : Place). n.0) told_of.2 ∙ ap (λ (a : SeatMemory). pushed a told_of.0) seen_view

    pub pushes_all : PushesAll (books v) added (books m₃.0)
    pushes_all = (
      ap (λ (a : SeatMemory). a.shares) after_pushes,
      (λ f. omega (arith, ap (λ (a : SeatMemory). total f a.pushed) after_pushes, told_of.1 f, total-append f told_of.0 v.pushed, total-append f added v.pushed)),
      ap (λ (a : SeatMemory). a.popped) after_pushes,
    )

    pub rests_there : 0 < v.shares → Rests m₃
    rests_there live = (ap (λ (n : Place). n.1) told_of.2, ap (λ (a : SeatMemory). a.held) after_pushes, subst (λ (a : SeatMemory). 0 < a.shares) (sym after_pushes) live)

    pub took_there : TookThere kind k v.seen m₃.0.last_take
    took_there = (t.0, x, t.2, ap (λ (a : SeatMemory). a.last_take) after_pushes)

  -- the seat keeps its shares while it holds a heap
  pub still_shares : (m m₁ m₂ : Place) (k x : ℕ) → Took known kind m k x m₁ → m₂.0 ≡ m₁.0 → 0 < m.0.shares → 0 < m₂.0.shares
  still_shares m m₁ m₂ k x t view some = subst (λ (a : SeatMemory). 0 < a.shares) (sym (view ∙ ap (λ (n : Place). n.0) t.1)) some

  -- the condition for returning the heap with one more entry
  pub gives_one : (m m₁ m₂ : Place) (k x : ℕ) (e : Entry) (answer : Result (Unit {0}) Entry) (word : ℕ) → Took known kind m k x m₁ → m₂.0 ≡ m₁.0 → answer ≡ Ok tt
      → HoldsHeap m₁ k (λ es. HoldsHeap m₂ k (λ left. MatchResult answer (λ _. SameEntries left (e ∷ es)) (λ back. (back ≡ e) × (left ≡ es)) × Shows kind word left))
      → IsKnown known e → HoldsHeap m₂ k (λ left. IsHeld m₂.0 k (λ es. Shows kind word left × HasMore es left (AreKnown known)))
  gives_one m m₁ m₂ k x e answer word t view fine moves may =
      let left : List Entry = moves.2.0 in
      let same : moves.0 ≡ t.0 = ap (λ (c : List (ℕ × List Entry)). value_of c) (sym moves.1) ∙ ap (λ (n : Place). value_of n.1) t.1 in
      let parts : SameEntries left (e ∷ moves.0) = subst (λ (o : Result (Unit {0}) Entry). MatchResult o (λ _. SameEntries left (e ∷ moves.0)) (λ back. (back ≡ e) × (left ≡ moves.0))) fine moves.2.2.0 in
      (left, moves.2.1, (t.0, ap (λ (a : SeatMemory). a.held) (view ∙ ap (λ (n : Place). n.0) t.1), (moves.2.2.1, (e ∷ [], subst (λ (es : List Entry). SameEntries left (e ∷ es)) same parts, known_one known e may))))

  -- for one entry
  module _
      (v : SeatMemory)
      (m m₁ m₂ m₃ : Place)
      (k x : ℕ)
      (e : Entry)
      (answer : Result (Unit {0}) Entry)
      (word : ℕ)
      (is : m.0 ≡ saw v k x)
      (t : Took known kind m k x m₁)
      (view : m₂.0 ≡ m₁.0)
      (fine : answer ≡ Ok tt)
      (moves : HoldsHeap m₁ k (λ es. HoldsHeap m₂ k (λ left. MatchResult answer (λ _. SameEntries left (e ∷ es)) (λ back. (back ≡ e) × (left ≡ es)) × Shows kind word left)))
      (done : PutsPushed m₂ m₃) where
    parts_one : SameEntries moves.2.0 (e ∷ t.0)
    parts_one =
        let same : moves.0 ≡ t.0 = ap (λ (c : List (ℕ × List Entry)). value_of c) (sym moves.1) ∙ ap (λ (n : Place). value_of n.1) t.1 in
        subst (λ (es : List Entry). SameEntries moves.2.0 (e ∷ es)) same
        (subst (λ (o : Result (Unit {0}) Entry). MatchResult o (λ _. SameEntries moves.2.0 (e ∷ moves.0)) (λ back. (back ≡ e) × (moves.2.0 ≡ moves.0))) fine moves.2.2.0)

    pub pushes_one : Pushes (books v) e (books m₃.0)
    pushes_one =
        let told = told_of v m m₁ m₂ m₃ k x (e ∷ []) moves.2.0 is t view moves.2.1 parts_one done in
        let after : m₃.0 ≡ pushed (took (saw v k x) k t.0) (e ∷ []) = after_pushes v m m₁ m₂ m₃ k x (e ∷ []) moves.2.0 is t view moves.2.1 parts_one done ∙ ap (pushed (took (saw v k x) k t.0)) (one_entry e told.0 told.1) in
        (ap (λ (a : SeatMemory). a.shares) after, ap (λ (a : SeatMemory). a.pushed) after, ap (λ (a : SeatMemory). a.popped) after)

    pub rests_one : 0 < v.shares → Rests m₃
    rests_one = rests_there v m m₁ m₂ m₃ k x (e ∷ []) moves.2.0 is t view moves.2.1 parts_one done

    pub took_one : TookThere kind k v.seen m₃.0.last_take
    took_one = took_there v m m₁ m₂ m₃ k x (e ∷ []) moves.2.0 is t view moves.2.1 parts_one done

  -- a batch is pushed to a heap that was inspected and taken
  module _
      (v : SeatMemory)
      (m m₁ : Place)
      (k x : ℕ)
      (before : List Entry)
      (is : m ≡ (saw v k x, []))
      (t : Took known kind m k x m₁)
      (may : AreKnown known before) where
    pub holds_room : ((node time : ℕ) → known node time → time ≤ HORIZON) → HoldsHeap m₁ k (λ es. AreInTime (before ++ es))
    holds_room in_time = (
      t.0,
      ap (λ (n : Place). n.1) t.1 ∙ ap (λ (n : Place). (k, t.0) ∷ n.1) is,
      λ e there. dite (dec_lt 0 (times e before))
          (λ new. in_time e.node e.key (may e new))
          (λ none. in_time e.node e.key (t.3 e (omega (arith, total-append (only e) before t.0)))),
    )

    module _
        {all : Bool}
        (m₂ : Place)
        (after : List Entry)
        (word : ℕ)
        (view : m₂.0 ≡ m₁.0)
        (moves : HoldsHeap m₁ k (λ es. HoldsHeap m₂ k (λ left. GoesInUntil all before after es left × Shows kind word left))) where
      goes : GoesIn before after t.0 moves.2.0
      goes =
          let same : moves.0 ≡ t.0 = ap (λ (c : List (ℕ × List Entry)). value_of c) (sym moves.1) ∙ ap (λ (n : Place). value_of n.1) t.1 in
          subst (λ (es : List Entry). GoesIn before after es moves.2.0) same moves.2.2.0.goes

      pub gives_batch : HoldsHeap m₂ k (λ left. IsHeld m₂.0 k (λ es. Shows kind word left × HasMore es left (AreKnown known)))
      gives_batch = (
        moves.2.0,
        moves.2.1,
        (
          t.0,
          ap (λ (a : SeatMemory). a.held) (view ∙ ap (λ (n : Place). n.0) t.1),
          (
            moves.2.2.1,
            (
              goes.went,
              goes.added,
              λ e there. may e (omega (arith, ap (times e) goes.split, total-append (only e) after goes.went)),
            ),
          ),
        ),
      )

      module _ (m₃ : Place) (done : PutsPushed m₂ m₃) where
        seen_there : m.0 ≡ saw v k x
        seen_there = ap (λ (n : Place). n.0) is

        pub rests_batch : 0 < v.shares → Rests m₃
        rests_batch = rests_there v m m₁ m₂ m₃ k x goes.went moves.2.0 seen_there t view moves.2.1 goes.added done

        pub took_batch : TookThere kind k v.seen m₃.0.last_take
        took_batch = took_there v m m₁ m₂ m₃ k x goes.went moves.2.0 seen_there t view moves.2.1 goes.added done

        pushes_went : PushesAll (books v) goes.went (books m₃.0)
        pushes_went = pushes_all v m m₁ m₂ m₃ k x goes.went moves.2.0 seen_there t view moves.2.1 goes.added done

        pub pushes_batch : 0 < length after → PushesFrom before after (books v) (books m₃.0)
        pushes_batch some = (goes.went, goes.split, pushes_went, some)

        pub pushes_whole : after ≡ [] → PushesAll (books v) before (books m₃.0)
        pushes_whole none =
            let same : before ≡ goes.went = goes.split ∙ ap (λ (l : List Entry). l ++ goes.went) none in
            subst (λ (l : List Entry). PushesAll (books v) l (books m₃.0)) (sym same) pushes_went

  -- with all shares no heap is out
  pub none_out : (heaps : ℕ) (v w : SeatMemory) (k x : ℕ) → Surveys known kind heaps w → w ≡ saw v k x → k < heaps → x ≡ OUT → ⊥
  none_out heaps v w k x survey is near out =
      let seen = subst (λ (a : SeatMemory). AllByRecursion (λ p. p.0 < heaps → Shows kind p.1 (slice_index_or survey.contents p.0 [])) a.seen) is survey.seen in
      let low = shown_low kind x (slice_index_or survey.contents k []) (seen.0 near) in
      absurd (omega arith)

-- heaps that give the least entry first
module _ (known : ℕ → ℕ → Type 0) where
  -- the condition for returning the heap then
  pub gives_some : (m m₁ m₂ : Place) (k seen : ℕ) (e : Entry) (answer : Option Entry) (word : ℕ) → Took known Least m k seen m₁ → m₂.0 ≡ m₁.0 → answer ≡ Some e
      → HoldsHeap m₁ k (λ es. HoldsHeap m₂ k (λ left. MatchOption answer ((es ≡ []) × (left ≡ [])) (λ least. IsLeastOf least es × SameEntries es (least ∷ left)) × Shows Least word left))
      → HoldsHeap m₂ k (λ left. IsHeld m₂.0 k (λ es. Shows Least word left × HasMore left es (λ _. Unit {0})))
  gives_some m m₁ m₂ k seen e answer word t view some moves =
      let left : List Entry = moves.2.0 in
      let same : moves.0 ≡ t.0 = ap (λ (c : List (ℕ × List Entry)). value_of c) (sym moves.1) ∙ ap (λ (n : Place). value_of n.1) t.1 in
      let parts : SameEntries moves.0 (e ∷ left) = (subst (λ (o : Option Entry). MatchOption o ((moves.0 ≡ []) × (left ≡ [])) (λ least. IsLeastOf least moves.0 × SameEntries moves.0 (least ∷ left))) some moves.2.2.0).1 in
      (left, moves.2.1, (t.0, ap (λ (a : SeatMemory). a.held) (view ∙ ap (λ (n : Place). n.0) t.1), (moves.2.2.1, (e ∷ [], subst (λ (es : List Entry). SameEntries es (e ∷ left)) same parts, tt))))

  -- one entry was
  module _
      (m m₁ m₂ m₃ : Place)
      (k seen : ℕ)
      (e : Entry)
      (answer : Option Entry)
      (word : ℕ)
      (t : Took known Least m k seen m₁)
      (view : m₂.0 ≡ m₁.0)
      (some : answer ≡ Some e)
      (moves : HoldsHeap m₁ k (λ es. HoldsHeap m₂ k (λ left. MatchOption answer ((es ≡ []) × (left ≡ [])) (λ least. IsLeastOf least es × SameEntries es (least ∷ left)) × Shows Least word left)))
      (done : PutsPopped known m₂ m₃) where
    same : moves.0 ≡ t.0
    same = ap (λ (c : List (ℕ × List Entry)). value_of c) (sym moves.1) ∙ ap (λ (n : Place). value_of n.1) t.1

    one : IsLeastOf e t.0 × SameEntries t.0 (e ∷ moves.2.0)
    one =
        let left : List Entry = moves.2.0 in
        subst (λ (es : List Entry). IsLeastOf e es × SameEntries es (e ∷ left)) same
        (subst (λ (o : Option Entry). MatchOption o ((moves.0 ≡ []) × (left ≡ [])) (λ least. IsLeastOf least moves.0 × SameEntries moves.0 (least ∷ left))) some moves.2.2.0)

    told_one : InSomeOrder (e ∷ []) (λ ds. m₃ ≡ (popped m₂.0 ds, [])) × AreKnown known (e ∷ []) × (m₂.0.shares ≡ SHARES → AreLeft (e ∷ []) (books m₂.0))
    told_one = told known Least m m₁ m₂ m₃ k seen (e ∷ []) moves.2.0 t view moves.2.1 one.1 done

    after : m₃.0 ≡ popped (took m.0 k t.0) (e ∷ [])
    unfolding told told_one
    after = after_pops known Least m m₁ m₂ m₃ k seen (e ∷ []) moves.2.0 t view moves.2.1 one.1 done ∙ ap (popped (took m.0 k t.0)) (one_entry e told_one.0.0 told_one.0.1)

    pub rests_after : 0 < m.0.shares → Rests m₃
    rests_after = rests_then known Least m m₁ m₂ m₃ k seen (e ∷ []) moves.2.0 t view moves.2.1 one.1 done

    pub pops_least : ((node time : ℕ) → known node time → time ≤ HORIZON) → Pops (books m.0) e (books m₃.0) × IsKnown known e × (e.key ≡ seen)
    pops_least in_time =
        let there : 0 < times e t.0 = omega (arith, one.1 (only e), only-same e) in
        let is_known : IsKnown known e = t.3 e there in (
          (ap (λ (a : SeatMemory). a.shares) after, ap (λ (a : SeatMemory). a.pushed) after, ap (λ (a : SeatMemory). a.popped) after),
          is_known,
          sym (face_is e t.0 one.0 there (in_time e.node e.key is_known)) ∙ t.2,
        )

    -- and of which heap
    pub took_least : TookLeast Least k seen (e ∷ []) m.0.seen m₃.0.last_take
    took_least = record {
      content = t.0;
      took = ap (λ (a : SeatMemory). a.last_take) after;
      word_is = t.2;
      least = (
        moves.2.0,
        record {
          parts = one.1;
          ascending = (tt, tt);
          least = (least_of_part e t.0 moves.2.0 (λ d. omega (arith, one.1 (only d))) one.0, tt);
        },
      );
    }

    -- and for a seat with all shares it was left before
    pub was_left : m.0.shares ≡ SHARES → IsLeft e (books m.0)
    was_left whole = omega (arith, were_left known Least m m₁ m₂ m₃ k seen (e ∷ []) moves.2.0 t view moves.2.1 one.1 done whole e, only-same e)

-- and an exchange succeeds
pub never_missed : (v w : SeatMemory) (k x : ℕ) (r : Bool) → w ≡ saw v k x → (w.shares ≡ SHARES → AllByRecursion (λ p. k ≡ p.0 → x ≡ p.1 → r ≡ true) w.seen) → v.shares ≡ SHARES → r ≡ true
never_missed v w k x r is hits whole = (subst (λ (a : SeatMemory). AllByRecursion (λ p. k ≡ p.0 → x ≡ p.1 → r ≡ true) a.seen) is (hits (ap (λ (a : SeatMemory). a.shares) is ∙ whole))).0 refl refl

pub all_done : (k x : ℕ) (pairs : List (ℕ × ℕ)) → AllByRecursion (λ p. k ≡ p.0 → x ≡ p.1 → Unit {0}) pairs
all_done k x [] = tt
all_done k x (p ∷ ps) = ((λ _ _. tt), all_done k x ps)
