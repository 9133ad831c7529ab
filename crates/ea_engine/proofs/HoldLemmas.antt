-- The entries that a worker holds are known, also after a push.
use Rattle.std.proofs.Common.{◌≡◌, ℕ, zero, suc, ◌<◌, ◌≤◌, List, [], ◌∷◌, ◌++◌, length, get_or, refl, sym, ap, subst, arith, Err, length-append}
use Rattle.std.specs.Prelude.{reverse}
use Rattle.rand_core.specs.Stream.{Stream, next_u64}
use Rattle.arrayvec.specs.ArrayVec.{ArrayVec, array_vec_len}
use Rattle.ea_machine.specs.Totals.{total}
use Rattle.ea_machine.proofs.Totals.{total-append}
use Rattle.ea_labels.specs.declared.record.SeatRecord.{SeatRecord}
use Rattle.ea_road.specs.Roads.{IsNode}
use Rattle.ea_travel_times.proofs.Lists.{any_default}
use Rattle.ea_pool.specs.declared.heap.entry.Entry.{Entry}
use Rattle.ea_pool.specs.declared.shared.account.Account.{Account}
use Rattle.ea_pool.specs.declared.shared.reply.PushAllRefused.{PushAllRefused}
use Rattle.ea_pool.specs.declared.shared.reply.PushAllRefused.TheVariants as refused
use Rattle.ea_pool.specs.Batches.{MatchPushed, PushesFrom}
use Rattle.ea_pool.specs.Entries.{only, times, AreKnown}
use Rattle.ea_pool.specs.Pools.{PushesAll, SameBooks}
use Rattle.ea_pool.proofs.Weights.{only-same, only-one}
use Rattle.ea_engine.specs.Problems.{Problem, IsPosed}
use Rattle.ea_engine.specs.Worked.{kit, Progress, AreInside}
use Rattle.ea_engine.proofs.GroundLemmas.{node_of}
use Rattle.ea_engine.proofs.Multisets.{times-Contains}
use Rattle.ea_engine.proofs.ProgressLemmas.{total-reverse, Progress-pushed, Progress-missed}

module _ (known : ℕ → ℕ → Type 0) where
  pub known_nothing : (es : List Entry) → es ≡ [] → AreKnown known es
  known_nothing es is e there = absurd (omega (arith, there, ap (times e) is))

  pub known_front : (es front back : List Entry) → es ≡ front ++ back → AreKnown known es → AreKnown known front
  known_front es front back is all e there = all e (omega (arith, there, ap (times e) is, total-append (only e) front back))

  pub known_last : (es rest : List Entry) (e : Entry) → es ≡ rest ++ e ∷ [] → AreKnown known es → known e.node e.key
  known_last es rest e is all = all e (omega (arith, ap (times e) is, total-append (only e) rest (e ∷ []), only-same e))

  pub known_turned : (es out : List Entry) → es ≡ reverse out → AreKnown known out → AreKnown known es
  known_turned es out is all e there = all e (omega (arith, there, ap (times e) is, total-reverse (only e) out))

  of_one : (x e : Entry) → known x.node x.key → 0 < only e x → known e.node e.key
  of_one x e is there = subst (λ (y : Entry). known y.node y.key) (sym (only-one e x there)) is

  pub known_more : (es more : List Entry) (x : Entry) → more ≡ es ++ x ∷ [] → AreKnown known es → known x.node x.key → AreKnown known more
  known_more es more x is all here e there = go (times e es) refl
    where
      go : (n : ℕ) → times e es ≡ n → known e.node e.key
      go zero none = of_one x e here (omega (arith, there, none, ap (times e) is, total-append (only e) es (x ∷ [])))
      go (suc n) some = all e (omega (arith, some))

  pub known_inside : (problem : Problem) (es : List Entry) → IsPosed known problem → AreKnown known es → AreInside problem.network.nodes es
  known_inside problem es posed all e inside = node_of known problem posed e.node e.key (all e (times-Contains e es inside))

  pub known_at : (problem : Problem) (nodes : ℕ) (es : List Entry) (place : ℕ) (default : Entry) → nodes ≡ problem.network.nodes → IsPosed known problem → AreKnown known es → place < length es
      → IsNode nodes (get_or es place default).node
  known_at problem nodes es place default is posed all inside =
      subst (λ n. IsNode n (get_or es place default).node) (sym is)
      (known_inside problem es posed all (get_or es place default) (place, inside, any_default es place (get_or es place default) default inside))

  -- the entries that a push leaves are known
  pub known_left : (e : PushAllRefused) (before after : ArrayVec Entry) (a b : Account)
      → MatchPushed (Err e) (PushesAll a before.items b × (after.items ≡ [])) (SameBooks a b × (after ≡ before)) (PushesFrom before.items after.items a b)
      → AreKnown known before.items → AreKnown known after.items
  known_left refused.Busy before after a b h all = subst (λ (v : ArrayVec Entry). AreKnown known v.items) (sym h.1) all
  known_left refused.OutOfMemory before after a b h all = known_front before.items after.items h.0 h.1 all

-- a push that left some, or none
pub progress_left : (e : PushAllRefused) (before after : ArrayVec Entry) (a b : Account) (r : SeatRecord) (w v : Stream) (x : ℕ)
    → MatchPushed (Err e) (PushesAll a before.items b × (after.items ≡ [])) (SameBooks a b × (after ≡ before)) (PushesFrom before.items after.items a b)
    → (x, v) ≡ next_u64 w → Progress (kit r a w [] before.items) (kit r b v [] after.items) [] 1 0
progress_left refused.Busy before after a b r w v x h d = Progress-missed r a b w v x [] before.items after.items h.0 (ap (λ (l : ArrayVec Entry). l.items) h.1) d
progress_left refused.OutOfMemory before after a b r w v x h d = Progress-pushed r a b w v x [] before.items after.items h.0 h.2 (λ f. ap (total f) h.1) d

pub few_left : (e : PushAllRefused) (before after : ArrayVec Entry) (a b : Account)
    → MatchPushed (Err e) (PushesAll a before.items b × (after.items ≡ [])) (SameBooks a b × (after ≡ before)) (PushesFrom before.items after.items a b)
    → array_vec_len after ≤ array_vec_len before
few_left refused.Busy before after a b h = omega (arith, ap (λ (l : ArrayVec Entry). array_vec_len l) h.1)
few_left refused.OutOfMemory before after a b h = omega (arith, ap length h.1, length-append after.items h.0)

pub progress_all : (before after : List Entry) (a b : Account) (r : SeatRecord) (w v : Stream) (x : ℕ) → PushesAll a before b → after ≡ [] → (x, v) ≡ next_u64 w
    → Progress (kit r a w [] before) (kit r b v [] after) [] 1 0
progress_all before after a b r w v x p none d = Progress-pushed r a b w v x [] before after before p (λ f. omega (arith, total-append f after before, ap (total f) none)) d

pub nothing : (es : List Entry) → length es ≡ 0 → es ≡ []
nothing [] e = refl
nothing (x ∷ es) e = absurd (omega (arith, e))
