-- Counters and turn lists, one turn at a time.
use Rattle.std.proofs.Common.{◌≡◌, ℕ, ◌+◌, ◌^◌, ◌<◌, ◌≤◌, Bool, cond, List, [], ◌∷◌, ◌++◌, length, get_or, refl, sym, arith, length-append, subst, below_more}
use Rattle.std.proofs.Math.Seq.{get_or-append_seam}
use Rattle.std.proofs.lemmas.List.{get_or_append_left}
use Rattle.std.proofs.lemmas.List.Sums.{count_by-le-length, fold-append}
use Rattle.ea_engine.specs.declared.worker.turn.TurnKind.{TurnKind}
use Rattle.ea_engine.specs.declared.worker.turn.TurnKind.TheVariants.{Empty, Busy, Stale, Scanned, Refused, Cut}
use Rattle.ea_engine.specs.declared.worker.counters.Counters.{Counters}
use Rattle.ea_engine.specs.declared.worker.turn.TurnEnd.{TurnEnd}
use Rattle.ea_engine.specs.declared.worker.turn.Flow.{Flow}
use Rattle.ea_engine.specs.Turns.{Told, AreTurnCounts, AreCounters, counted, counted_as, closed_by, count_kind, lowered_in_all, visited_as, visited_in, visited_count, is_empty, is_busy, is_stale, is_scanned, is_refused, is_cut, IsRoomy}

-- what holds of each element by its place, after one more
pub index_push : {X : Type 0} (P : ℕ → X → Type 0) (xs : List X) (x : X) → ((i : ℕ) (d : X) → i < length xs → P i (get_or xs i d)) → P (length xs) x
    → (i : ℕ) (d : X) → i < length (xs ++ x ∷ []) → P i (get_or (xs ++ x ∷ []) i d)
index_push {X} P xs x before here i d lt =
    let Q : ℕ → Type 0 = λ j. (e : X) → P j (get_or (xs ++ x ∷ []) j e) in
    below_more Q (length xs)
    (λ j l e. subst (P j) (sym (get_or_append_left xs (x ∷ []) e j l)) (before j e l))
    (λ e. subst (P (length xs)) (sym (get_or-append_seam xs x [] e)) here)
    i (omega (arith, length-append xs (x ∷ []))) d

abbrev counters_at : (turns empty busy pops popped unvisited stale scanned refused cut lowered pushes pushed returned : ℕ) → Counters
counters_at a b c d e f g h i j k l m n = record {
  turns = a;
  empty = b;
  busy = c;
  pops = d;
  popped = e;
  unvisited = f;
  stale = g;
  scanned = h;
  refused = i;
  cut = j;
  lowered = k;
  pushes = l;
  pushed = m;
  returned = n;
}

pub count_push : (p : TurnKind → Bool) (ts : List Told) (t : Told) → count_kind p (ts ++ t ∷ []) ≡ count_kind p ts + cond (p t.0.kind) 1 0
count_push p ts t = fold-append (λ (a : ℕ) (x : Told). a + cond (p x.0.kind) 1 0) 0 ts (t ∷ [])

pub lowered_push : (ts : List Told) (t : Told) → lowered_in_all (ts ++ t ∷ []) ≡ lowered_in_all ts + t.0.lowered
lowered_push ts t = fold-append (λ (a : ℕ) (x : Told). a + x.0.lowered) 0 ts (t ∷ [])

visited_size : (k : TurnKind) (key node : ℕ) → length (visited_as k key node) ≡ cond (is_stale k) 1 0 + cond (is_scanned k) 1 0 + cond (is_refused k) 1 0 + cond (is_cut k) 1 0
visited_size Empty key node = refl
visited_size Busy key node = refl
visited_size Stale key node = refl
visited_size Scanned key node = refl
visited_size Refused key node = refl
visited_size Cut key node = refl

pub visited_count_push : (ts : List Told) (t : Told) → visited_count (ts ++ t ∷ []) ≡ length (visited_in t.0) + visited_count ts
visited_count_push ts t =
    omega (arith, count_push is_stale ts t, count_push is_scanned ts t, count_push is_refused ts t, count_push is_cut ts t, visited_size t.0.kind t.0.key t.0.node)

-- one more turn is counted by its kind alone, and adds to the sums
record Adds (k : TurnKind) (c d : Counters) : Type 0 where
  turns : d.turns ≡ c.turns
  empty : d.empty ≡ c.empty + cond (is_empty k) 1 0
  busy : d.busy ≡ c.busy + cond (is_busy k) 1 0
  stale : d.stale ≡ c.stale + cond (is_stale k) 1 0
  scanned : d.scanned ≡ c.scanned + cond (is_scanned k) 1 0
  refused : d.refused ≡ c.refused + cond (is_refused k) 1 0
  cut : d.cut ≡ c.cut + cond (is_cut k) 1 0
  lowered : d.lowered ≡ c.lowered
  pops : d.pops ≡ c.pops
  pushes : d.pushes ≡ c.pushes

adds : (k : TurnKind) (c : Counters) → Adds k c (counted_as k c)
adds Empty c = record { turns = omega arith; empty = omega arith; busy = omega arith; stale = omega arith; scanned = omega arith; refused = omega arith; cut = omega arith; lowered = omega arith; pops = omega arith; pushes = omega arith }
adds Busy c = record { turns = omega arith; empty = omega arith; busy = omega arith; stale = omega arith; scanned = omega arith; refused = omega arith; cut = omega arith; lowered = omega arith; pops = omega arith; pushes = omega arith }
adds Stale c = record { turns = omega arith; empty = omega arith; busy = omega arith; stale = omega arith; scanned = omega arith; refused = omega arith; cut = omega arith; lowered = omega arith; pops = omega arith; pushes = omega arith }
adds Scanned c = record { turns = omega arith; empty = omega arith; busy = omega arith; stale = omega arith; scanned = omega arith; refused = omega arith; cut = omega arith; lowered = omega arith; pops = omega arith; pushes = omega arith }
adds Refused c = record { turns = omega arith; empty = omega arith; busy = omega arith; stale = omega arith; scanned = omega arith; refused = omega arith; cut = omega arith; lowered = omega arith; pops = omega arith; pushes = omega arith }
adds Cut c = record { turns = omega arith; empty = omega arith; busy = omega arith; stale = omega arith; scanned = omega arith; refused = omega arith; cut = omega arith; lowered = omega arith; pops = omega arith; pushes = omega arith }

-- the counters before the kind of a turn is counted
abbrev before_kind : Counters → TurnEnd → Counters
before_kind c end = record c { turns = c.turns + 1; pops = c.pops + end.pops; lowered = c.lowered + end.turn.lowered; pushes = c.pushes + end.pushes }

pub AreTurnCounts-push : (ts : List Told) (end : TurnEnd) (flow : Flow) (c : Counters) → AreTurnCounts ts c → AreTurnCounts (ts ++ (end.turn, flow) ∷ []) (counted c end)
AreTurnCounts-push ts end flow c h =
    let a = adds end.turn.kind (before_kind c end) in
    let t : Told = (end.turn, flow) in
    record {
      turns = omega (arith, a.turns, h.turns, length-append ts (t ∷ []));
      empty = omega (arith, a.empty, h.empty, count_push is_empty ts t);
      busy = omega (arith, a.busy, h.busy, count_push is_busy ts t);
      stale = omega (arith, a.stale, h.stale, count_push is_stale ts t);
      scanned = omega (arith, a.scanned, h.scanned, count_push is_scanned ts t);
      refused = omega (arith, a.refused, h.refused, count_push is_refused ts t);
      cut = omega (arith, a.cut, h.cut, count_push is_cut ts t);
      lowered = omega (arith, a.lowered, h.lowered, lowered_push ts t);
    }

pub pops_push : (end : TurnEnd) (c : Counters) → (counted c end).pops ≡ c.pops + end.pops
pops_push end c = (adds end.turn.kind (before_kind c end)).pops

pub pushes_push : (end : TurnEnd) (c : Counters) → (counted c end).pushes ≡ c.pushes + end.pushes
pushes_push end c = (adds end.turn.kind (before_kind c end)).pushes

counters_same : {a b c d e f g h i j k l m n a' b' c' d' e' f' g' h' i' j' k' l' m' n' : ℕ}
    → a ≡ a' → b ≡ b' → c ≡ c' → d ≡ d' → e ≡ e' → f ≡ f' → g ≡ g' → h ≡ h' → i ≡ i' → j ≡ j' → k ≡ k' → l ≡ l' → m ≡ m' → n ≡ n'
    → counters_at a b c d e f g h i j k l m n ≡ counters_at a' b' c' d' e' f' g' h' i' j' k' l' m' n'
counters_same p q r s t u v w x y z aa bb cc' = cc

-- the counters at the end, with this many fresh entries
pub AreCounters-closed : (batch : ℕ) (ts : List Told) (c : Counters) (unvisited fresh : ℕ) → AreTurnCounts ts c → fresh ≤ c.lowered
    → c.pops ≤ length ts → c.empty + c.busy ≤ c.pops → c.pushes ≤ lowered_in_all ts + length ts
    → (batch ≡ 1 → (c.pops ≡ length ts) × (c.pushes ≡ lowered_in_all ts) × (unvisited ≡ 0) × (fresh ≡ c.refused))
    → AreCounters batch ts (closed_by unvisited fresh c)
AreCounters-closed batch ts c unvisited fresh h few pops idle pushes one = record {
  counts = record {
    turns = h.turns;
    empty = h.empty;
    busy = h.busy;
    stale = h.stale;
    scanned = h.scanned;
    refused = h.refused;
    cut = h.cut;
    lowered = h.lowered;
  };
  popped = refl;
  pushed = omega arith;
  returned = omega (arith, few);
  pops = omega (arith, pops, h.turns);
  idle = idle;
  pushes = omega (arith, pushes, h.lowered, h.turns);
  one = λ is.
      let o = one is in
      counters_same
      h.turns
      h.empty
      h.busy
      o.0
      (omega (arith, h.stale, h.scanned, h.refused, h.cut, o.2))
      o.2
      h.stale
      h.scanned
      h.refused
      h.cut
      h.lowered
      o.1
      (omega (arith, h.lowered, h.refused, o.3))
      (omega (arith, h.refused, o.2, o.3));
}

pub IsRoomy-few : (ts : List Told) (c : Counters) → AreTurnCounts ts c → length ts < 2 ^ 30 → lowered_in_all ts < 2 ^ 59 → c.pops ≤ length ts → c.pushes ≤ lowered_in_all ts + length ts → IsRoomy c
IsRoomy-few ts c h few low pops pushes =
    let count : (p : TurnKind → Bool) → count_kind p ts ≤ length ts = λ p. count_by-le-length (λ t. p t.0.kind) ts in
    record {
      turns = omega (arith, h.turns);
      empty = omega (arith, count is_empty, h.empty);
      busy = omega (arith, count is_busy, h.busy);
      pops = omega arith;
      stale = omega (arith, count is_stale, h.stale);
      scanned = omega (arith, count is_scanned, h.scanned);
      refused = omega (arith, count is_refused, h.refused);
      cut = omega (arith, count is_cut, h.cut);
      lowered = omega (arith, h.lowered);
      pushes = omega arith;
    }
