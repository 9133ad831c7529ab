-- Turns that found nothing, turns that visited an entry, and what is pushed at a turn's end.
use Rattle.std.proofs.Common.{◌≡◌, ℕ, ◌+◌, ◌*◌, ◌<◌, ◌≤◌, true, false, List, [], ◌∷◌, ◌++◌, length, refl, sym, ◌∙◌, ap, subst, arith, None, Option, min, length-append, zero-add}
use Rattle.std.specs.Prelude.{reverse}
use Rattle.std.specs.Option.{option_to_list}
use Rattle.std.proofs.lemmas.Bool.{false≢true}
use Rattle.std.proofs.lemmas.List.Elements.{All-nil, All-cons}
use Rattle.std.proofs.lemmas.List.{reverse-reverse, reverse-append, length-reverse}
use Rattle.rand_core.specs.Stream.{Stream, next_u64}
use Rattle.ea_road.specs.Arrivals.{Reaches}
use Rattle.ea_pool.specs.declared.heap.entry.Entry.{Entry}
use Rattle.arrayvec.specs.ArrayVec.{ArrayVec}
use Rattle.ea_pool.specs.Batches.{IsLowest, MatchSome, PopsSome}
use Rattle.ea_pool.specs.declared.shared.account.LastTake.{LastTake}
use Rattle.ea_pool.specs.declared.shared.reply.PoppedSome.TheVariants as reply
use Rattle.ea_pool.specs.Entries.{times, IsAscending, IsLeastOf, face}
use Rattle.ea_pool.specs.Kinds.{HeapKind, Least, Buckets, Gives}
use Rattle.ea_pool.proofs.Weights.{only-same}
use Rattle.ea_engine.specs.Problems.{Problem}
use Rattle.ea_engine.specs.declared.worker.turn.TurnEnd.{TurnEnd}
use Rattle.ea_engine.specs.declared.worker.turn.TurnKind.{TurnKind}
use Rattle.ea_engine.specs.declared.worker.turn.TurnKind.TheVariants.{Empty, Busy, Stale, Scanned, Refused, Cut}
use Rattle.ea_engine.specs.Looks.{word_after, first_heap, second_heap, SawAs}
use Rattle.ea_pool.specs.declared.shared.reply.PoppedSome.{PoppedSome}
use Rattle.ea_pool.specs.declared.shared.words.TheConstants.{EMPTY}
use Rattle.ea_pool.specs.Draws.{first_draw, second_draw}
use Rattle.ea_pool.specs.Tries.{LookedAt, TookLesser, WasBusy}
use Rattle.ea_engine.specs.Words.{after_words}
use Rattle.ea_labels.specs.declared.record.Bound.{Bound}
use Rattle.ea_labels.specs.declared.record.SeatRecord.{SeatRecord}
use Rattle.ea_pool.specs.declared.shared.account.Account.{Account}
use Rattle.ea_base.specs.declared.limits.TheConstants.{SHARES}
use Rattle.ea_pool.specs.Pools.{SameBooks}
use Rattle.ea_engine.specs.Turns.{is_busy, is_idle, is_refused, IsShaped, visited_as, visited_in}
use Rattle.ea_engine.specs.Closed.{entry_at, IsClosedAs, IsFreshAs}
use Rattle.ea_engine.specs.Holds.{IsVisit, TookSome, ComeInOrder}
use Rattle.ea_engine.specs.Worked.{Kit, kit, Progress, IsTurn, IsBrokenAs, IsLeftAs, IsFirstLeft, IsLoneAs, IsPoppingAs}
use Rattle.ea_engine.proofs.ProgressLemmas.{Progress-idle, Progress-took, Progress-then, Progress-next, Progress-beside}

visited_as-idle : (k : TurnKind) (x y : ℕ) → is_idle k ≡ true → visited_as k x y ≡ []
visited_as-idle Empty x y e = refl
visited_as-idle Busy x y e = refl
visited_as-idle Stale x y e = absurd (false≢true e)
visited_as-idle Scanned x y e = absurd (false≢true e)
visited_as-idle Refused x y e = absurd (false≢true e)
visited_as-idle Cut x y e = absurd (false≢true e)

IsBrokenAs-idle : (k : TurnKind) (end : TurnEnd) → is_idle k ≡ true → end.broken ≡ None → IsBrokenAs k end.broken
IsBrokenAs-idle Empty end e b = b
IsBrokenAs-idle Busy end e b = b
IsBrokenAs-idle Stale end e b = b
IsBrokenAs-idle Scanned end e b = b
IsBrokenAs-idle Refused end e b = absurd (false≢true e)
IsBrokenAs-idle Cut end e b = b

IsPoppingAs-one : (k : TurnKind) (pops : ℕ) → pops ≡ 1 → IsPoppingAs k pops
IsPoppingAs-one Empty pops e = e
IsPoppingAs-one Busy pops e = e
IsPoppingAs-one Stale pops e = omega (arith, e)
IsPoppingAs-one Scanned pops e = omega (arith, e)
IsPoppingAs-one Refused pops e = omega (arith, e)
IsPoppingAs-one Cut pops e = omega (arith, e)

IsLeftAs-idle : (k : TurnKind) (batch fresh : ℕ) → is_idle k ≡ true → fresh < batch → IsLeftAs k batch fresh
IsLeftAs-idle Empty batch fresh e few = few
IsLeftAs-idle Busy batch fresh e few = few
IsLeftAs-idle Stale batch fresh e few = few
IsLeftAs-idle Scanned batch fresh e few = few
IsLeftAs-idle Refused batch fresh e few = absurd (false≢true e)
IsLeftAs-idle Cut batch fresh e few = few

-- fewer are left
IsLeftAs-fewer : (k : TurnKind) (batch fresh fresh' : ℕ) → is_refused k ≡ false → fresh' ≤ fresh → IsLeftAs k batch fresh → IsLeftAs k batch fresh'
IsLeftAs-fewer Empty batch fresh fresh' e few left = omega (arith, few, left)
IsLeftAs-fewer Busy batch fresh fresh' e few left = omega (arith, few, left)
IsLeftAs-fewer Stale batch fresh fresh' e few left = omega (arith, few, left)
IsLeftAs-fewer Scanned batch fresh fresh' e few left = omega (arith, few, left)
IsLeftAs-fewer Refused batch fresh fresh' e few left = absurd (false≢true (sym e))
IsLeftAs-fewer Cut batch fresh fresh' e few left = omega (arith, few, left)

-- with batches of one entry nothing is left, unless a push was refused
IsLeftAs-one : (k : TurnKind) (batch fresh : ℕ) → is_refused k ≡ false → IsLeftAs k batch fresh → fresh < batch
IsLeftAs-one Empty batch fresh e left = left
IsLeftAs-one Busy batch fresh e left = left
IsLeftAs-one Stale batch fresh e left = left
IsLeftAs-one Scanned batch fresh e left = left
IsLeftAs-one Refused batch fresh e left = absurd (false≢true (sym e))
IsLeftAs-one Cut batch fresh e left = left

pub two_words : (w v u : Stream) (x y : ℕ) → (x, v) ≡ next_u64 w → (y, u) ≡ next_u64 v → u ≡ after_words 2 w
two_words w v u x y e f = ap (λ (p : ℕ × Stream). p.1) f ∙ ap (λ s. (next_u64 s).1) (ap (λ (p : ℕ × Stream). p.1) e)

head_is : (x y : Entry) → x ∷ [] ≡ y ∷ [] → x ≡ y
head_is x y e = cc

nil≢cons : (e : Entry) (es : List Entry) → [] ≡ e ∷ es → ⊥
nil≢cons e es h = absurd (omega (arith, ap length h))

-- a turn pops at most once
pub pops_once : (k : TurnKind) (pops : ℕ) → IsPoppingAs k pops → pops ≤ 1
pops_once Empty pops is = omega (arith, is)
pops_once Busy pops is = omega (arith, is)
pops_once Stale pops is = is
pops_once Scanned pops is = is
pops_once Refused pops is = is
pops_once Cut pops is = is

-- a turn that visited an entry pops at most once
IsPoppingAs-visited : (k : TurnKind) (key node pops : ℕ) (e : Entry) → visited_as k key node ≡ e ∷ [] → pops ≤ 1 → IsPoppingAs k pops
IsPoppingAs-visited Empty key node pops e is few = absurd (nil≢cons e [] is)
IsPoppingAs-visited Busy key node pops e is few = absurd (nil≢cons e [] is)
IsPoppingAs-visited Stale key node pops e is few = few
IsPoppingAs-visited Scanned key node pops e is few = few
IsPoppingAs-visited Refused key node pops e is few = few
IsPoppingAs-visited Cut key node pops e is few = few

-- a turn that popped an entry shows what the pop says of this entry
IsLoneAs-popped : (kind : HeapKind) (k : TurnKind) (heaps key node : ℕ) (a : Account) (e : Entry) → visited_as k key node ≡ e ∷ [] → (heaps ≡ 2 → IsFirstLeft kind e a) → IsLoneAs kind heaps a k (entry_at key node)
IsLoneAs-popped kind Empty heaps key node a e is left = absurd (nil≢cons e [] is)
IsLoneAs-popped kind Busy heaps key node a e is left = nil≢cons e [] is
IsLoneAs-popped kind Stale heaps key node a e is left = subst (λ x. heaps ≡ 2 → IsFirstLeft kind x a) (sym (head_is (entry_at key node) e is)) left
IsLoneAs-popped kind Scanned heaps key node a e is left = subst (λ x. heaps ≡ 2 → IsFirstLeft kind x a) (sym (head_is (entry_at key node) e is)) left
IsLoneAs-popped kind Refused heaps key node a e is left = subst (λ x. heaps ≡ 2 → IsFirstLeft kind x a) (sym (head_is (entry_at key node) e is)) left
IsLoneAs-popped kind Cut heaps key node a e is left = subst (λ x. heaps ≡ 2 → IsFirstLeft kind x a) (sym (head_is (entry_at key node) e is)) left

-- nor is it busy
not_busy_visited : (k : TurnKind) (key node : ℕ) (e : Entry) → visited_as k key node ≡ e ∷ [] → is_busy k ≡ false
not_busy_visited Empty key node e is = refl
not_busy_visited Busy key node e is = absurd (nil≢cons e [] is)
not_busy_visited Stale key node e is = refl
not_busy_visited Scanned key node e is = refl
not_busy_visited Refused key node e is = refl
not_busy_visited Cut key node e is = refl

-- a seat with all shares isn't busy
not_busy_lone : (kind : HeapKind) (k : TurnKind) (heaps : ℕ) (a : Account) (e : Entry) → IsLoneAs kind heaps a k e → is_busy k ≡ false
not_busy_lone kind Empty heaps a e lone = refl
not_busy_lone kind Busy heaps a e lone = absurd lone
not_busy_lone kind Stale heaps a e lone = refl
not_busy_lone kind Scanned heaps a e lone = refl
not_busy_lone kind Refused heaps a e lone = refl
not_busy_lone kind Cut heaps a e lone = refl

-- The popped entries, reversed; the order in which heaps give entries.
in_order : (kind : HeapKind) (out content rest : List Entry) → Gives kind out content rest → ComeInOrder kind out
in_order Least out content rest h = h.ascending
in_order Buckets out content rest h = tt

pub took_by : (known : ℕ → ℕ → Type 0) (kind : HeapKind) (reply : PoppedSome) (heaps most i j : ℕ) (old mid new : ArrayVec Entry) (a b : Account) (seen : List (ℕ × ℕ)) (last : Option LastTake)
    → old.items ≡ []
    → MatchSome reply ((pops : PopsSome known kind most old.items mid.items a b (λ out. TookLesser kind i j out seen last) last) × IsLowest kind heaps (min pops.took.x pops.took.y) pops.out a) (SameBooks a b × (mid ≡ old)) (SameBooks a b × (mid ≡ old))
    → new.items ≡ reverse mid.items
    → MatchSome reply (TookSome known kind heaps most new.items a b) (SameBooks a b × (new.items ≡ [])) (SameBooks a b × (new.items ≡ []))
took_by known kind reply.Entries heaps most i j old mid new a b seen last none h turned = record {
  out = h.0.out;
  turned = turned ∙ ap reverse (h.0.brought ∙ ap (λ xs. xs ++ h.0.out) none);
  some = h.0.some;
  few = h.0.few;
  popped = h.0.popped;
  known_all = h.0.known_all;
  ascending = in_order kind h.0.out h.0.took.took.content h.0.took.took.least.0 h.0.took.took.least.1;
  left = h.0.left;
  word = min h.0.took.x h.0.took.y;
  lowest = h.1;
}
took_by known kind reply.Empty heaps most i j old mid new a b seen last none h turned = (h.0, turned ∙ ap reverse (ap (λ (v : ArrayVec Entry). v.items) h.1 ∙ none))
took_by known kind reply.Busy heaps most i j old mid new a b seen last none h turned = (h.0, turned ∙ ap reverse (ap (λ (v : ArrayVec Entry). v.items) h.1 ∙ none))

-- there is one to be visited
pub took_some : (known : ℕ → ℕ → Type 0) (kind : HeapKind) (heaps most : ℕ) (taken : List Entry) (a b : Account) → TookSome known kind heaps most taken a b → 0 < length taken
took_some known kind heaps most taken a b t = omega (arith, t.some, ap length t.turned, length-reverse t.out)

-- the first of the popped entries is visited first
pub out_is : (taken out rest : List Entry) (e : Entry) → taken ≡ reverse out → taken ≡ rest ++ e ∷ [] → out ≡ e ∷ reverse rest
out_is taken out rest e turned next = sym (reverse-reverse out) ∙ ap reverse (sym turned ∙ next) ∙ reverse-append rest (e ∷ [])

-- no key of ascending entries is below that of the first
face_above : (e : Entry) (es : List Entry) → IsLeastOf e es → e.key ≤ EMPTY → e.key ≤ face es
face_above e [] least low = low
face_above e (x ∷ es) least low = omega (arith, least.0.0, face_above e es least.1 low)

-- so it is the least of what a seat with all shares has left
least_out : (known : ℕ → ℕ → Type 0) (kind : HeapKind) (heaps most : ℕ) (taken rest : List Entry) (a b : Account) (e : Entry) (t : TookSome known kind heaps most taken a b)
    → taken ≡ rest ++ e ∷ [] → e.key ≤ EMPTY → a.shares ≡ SHARES → heaps ≡ 2 → IsFirstLeft kind e a
least_out known Buckets heaps most taken rest a b e t next low whole two =
    let is = out_is taken t.out rest e t.turned next in
    omega (arith, t.left whole e, ap (times e) is, only-same e)
least_out known Least heaps most taken rest a b e t next low whole two =
    let is = out_is taken t.out rest e t.turned next in
    let ascending : IsAscending (e ∷ reverse rest) = subst IsAscending is t.ascending in (
      omega (arith, t.left whole e, ap (times e) is, only-same e),
      λ d there. omega (arith, t.lowest whole two d there, ap face is, face_above e (reverse rest) ascending.0 low),
    )

module _ (problem : Problem) where
  IsClosedAs-idle : (bs : List Bound) (hand : List Entry) (k : TurnKind) (e : Entry) → is_idle k ≡ true → IsClosedAs problem bs hand k e
  IsClosedAs-idle bs hand Empty e i = tt
  IsClosedAs-idle bs hand Busy e i = tt
  IsClosedAs-idle bs hand Stale e i = absurd (false≢true i)
  IsClosedAs-idle bs hand Scanned e i = absurd (false≢true i)
  IsClosedAs-idle bs hand Refused e i = absurd (false≢true i)
  IsClosedAs-idle bs hand Cut e i = absurd (false≢true i)

  IsFreshAs-idle : (bs : List Bound) (k : TurnKind) (e : Entry) → is_idle k ≡ true → IsFreshAs problem.query.target bs k e
  IsFreshAs-idle bs Empty e i = tt
  IsFreshAs-idle bs Busy e i = tt
  IsFreshAs-idle bs Stale e i = tt
  IsFreshAs-idle bs Scanned e i = absurd (false≢true i)
  IsFreshAs-idle bs Refused e i = absurd (false≢true i)
  IsFreshAs-idle bs Cut e i = absurd (false≢true i)

module _ (problem : Problem) (batch : ℕ) where
  -- what a visit did, with the entries that stay taken
  pub IsVisit-progress : (from to : Kit) (n : ℕ) (end : TurnEnd) → IsVisit problem batch from to n end → Progress from to (visited_in end.turn) end.pushes end.turn.lowered
  IsVisit-progress from to n end v =
      Progress-then from (kit from.labels from.account from.words to.taken from.fresh) to (v.entry ∷ []) [] (visited_in end.turn) 0 end.pushes end.pushes 0 end.turn.lowered end.turn.lowered
      (Progress-next from.labels from.account from.words from.taken to.taken from.fresh v.entry v.next)
      (Progress-beside from.labels to.labels from.account to.account from.words to.words to.taken from.fresh to.fresh end.pushes end.turn.lowered v.visit.progress)
      v.visit.visited (sym (zero-add end.pushes)) (sym (zero-add end.turn.lowered))

module _ {kind : HeapKind} (problem : Problem) (batch heaps : ℕ) where
  pub IsTurn-idle : (r : SeatRecord) (a b : Account) (w u : Stream) (taken taken' fresh : List Entry) (n : ℕ) (end : TurnEnd)
      → SameBooks a b → taken ≡ [] → taken' ≡ [] → length fresh < batch → u ≡ after_words 2 w
      → end.turn.number ≡ n → is_idle end.turn.kind ≡ true → IsShaped end.turn → end.turn.lowered ≡ 0 → end.broken ≡ None → end.pops ≡ 1 → end.pushes ≡ 0
      → (a.shares ≡ SHARES → IsLoneAs kind heaps a end.turn.kind (entry_at end.turn.key end.turn.node))
      → IsTurn problem kind batch heaps (kit r a w taken fresh) (kit r b u taken' fresh) n end
  IsTurn-idle r a b w u taken taken' fresh n end books none none' few d number idle shaped lowered broken pops pushes lone = record {
    number_is = number;
    shaped = shaped;
    few = omega (arith, lowered);
    broken_is = IsBrokenAs-idle end.turn.kind end idle broken;
    broken_visited = λ e inside. absurd (omega (arith, (rw broken at inside).1));
    broken_inside = rw broken tt;
    pops = IsPoppingAs-one end.turn.kind end.pops pops;
    one_push_each = λ is. (pops, omega (arith, pushes, lowered));
    taken_few = omega (arith, few, ap length none');
    fresh_few = IsLeftAs-idle end.turn.kind batch (length fresh) idle few;
    progress = rw (lowered, pops, pushes, visited_as-idle end.turn.kind end.turn.key end.turn.node idle)
        (Progress-idle r a b w u taken taken' fresh books none none' d);
    reached = rw (visited_as-idle end.turn.kind end.turn.key end.turn.node idle) (All-nil (λ (e : Entry). Reaches problem.network problem.answers problem.query.sources e.node e.key));
    closed = IsClosedAs-idle problem r.bounds (option_to_list end.broken) end.turn.kind _ idle;
    fresh = IsFreshAs-idle problem r.bounds end.turn.kind _ idle;
    never_busy = λ whole. not_busy_lone kind end.turn.kind heaps a _ (lone whole);
    lone = λ nothing. lone;
  }

  -- a turn that visited one of the entries that were taken
  pub IsTurn-visited : (from to : Kit) (n : ℕ) (end : TurnEnd) → IsVisit problem batch from to n end → length from.taken < batch → IsTurn problem kind batch heaps from to n end
  IsTurn-visited from to n end v few =
      let size : length from.taken ≡ length to.taken + 1 = omega (arith, ap length v.next, length-append to.taken (v.entry ∷ [])) in
      record {
        number_is = v.visit.number_is;
        shaped = v.visit.shaped;
        few = v.visit.few;
        broken_is = v.visit.broken_is;
        broken_visited = v.visit.broken_visited;
        broken_inside = v.visit.broken_inside;
        pops = IsPoppingAs-visited end.turn.kind end.turn.key end.turn.node end.pops v.entry v.visit.visited (omega (arith, v.visit.pops));
        one_push_each = λ is. absurd (omega (arith, size, few, is));
        taken_few = omega (arith, size, few);
        fresh_few = v.visit.fresh_few;
        progress = subst (λ m. Progress from to (visited_as end.turn.kind end.turn.key end.turn.node) m end.turn.lowered) (omega (arith, v.visit.pops)) (IsVisit-progress problem batch from to n end v);
        reached = rw v.visit.visited (All-cons (λ (e : Entry). Reaches problem.network problem.answers problem.query.sources e.node e.key) v.entry [] v.reached (All-nil (λ (e : Entry). Reaches problem.network problem.answers problem.query.sources e.node e.key)));
        closed = v.visit.closed;
        fresh = v.visit.fresh;
        never_busy = λ whole. not_busy_visited end.turn.kind end.turn.key end.turn.node v.entry v.visit.visited;
        lone = λ nothing. absurd (omega (arith, size, ap length nothing));
      }

  -- a turn that popped entries and visited one of them
  pub IsTurn-popped : (known : ℕ → ℕ → Type 0) (r : SeatRecord) (a b : Account) (w u : Stream) (taken taken' fresh : List Entry) (to : Kit) (n : ℕ) (end : TurnEnd)
      → taken ≡ [] → (t : TookSome known kind heaps batch taken' a b) → u ≡ after_words 2 w → ((node time : ℕ) → known node time → time ≤ EMPTY)
      → (v : IsVisit problem batch (kit r b u taken' fresh) to n end)
      → IsTurn problem kind batch heaps (kit r a w taken fresh) to n (record { turn = end.turn; broken = end.broken; pops = 1; pushes = end.pushes })
  IsTurn-popped known r a b w u taken taken' fresh to n end none t d within v =
      let is = out_is taken' t.out to.taken v.entry t.turned v.next in
      let size : length taken' ≡ length to.taken + 1 = omega (arith, ap length v.next, length-append to.taken (v.entry ∷ [])) in
      let low : v.entry.key ≤ EMPTY = within v.entry.node v.entry.key (t.known_all v.entry (omega (arith, ap (times v.entry) is, only-same v.entry))) in
      record {
        number_is = v.visit.number_is;
        shaped = v.visit.shaped;
        few = v.visit.few;
        broken_is = v.visit.broken_is;
        broken_visited = v.visit.broken_visited;
        broken_inside = v.visit.broken_inside;
        pops = IsPoppingAs-one end.turn.kind 1 refl;
        one_push_each = λ one. (refl, v.visit.one_push_each one);
        taken_few = omega (arith, size, t.few, ap length is, ap length t.turned, same_size t.out);
        fresh_few = v.visit.fresh_few;
        progress = subst (λ ts. Progress (kit r a w ts fresh) to (visited_as end.turn.kind end.turn.key end.turn.node) (2 * 1 + end.pushes) end.turn.lowered) (sym none)
            (Progress-then (kit r a w [] fresh) (kit r b u taken' fresh) to [] (visited_as end.turn.kind end.turn.key end.turn.node) _ 2 end.pushes _ 0 end.turn.lowered _
            (Progress-took r a b w u taken' t.out fresh t.popped t.turned d) (IsVisit-progress problem batch (kit r b u taken' fresh) to n end v) (appended (visited_as end.turn.kind end.turn.key end.turn.node)) refl (omega arith));
        reached = rw v.visit.visited (All-cons (λ (e : Entry). Reaches problem.network problem.answers problem.query.sources e.node e.key) v.entry [] v.reached (All-nil (λ (e : Entry). Reaches problem.network problem.answers problem.query.sources e.node e.key)));
        closed = v.visit.closed;
        fresh = v.visit.fresh;
        never_busy = λ whole. not_busy_visited end.turn.kind end.turn.key end.turn.node v.entry v.visit.visited;
        lone = λ nothing whole. IsLoneAs-popped kind end.turn.kind heaps end.turn.key end.turn.node a v.entry v.visit.visited (least_out known kind heaps batch taken' to.taken a b v.entry t v.next low whole);
      }
    where
      appended : (xs : List Entry) → xs ≡ xs ++ []
      appended [] = refl
      appended (x ∷ xs) = ap (λ ys. x ∷ ys) (appended xs)

      same_size : (xs : List Entry) → length (reverse xs) ≡ length xs
      same_size xs = length-reverse xs

  -- a turn at whose end fresh entries were pushed
  pub IsTurn-pushed : (from : Kit) (s : SeatRecord) (b c : Account) (v z : Stream) (taken fresh fresh' : List Entry) (n : ℕ) (end : TurnEnd)
      → IsTurn problem kind batch heaps from (kit s b v taken fresh) n end
      → Progress (kit s b v [] fresh) (kit s c z [] fresh') [] 1 0
      → is_refused end.turn.kind ≡ false → 0 < length fresh → length fresh' ≤ length fresh
      → IsTurn problem kind batch heaps from (kit s c z taken fresh') n (record { turn = end.turn; broken = end.broken; pops = end.pops; pushes = end.pushes + 1 })
  IsTurn-pushed from s b c v z taken fresh fresh' n end t p not some few = record {
    number_is = t.number_is;
    shaped = t.shaped;
    few = t.few;
    broken_is = t.broken_is;
    broken_visited = t.broken_visited;
    broken_inside = t.broken_inside;
    pops = t.pops;
    one_push_each = λ is. absurd (omega (arith, some, is, IsLeftAs-one end.turn.kind batch (length fresh) not t.fresh_few));
    taken_few = t.taken_few;
    fresh_few = IsLeftAs-fewer end.turn.kind batch (length fresh) (length fresh') not few t.fresh_few;
    progress = Progress-then from (kit s b v taken fresh) (kit s c z taken fresh') (visited_as end.turn.kind end.turn.key end.turn.node) [] _ (2 * end.pops + end.pushes) 1 _ end.turn.lowered 0 _
        t.progress (Progress-beside s s b c v z taken fresh fresh' 1 0 p) refl (omega arith) (omega arith);
    reached = t.reached;
    closed = t.closed;
    fresh = t.fresh;
    never_busy = t.never_busy;
    lone = t.lone;
  }

-- a turn that visited an entry says nothing of the heaps that it inspected
pub SawAs-visited : (k : TurnKind) (key node i j : ℕ) (before after : List (ℕ × ℕ)) (e : Entry) → visited_as k key node ≡ e ∷ [] → SawAs k i j before after
SawAs-visited Empty key node i j before after e is = absurd (nil≢cons e [] is)
SawAs-visited Busy key node i j before after e is = absurd (nil≢cons e [] is)
SawAs-visited Stale key node i j before after e is = tt
SawAs-visited Scanned key node i j before after e is = tt
SawAs-visited Refused key node i j before after e is = tt
SawAs-visited Cut key node i j before after e is = tt

-- the heaps that a pop inspected, by two words drawn one after the other
pub looked_by : (reply : PoppedSome) (w v u : Stream) (x y heaps : ℕ) (before after : List (ℕ × ℕ)) → (x, v) ≡ next_u64 w → (y, u) ≡ next_u64 v
    → MatchSome reply (Unit {0}) (LookedAt (first_draw heaps x) EMPTY (second_draw heaps x y) EMPTY before after) (WasBusy (first_draw heaps x) (second_draw heaps x y) before after)
    → MatchSome reply (Unit {0}) (LookedAt (first_heap heaps w) EMPTY (second_heap heaps w) EMPTY before after) (WasBusy (first_heap heaps w) (second_heap heaps w) before after)
looked_by reply w v u x y heaps before after e f looked =
    let first : x ≡ word_after 0 w = ap (λ (p : ℕ × Stream). p.0) e in
    let second : y ≡ word_after 1 w = ap (λ (p : ℕ × Stream). p.0) f ∙ ap (λ (p : ℕ × Stream). (next_u64 p.1).0) e in
    let P : ℕ → ℕ → Type 0 = λ a b. MatchSome reply (Unit {0}) (LookedAt (first_draw heaps a) EMPTY (second_draw heaps a b) EMPTY before after) (WasBusy (first_draw heaps a) (second_draw heaps a b) before after) in
    subst (λ a. P a (word_after 1 w)) first (subst (λ b. P x b) second looked)
