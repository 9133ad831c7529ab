-- The record after one more event.
use Rattle.std.proofs.Common.{◌≡◌, ℕ, suc, ◌+◌, ◌<◌, List, [], ◌∷◌, ◌++◌, length, map, Option, Some, None, Result, Ok, Err, refl, sym, ap, ◌∙◌, arith}
use Rattle.std.specs.List.{AllByRecursion}
use Rattle.ea_pool.specs.declared.heap.entry.Entry.{Entry}
use Rattle.ea_machine.specs.Totals.{total}
use Rattle.ea_rank.specs.declared.event.Event.{Event}
use Rattle.ea_rank.specs.declared.event.Event.TheVariants.{Push, Pop}
use Rattle.ea_rank.specs.Ranks.{with_key, without_key, rank_error, ranked, after_ranks, errors_from, rank_errors, queue_after, popped_keys}
use Rattle.ea_rank.specs.Runs.{State, LowersNode, PopsFound, IsRecorded, weighs}
use Rattle.ea_rank.proofs.Queues.{same, less, many, fewer, same-yes, IsAscending, total-with_key, total-without_key, ascending-with_key, ascending-without_key, rank_there}
use Rattle.ea_rank.proofs.Metering.{after_ranks-twice}
use Rattle.ea_rank.proofs.Books.{takes-weighs, takes-length, exact_of_two}

abbrev then_errors : Result (List ℕ) ℕ → Result (List ℕ) ℕ → Result (List ℕ) ℕ
then_errors (Ok ranks) rest = after_ranks ranks rest
then_errors (Err index) rest = Err index

after_ranks-none : (rest : Result (List ℕ) ℕ) → after_ranks [] rest ≡ rest
after_ranks-none (Ok ranks) = refl
after_ranks-none (Err index) = refl

ranked-then : (rank : Option ℕ) (index : ℕ) (first rest : Result (List ℕ) ℕ) → ranked rank index (then_errors first rest) ≡ then_errors (ranked rank index first) rest
ranked-then None index first rest = refl
ranked-then (Some rank) index (Ok ranks) rest = after_ranks-twice (rank ∷ []) ranks rest
ranked-then (Some rank) index (Err other) rest = refl

-- the errors of a record and of what comes after it
errors-append : (index : ℕ) (queue : List ℕ) (events more : List Event) → errors_from index queue (events ++ more) ≡ then_errors (errors_from index queue events) (errors_from (index + length events) (queue_after queue events) more)
errors-append index queue [] more =
    let e : index ≡ index + 0 = omega arith in
    ap (λ (n : ℕ). errors_from n queue more) e ∙ sym (after_ranks-none (errors_from (index + 0) queue more))
errors-append index queue (Push key ∷ events) more =
    let e : index + 1 + length events ≡ index + suc (length events) = omega arith in
    errors-append (index + 1) (with_key key queue) events more
    ∙ ap (λ (n : ℕ). then_errors (errors_from (index + 1) (with_key key queue) events) (errors_from n (queue_after (with_key key queue) events) more)) e
errors-append index queue (Pop key ∷ events) more =
    let e : index + 1 + length events ≡ index + suc (length events) = omega arith in
    let first : Result (List ℕ) ℕ = errors_from (index + 1) (without_key key queue) events in
    ap (ranked (rank_error key queue) index) (errors-append (index + 1) (without_key key queue) events more)
    ∙ ranked-then (rank_error key queue) index first (errors_from (index + 1 + length events) (queue_after (without_key key queue) events) more)
    ∙ ap (λ (n : ℕ). then_errors (ranked (rank_error key queue) index first) (errors_from n (queue_after (without_key key queue) events) more)) e

queue-append : (queue : List ℕ) (events more : List Event) → queue_after queue (events ++ more) ≡ queue_after (queue_after queue events) more
queue-append queue [] more = refl
queue-append queue (Push key ∷ events) more = queue-append (with_key key queue) events more
queue-append queue (Pop key ∷ events) more = queue-append (without_key key queue) events more

pub queue-ascending : (queue : List ℕ) (events : List Event) → IsAscending queue → IsAscending (queue_after queue events)
queue-ascending queue [] up = up
queue-ascending queue (Push key ∷ events) up = queue-ascending (with_key key queue) events (ascending-with_key key queue up)
queue-ascending queue (Pop key ∷ events) up = queue-ascending (without_key key queue) events (ascending-without_key key queue up)

keys-append : (events more : List Event) → popped_keys (events ++ more) ≡ popped_keys events ++ popped_keys more
keys-append [] more = refl
keys-append (Push key ∷ events) more = keys-append events more
keys-append (Pop key ∷ events) more = ap (λ (l : List ℕ). key ∷ l) (keys-append events more)

append_none : (xs : List ℕ) → xs ++ [] ≡ xs
append_none [] = refl
append_none (x ∷ xs) = ap (λ (l : List ℕ). x ∷ l) (append_none xs)

map-append : (xs : List Entry) (x : Entry) → map (λ (e : Entry). e.key) (xs ++ x ∷ []) ≡ map (λ (e : Entry). e.key) xs ++ x.key ∷ []
map-append [] x = refl
map-append (y ∷ xs) x = ap (λ (l : List ℕ). y.key ∷ l) (map-append xs x)

all-push : (P : ℕ → Type 0) (xs : List ℕ) (x : ℕ) → AllByRecursion P xs → P x → AllByRecursion P (xs ++ x ∷ [])
all-push P [] x all h = (h, tt)
all-push P (y ∷ xs) x all h = (all.0, all-push P xs x all.1 h)

pub recorded-lowers : (node time : ℕ) (popped : List Entry) (old new : State) → IsRecorded popped old → LowersNode node time old new → IsRecorded popped new
recorded-lowers node time popped old new r m = record {
  ranks = r.ranks;
  found = ap rank_errors m.events ∙ errors-append 0 [] old.events (Push time ∷ []) ∙ ap (λ (o : Result (List ℕ) ℕ). then_errors o (Ok [])) r.found ∙ ap Ok (append_none r.ranks);
  queue = λ f. (
      let queue = ap (λ (l : List Event). total f (queue_after [] l)) m.events ∙ ap (total f) (queue-append [] old.events (Push time ∷ [])) ∙ total-with_key f time (queue_after [] old.events) in
      let was = r.queue f in
      let now = m.heaps (λ e. f e.key) in
      omega arith);
  keys = ap popped_keys m.events ∙ keys-append old.events (Push time ∷ []) ∙ append_none (popped_keys old.events) ∙ r.keys;
  exact = λ two. r.exact (sym m.count ∙ two);
}

pub recorded-pops : (first second : ℕ) (entry : Entry) (popped : List Entry) (old new : State) → IsRecorded popped old → PopsFound first second entry old new → IsRecorded (popped ++ entry ∷ []) new
recorded-pops first second entry popped old new r m = record {
  ranks = r.ranks ++ rank ∷ [];
  found = ap rank_errors m.events ∙ errors-append 0 [] old.events (Pop entry.key ∷ []) ∙ ap (λ (o : Result (List ℕ) ℕ). then_errors o (ranked (rank_error entry.key queue) (0 + length old.events) (Ok []))) r.found
      ∙ ap (λ (o : Option ℕ). after_ranks r.ranks (ranked o (0 + length old.events) (Ok []))) (rank_there entry.key queue up there);
  queue = λ f. (
      let after = ap (λ (l : List Event). total f (queue_after [] l)) m.events ∙ ap (total f) (queue-append [] old.events (Pop entry.key ∷ [])) in
      let less = total-without_key f entry.key queue there in
      let was = r.queue f in
      let now = takes (λ e. f e.key) in
      omega arith);
  keys = ap popped_keys m.events ∙ keys-append old.events (Pop entry.key ∷ []) ∙ ap (λ (l : List ℕ). l ++ entry.key ∷ []) r.keys ∙ sym (map-append popped entry);
  exact = λ two. (
      let long : length old.heaps ≡ 2 = sym (takes-length _ entry old.heaps new.heaps m.heaps.taken) ∙ two in
      all-push (λ x. x ≡ 0) r.ranks rank (r.exact long) (r.queue (less entry.key) ∙ exact_of_two (length old.heaps) _ second entry old.heaps new.heaps long refl m.heaps.taken));
}
  where
    queue : List ℕ
    queue = queue_after [] old.events

    rank : ℕ
    rank = fewer entry.key queue

    up : IsAscending queue
    up = queue-ascending [] old.events tt

    takes : (f : Entry → ℕ) → weighs f old.heaps ≡ f entry + weighs f new.heaps
    takes f = takes-weighs _ entry old.heaps new.heaps m.heaps.taken f

    there : 0 < many entry.key queue
    there = let a = r.queue (same entry.key) in let b = takes (λ e. same entry.key e.key) in let c = same-yes entry.key entry.key refl in omega arith

-- an empty queue
pub no_keys : (queue : List ℕ) → total (λ (k : ℕ). 1) queue ≡ 0 → queue ≡ []
no_keys [] none = refl
no_keys (k ∷ queue) none = absurd (omega arith)

pub recorded-none : (state : State) → state.events ≡ [] → ((f : Entry → ℕ) → weighs f state.heaps ≡ 0) → IsRecorded [] state
recorded-none state events none = record {
  ranks = [];
  found = ap rank_errors events;
  queue = λ f. ap (λ (l : List Event). total f (queue_after [] l)) events ∙ sym (none (λ e. f e.key));
  keys = ap popped_keys events;
  exact = λ two. tt;
}

-- if no entry is left, the queue is empty
pub recorded-empty : (popped : List Entry) (state : State) → weighs (λ e. 1) state.heaps ≡ 0 → IsRecorded popped state → queue_after [] state.events ≡ []
recorded-empty popped state none r = no_keys (queue_after [] state.events) (r.queue (λ k. 1) ∙ none)
