-- Records of pushes and pops, and the rank errors of their pops.
use Rattle.std.specs.Prelude.{ℕ, suc, ◌+◌, ◌==◌, nat_le, if◌then◌else◌, List, [], ◌∷◌, ◌++◌, Option, Some, None, option_map, Result, Ok, Err}
use Rattle.ea_rank.specs.declared.event.Event.{Event}
use Rattle.ea_rank.specs.declared.event.Event.TheVariants.{Push, Pop}

-- The key of an event.
abbrev pub key_of : Event → ℕ
key_of (Push key) = key
key_of (Pop key) = key

-- A queue is the ascending list of its keys. A pushed key goes before the first that isn't smaller.
abbrev pub with_key : ℕ → List ℕ → List ℕ
with_key key [] = key ∷ []
with_key key (k ∷ ks) = if nat_le key k then key ∷ k ∷ ks else k ∷ with_key key ks

-- The queue without the first such key.
abbrev pub without_key : ℕ → List ℕ → List ℕ
without_key key [] = []
without_key key (k ∷ ks) = if k == key then ks else k ∷ without_key key ks

-- The rank error of a pop of the key: the number of places before the first such key; none if the key isn't
-- in the queue.
abbrev pub rank_error : ℕ → List ℕ → Option ℕ
rank_error key [] = None
rank_error key (k ∷ ks) = if k == key then Some 0 else option_map suc (rank_error key ks)

-- A result after these ranks.
abbrev pub after_ranks : List ℕ → Result (List ℕ) ℕ → Result (List ℕ) ℕ
after_ranks ranks (Ok rest) = Ok (ranks ++ rest)
after_ranks ranks (Err index) = Err index

-- A pop at an index, with a rank or none, and the result after it.
abbrev pub ranked : Option ℕ → ℕ → Result (List ℕ) ℕ → Result (List ℕ) ℕ
ranked None index rest = Err index
ranked (Some rank) index rest = after_ranks (rank ∷ []) rest

-- The rank errors of the pops among the events, in order, from this queue and with numbers from the index on;
-- or the number of the first pop of a key that isn't in the queue.
abbrev pub errors_from : ℕ → List ℕ → List Event → Result (List ℕ) ℕ
errors_from index queue [] = Ok []
errors_from index queue (Push key ∷ events) = errors_from (index + 1) (with_key key queue) events
errors_from index queue (Pop key ∷ events) =
    ranked (rank_error key queue) index (errors_from (index + 1) (without_key key queue) events)

-- The rank errors of a record from an empty queue on.
abbrev pub rank_errors : List Event → Result (List ℕ) ℕ
rank_errors events = errors_from 0 [] events

-- The queue after the events.
abbrev pub queue_after : List ℕ → List Event → List ℕ
queue_after queue [] = queue
queue_after queue (Push key ∷ events) = queue_after (with_key key queue) events
queue_after queue (Pop key ∷ events) = queue_after (without_key key queue) events

-- The popped keys, in order.
abbrev pub popped_keys : List Event → List ℕ
popped_keys [] = []
popped_keys (Push key ∷ events) = popped_keys events
popped_keys (Pop key ∷ events) = key ∷ popped_keys events
