-- The rank errors of a record in other words.
use Rattle.std.specs.Prelude.{◌≡◌, ℕ, ◌+◌, ◌<◌, nat_lt, if◌then◌else◌, List, [], ◌∷◌, length, Some, None, Ok}
use Rattle.ea_machine.specs.Totals.{total}
use Rattle.ea_rank.specs.declared.event.Event.{Event}
use Rattle.ea_rank.specs.declared.event.Event.TheVariants.{Push, Pop}
use Rattle.ea_rank.specs.Ranks.{popped_keys, queue_after, rank_error, rank_errors}
use Rattle.ea_rank.specs.Records.{occurrences}

-- How many keys are smaller.
abbrev pub smaller_keys : ℕ → List ℕ → ℕ
smaller_keys key queue = total (λ k. if nat_lt k key then 1 else 0) queue

-- The pushed keys, in order.
abbrev pub pushed_keys : List Event → List ℕ
pushed_keys [] = []
pushed_keys (Push key ∷ events) = key ∷ pushed_keys events
pushed_keys (Pop key ∷ events) = pushed_keys events

-- After any events, the rank error of a key in the queue is the number of smaller keys.
abbrev pub CountSmallerKeys : Type 0
CountSmallerKeys = (events : List Event) (key : ℕ) → 0 < occurrences key (queue_after [] events)
    → rank_error key (queue_after [] events) ≡ Some (smaller_keys key (queue_after [] events))

abbrev pub TellMissingKeys : Type 0
TellMissingKeys = (events : List Event) (key : ℕ) → occurrences key (queue_after [] events) ≡ 0
    → rank_error key (queue_after [] events) ≡ None

-- No key is lost and none is added: every weighing gives the same total.
abbrev pub KeepKeys : Type 0
KeepKeys = (events : List Event) (ranks : List ℕ) → rank_errors events ≡ Ok ranks
    → (length ranks ≡ length (popped_keys events))
    × ((weight : ℕ → ℕ) → total weight (queue_after [] events) + total weight (popped_keys events) ≡ total weight (pushed_keys events))
