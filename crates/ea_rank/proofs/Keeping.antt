-- Keys of a record that stay.
use Rattle.std.proofs.Common.{◌≡◌, ℕ, suc, ◌+◌, ◌<◌, List, [], ◌∷◌, length, Option, Some, None, Result, Ok, Err, refl, sym, ap, ◌∙◌, arith, inl, inr}
use Rattle.std.proofs.lemmas.Bool.{cases_lt}
use Rattle.ea_machine.specs.Totals.{total}
use Rattle.ea_rank.specs.declared.event.Event.{Event}
use Rattle.ea_rank.specs.declared.event.Event.TheVariants.{Push, Pop}
use Rattle.ea_rank.specs.QueueLaws.{pushed_keys, CountSmallerKeys, TellMissingKeys, KeepKeys}
use Rattle.ea_rank.specs.Ranks.{with_key, without_key, rank_error, ranked, errors_from, queue_after, popped_keys}
use Rattle.ea_rank.proofs.Queues.{many, total-with_key, total-without_key, rank_there, rank_none}
use Rattle.ea_rank.proofs.Recording.{queue-ascending}

-- a pop that has a rank error, and the rank errors after it
pop_told : (rank : Option ℕ) (index : ℕ) (rest : Result (List ℕ) ℕ) (ranks : List ℕ) → ranked rank index rest ≡ Ok ranks → (first : ℕ) × (rank ≡ Some first) × (more : List ℕ) × (rest ≡ Ok more) × (ranks ≡ first ∷ more)
pop_told None index rest ranks told = absurd (let e : ◌≡◌ {A = Result (List ℕ) ℕ} (Err index) (Ok ranks) = told in cc)
pop_told (Some first) index (Ok more) ranks told = (first, refl, more, refl, (let e : ◌≡◌ {A = Result (List ℕ) ℕ} (Ok (first ∷ more)) (Ok ranks) = told in cc))
pop_told (Some first) index (Err other) ranks told = absurd (let e : ◌≡◌ {A = Result (List ℕ) ℕ} (Err other) (Ok ranks) = told in cc)

is_there : (key first : ℕ) (queue : List ℕ) → rank_error key queue ≡ Some first → 0 < many key queue
is_there key first queue told = elim (cases_lt 0 (many key queue)) [
  | inl some ↦ some
  | inr none ↦ absurd (let missing = rank_none key queue (omega arith) in let e : ◌≡◌ {A = Option ℕ} None (Some first) = sym missing ∙ told in cc)
]

kept_from : (index : ℕ) (queue : List ℕ) (events : List Event) (ranks : List ℕ) → errors_from index queue events ≡ Ok ranks
    → (length ranks ≡ length (popped_keys events)) × ((weight : ℕ → ℕ) → total weight (queue_after queue events) + total weight (popped_keys events) ≡ total weight queue + total weight (pushed_keys events))
kept_from index queue [] ranks told =
    let e : [] ≡ ranks = (let same : ◌≡◌ {A = Result (List ℕ) ℕ} (Ok []) (Ok ranks) = told in cc) in
    (sym (ap (λ (l : List ℕ). length l) e), λ weight. refl)
kept_from index queue (Push key ∷ events) ranks told =
    let more = kept_from (index + 1) (with_key key queue) events ranks told in
    (more.0, λ weight. omega (arith, more.1 weight, total-with_key weight key queue))
kept_from index queue (Pop key ∷ events) ranks told =
    let pop = pop_told (rank_error key queue) index (errors_from (index + 1) (without_key key queue) events) ranks told in
    let more = kept_from (index + 1) (without_key key queue) events pop.2 pop.3 in
    let there = is_there key pop.0 queue pop.1 in
    (ap (λ (l : List ℕ). length l) pop.4 ∙ ap suc more.0, λ weight. omega (arith, more.1 weight, total-without_key weight key queue there))

pub keep_keys : KeepKeys
keep_keys events ranks told =
    let kept = kept_from 0 [] events ranks told in
    (kept.0, λ weight. omega (arith, kept.1 weight))

pub count_smaller_keys : CountSmallerKeys
count_smaller_keys events key there = rank_there key (queue_after [] events) (queue-ascending [] events tt) there

pub tell_missing_keys : TellMissingKeys
tell_missing_keys events key none = rank_none key (queue_after [] events) none
