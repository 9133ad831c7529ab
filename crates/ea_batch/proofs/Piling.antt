-- The drafts on a job's pile.
use Rattle.std.proofs.Common.{◌≡◌, ℕ, ◌+◌, ◌-◌, ◌<◌, Bool, List, [], ◌∷◌, ◌++◌, length, get_or, subst, sym}
use Rattle.std.specs.Prelude.{◌≢◌, if◌then◌else◌}
use Rattle.ea_report.specs.Asked.{shape_of}
use Rattle.ea_batch.specs.declared.draft.Job.{Job}
use Rattle.ea_batch.specs.declared.draft.Made.{Made}
use Rattle.ea_batch.specs.Drafts.{AreDraftsAt, ArePiled}
use Rattle.ea_batch.proofs.Placing.{put_if, taken_out}

module _ (job : Job) where
  -- Drafts of the job's problems from their first on.
  abbrev AreOf : Made → Type 0
  AreOf made = AreDraftsAt (shape_of job.shown) job.road.now job.queries.now made.from made.drafts.items

  -- More are put on the pile, if memory suffices,
  pub piled_more : (pile after : List Made) (made : Made) (is_put : Bool) → ArePiled job pile → AreDraftsAt (shape_of job.shown) job.road.now job.queries.now made.from made.drafts.items
      → after ≡ (if is_put then pile ++ made ∷ [] else pile) → ArePiled job after
  piled_more pile after made is_put piled new is = put_if (λ n. AreOf) 0 pile after made is_put piled new is

  -- and some are taken from it:
  pub piled_less : (pile after : List Made) (i n : ℕ) → n ≡ length pile → length after + 1 ≡ n
      → ((d : Made) → i + 1 < n → get_or after i d ≡ get_or pile (n - 1) d) × ((k : ℕ) (d : Made) → k ≢ i → k + 1 < n → get_or after k d ≡ get_or pile k d)
      → ArePiled job pile → ArePiled job after
  piled_less pile after i n all less by piled = taken_out AreOf pile after i n all less by piled

  -- these.
  pub piled_at : (pile : List Made) (i from : ℕ) (made : Made) → ArePiled job pile → i < length pile → made ≡ get_or pile i made → made.from ≡ from
      → AreDraftsAt (shape_of job.shown) job.road.now job.queries.now from made.drafts.items
  piled_at pile i from made piled inside at is =
      subst (λ n. AreDraftsAt (shape_of job.shown) job.road.now job.queries.now n made.drafts.items) is (subst AreOf (sym at) (piled i made inside))
