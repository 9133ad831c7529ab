use Rattle.std.proofs.Common.{inl, inr, refl}
use Rattle.ea_search.specs.Underway.{bound_of}
use Rattle.ea_search.proofs.Entries.{AwaitsScansFrom-moved}
use Rattle.ea_search.proofs.buckets.bucket_search.search.Goals as goal

-- no arc is noted at first
pub returns-clause-had : goal.returns-clause-had
returns-clause-had g c = c.exhaust.ensures.onward.are_had (λ v u k has. absurd (c.requires.had v u k (c.begin.ensures.adds v u k has)))

-- no list has an entry, so what waits is in the waiting list
pub returns-clause-underway : goal.returns-clause-underway
returns-clause-underway g c =
    let table = (g.L.Table.labels c.exhaust.new.table) in
    AwaitsScansFrom-moved _ _ _ _ table _ _ _ c.exhaust.ensures.underway (λ v waits. elim waits [
      | inl listed ↦ listed
      | inr entered ↦ absurd (c.exhaust.ensures.none (c.exhaust.ensures.whole refl) (bound_of table v, v) entered)
    ])

pub returns-clause-none : goal.returns-clause-none
returns-clause-none g c = c.exhaust.ensures.none (c.exhaust.ensures.whole refl)
