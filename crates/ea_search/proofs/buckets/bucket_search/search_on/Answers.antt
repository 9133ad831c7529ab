use Rattle.std.proofs.Common.{◌∙◌, inl, inr, refl}
use Rattle.ea_search.specs.Underway.{bound_of}
use Rattle.ea_search.proofs.Entries.{AwaitsScansFrom-moved}
use Rattle.ea_search.proofs.buckets.bucket_search.search_on.Goals as goal

pub exhaust-requires : goal.exhaust-requires
exhaust-requires g c = record {
  problem = c.requires.problem;
  room = c.move_in.ensures.room.nodes ∙ c.requires.room;
  underway = AwaitsScansFrom-moved _ _ _ _ (g.L.Table.labels c.args.table.now) _ _ _ c.requires.underway (λ v waits. c.move_in.ensures.rest v (inl waits));
}

-- no list has an entry, so what waits is in the waiting list
pub returns-clause-underway : goal.returns-clause-underway
returns-clause-underway g c =
    let table = (g.L.Table.labels c.exhaust.new.table) in
    AwaitsScansFrom-moved _ _ _ _ table _ _ _ c.exhaust.ensures.underway (λ v waits. elim waits [
      | inl listed ↦ listed
      | inr entered ↦ absurd (c.exhaust.ensures.none (c.exhaust.ensures.whole refl) (bound_of table v, v) entered)
    ])
