use Rattle.std.proofs.Common.{◌≡◌, ℕ, ◌+◌, ◌<◌, ◌≤◌, get_or}
use Rattle.ea_road.specs.declared.source.Source.{Source}
use Rattle.ea_labels.specs.Core.{first_record}
use Rattle.ea_engine.specs.Closed.{IsReachedBy}
use Rattle.ea_engine.specs.Gathered.{AccountForAll}
use Rattle.ea_engine.specs.Grounds.{tables_of}
use Rattle.ea_engine.specs.Openings.{OpensUpTo}
use Rattle.ea_engine.specs.Seeds.{HasPushed}
use Rattle.ea_engine.proofs.SeedLemmas.{IsSown}
use Rattle.ea_engine.proofs.run.seeds.seed_all.Given as goal

abbrev pub invariant-loop-place : goal.invariant-loop-place
invariant-loop-place g l = record {
  account : AccountForAll g.K.Posed.problem (tables_of l.ground) l.ground.labels.now.nodes l.seats l.todo;
  opens : OpensUpTo l.returned l.fn.todo l.todo;
  offered : (k : ℕ) (d : Source) → k < l.place → IsReachedBy l.seats.label_seat.history.bounds (get_or l.sources k d).node (get_or l.sources k d).departure;
  step : HasPushed l.seeded l.fn.seats l.seats;
  counted : l.fn.seats.label_seat.history ≡ first_record → IsSown l.sources l.place l.seats.label_seat.history.lowerings (l.seeded + l.returned);
  tried : l.seeded + l.returned ≤ l.place;
}
